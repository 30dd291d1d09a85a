use Rattle.std.proofs.Common.{◌-◌}
use Rattle.cards.proofs.read.+read_chain.Given as goal

abbrev pub decreases-read_chain : goal.decreases-read_chain
decreases-read_chain g l = 17 - l.floor

use Rattle.std.proofs.Common.{arith}
use Rattle.judging.proofs.offer.Offer.lowest_no_syzygy.Goals as goal

pub returns : goal.returns
returns g c = λ j l h. c.loop-j.invariant j l (omega arith)

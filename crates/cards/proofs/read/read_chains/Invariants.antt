use Rattle.cards.specs.Reading.{Gathered}
use Rattle.cards.proofs.read.read_chains.Given as goal

abbrev pub invariant-loop-i : goal.invariant-loop-i
invariant-loop-i g l = let f = g.F.Field in Gathered f.ops f.member f.number f.order l.card.bytes.now l.i l.table

use Rattle.tables.specs.Places.{at}
use Rattle.tables.proofs.Slices.{Written}
use Rattle.tables.proofs.rows.scale.Given as goal

abbrev pub invariant-loop-x : goal.invariant-loop-x
invariant-loop-x g l = let f = g.F.Field in Written f.ops f.member (λ k. f.ops.product (f.member l.factor) (at f.ops f.member l.initial.row k)) 0 l.x-index l.initial.row l.row

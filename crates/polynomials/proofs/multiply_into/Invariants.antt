use Rattle.std.proofs.Common.{◌≡◌}
use Rattle.algebra.specs.Series.{series}
use Rattle.tables.specs.Places.{at, poly_at}
use Rattle.polynomials.proofs.multiply_into.Given as goal

abbrev pub invariant-loop-k : goal.invariant-loop-k
invariant-loop-k g l =
    let f = g.F.Field in
    at f.ops f.member l.target ≡ (series f.ops).sum (at f.ops f.member l.initial.target) ((series f.ops).product (poly_at f.ops f.member l.left 0 l.k) (at f.ops f.member l.right))

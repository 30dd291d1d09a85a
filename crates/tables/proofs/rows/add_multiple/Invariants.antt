use Rattle.std.proofs.Common.{◌+◌}
use Rattle.tables.specs.Places.{at}
use Rattle.tables.proofs.Slices.{Written}
use Rattle.tables.proofs.rows.add_multiple.Given as goal

abbrev pub invariant-loop-k : goal.invariant-loop-k
invariant-loop-k g l =
    let f = g.F.Field in
    Written f.ops f.member
    (λ k. f.ops.sum (at f.ops f.member l.initial.target (l.power + k)) (f.ops.product (f.member l.factor) (at f.ops f.member l.source k)))
    l.power l.k l.initial.target l.target

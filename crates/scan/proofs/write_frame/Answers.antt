use mathlib.Core.Path.{◌≡◌, sym, subst, ◌∙◌}
use Prim.Native.Nat.{ℕ, ◌-◌}
use native.Mathlib.Omega.{arith}
use Rattle.std.proofs.lemmas.List.{length-take-le}
use Rattle.algebra.specs.Divisors.{Combination, VectorDegree}
use Rattle.algebra.specs.Frames.{FrameColumns}
use Rattle.algebra.specs.Series.{series}
use Rattle.frames.specs.Rows.{generator_in, quotient_in, column_in}
use Rattle.tables.proofs.Parts.{poly_at_kept}
use Rattle.tables.proofs.Slices.{at_left}
use Rattle.scan.proofs.RowParts.{row_part}
use Rattle.scan.proofs.write_frame.Goals as goal

pub slice_bounds-clear-end-2 : goal.slice_bounds-clear-end-2
slice_bounds-clear-end-2 g c = omega (arith, length-take-le 1088 c.args.frame.now (omega arith))

pub scan-requires-clause-coprime : goal.scan-requires-clause-coprime
scan-requires-clause-coprime g c =
    let f = g.F.Field in
    let parts = c.split_at_mut-tables in
    subst (λ (r : ℕ → ℕ → f.Member). Combination f.ops c.args.n r (series f.ops).one) (row_part f.ops f.member c.args.work.now parts.result.0.now parts.result.1.now parts.ensures.value parts.ensures.front_len) c.requires.coprime

pub scan-requires-clause-cleared : goal.scan-requires-clause-cleared
scan-requires-clause-cleared g c = λ k l.
    let f = g.F.Field in
    let long = length-take-le 1088 c.args.frame.now (omega arith) in
    c.copy_from.ensures.others k (λ w. omega arith) ∙ at_left f.ops f.member c.clear.new.table _ k (omega (arith, c.clear.auto.table, long)) ∙ c.clear.ensures k

pub returns-clause-columns : goal.returns-clause-columns
returns-clause-columns g c =
    let f = g.F.Field in
    let parts = c.split_at_mut-tables in
    subst (λ (r : ℕ → ℕ → f.Member). (p : ℕ → ℕ) × FrameColumns f.ops (c.args.n - 1) c.args.d r p (column_in f.ops f.member c.scan.new.frame))
    (sym (row_part f.ops f.member c.args.work.now parts.result.0.now parts.result.1.now parts.ensures.value parts.ensures.front_len)) c.scan.ensures.columns

pub returns-clause-divisor : goal.returns-clause-divisor
returns-clause-divisor g c =
    let f = g.F.Field in
    poly_at_kept f.ops f.member c.copy_from.new.table c.scan.new.frame 0 1088 1088 17 c.scan.ensures.behind (λ k w v. omega arith) ∙ c.copy_from.ensures.copy

pub invariant_of-row-clause-degree : goal.invariant_of-row-clause-degree
invariant_of-row-clause-degree g c =
    let f = g.F.Field in
    let parts = c.split_at_mut-tables in
    let row : quotient_in f.ops f.member c.args.work.now ≡ generator_in f.ops f.member parts.result.1.now = row_part f.ops f.member c.args.work.now parts.result.0.now parts.result.1.now parts.ensures.value parts.ensures.front_len in
    ∣ subst (λ (r : ℕ → ℕ → f.Member). VectorDegree f.ops c.args.n r c.args.d) row c.requires.degree ∣₁

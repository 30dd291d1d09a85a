use Rattle.std.proofs.Common.{◌≡◌, ℕ, ◌+◌, ◌*◌, sym, ap, ◌∙◌, arith}
use native.Mathlib.Decide.{dec_lt}
use Rattle.tables.specs.Places.{at, poly_at}
use Rattle.tables.proofs.Parts.{poly_at_in, poly_at_is, poly_at_below}
use Rattle.judging.proofs.offer.Offer.take_columns.Goals as goal

pub loop-j-preserved : goal.loop-j-preserved
loop-j-preserved g c =
    let f = g.F.Field in
    let n = c.args.self.now.n in
    let j = c.loop-j.j in
    let offered = c.args.self.now.offered.now in
    let after = c.copy_from-in-loop-j.new.table in (
      λ t k l h. elim (dec_lt t j) [
        | yes b ↦ c.copy_from-in-loop-j.ensures.others (136 * t + k) (λ w. omega arith) ∙ c.loop-j.invariant.0 t k b h
        | no b ↦
            let e : t ≡ j = omega arith in
            ap (λ (i : ℕ). at f.ops f.member after (136 * i + k)) e
            ∙ sym (poly_at_in f.ops f.member after (136 * j) (17 * n) k h)
            ∙ ap (λ (p : ℕ → f.Member). p k) c.copy_from-in-loop-j.ensures.copy
            ∙ poly_at_in f.ops f.member offered (136 * j) (17 * n) k h
            ∙ ap (λ (i : ℕ). at f.ops f.member offered (136 * i + k)) (sym e)
      ],
      λ k h. c.copy_from-in-loop-j.ensures.others k (λ w. h j (omega arith) w) ∙ c.loop-j.invariant.1 k (λ t l w. h t (omega arith) w),
    )

pub returns-clause-copied : goal.returns-clause-copied
returns-clause-copied g c = λ j i h l.
    let f = g.F.Field in
    let offered = c.args.self.now.offered.now in
    let after = c.loop-j.frame in
    poly_at_is f.ops f.member after (136 * j + 17 * i) 17 (poly_at f.ops f.member offered (136 * j + 17 * i) 17) (poly_at_below f.ops f.member offered (136 * j + 17 * i) 17)
    (λ k b.
    let e : 136 * j + 17 * i + k ≡ 136 * j + (17 * i + k) = omega arith in
    ap (at f.ops f.member after) e
    ∙ c.loop-j.invariant.0 j (17 * i + k) (omega arith) (omega arith)
    ∙ ap (at f.ops f.member offered) (sym e)
    ∙ sym (poly_at_in f.ops f.member offered (136 * j + 17 * i) 17 k b))

pub returns-clause-divisor : goal.returns-clause-divisor
returns-clause-divisor g c =
    let f = g.F.Field in
    let start = c.copy_from.new.table in
    let after = c.loop-j.frame in
    poly_at_is f.ops f.member after 1088 17 (poly_at f.ops f.member start 1088 17) (poly_at_below f.ops f.member start 1088 17)
    (λ k b. c.loop-j.invariant.1 (1088 + k) (λ t l w. omega arith) ∙ sym (poly_at_in f.ops f.member start 1088 17 k b))
    ∙ c.copy_from.ensures.copy

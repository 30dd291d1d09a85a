-- The parts that `chunks` gives, by their numbers.
use Rattle.std.proofs.Common.{[], ◌≡◌, ℕ, ◌+◌, ◌-◌, ◌*◌, ◌/◌, ◌≤◌, ◌<◌, min, Bor, Option, Some, None, MatchOption, IfSome, List, length, take, drop, sym, ap, ap₂, ◌∙◌, subst, arith}
use native.Mathlib.Decide.{dec_lt}
use Rattle.std.proofs.Math.Nat.{lt-div-mul-add, le-mul_of_pos_right, mul-le-mul_right, mul_comm}
use Rattle.std.specs.Option.{unwrap_or}
use Rattle.std.specs.List.{IsSubsliceAt}
use Rattle.std.proofs.lemmas.List.{drop_all, take_all}
use Rattle.trial_support.proofs.blocks.part.Goals as goal

-- so many parts reach to the end
past : (n k i : ℕ) → 0 < k → min n ((n + k - 1) / k) ≤ i → n ≤ i * k
past n k i p few =
    let up : n + k - 1 < (n + k - 1) / k * k + k = lt-div-mul-add p in
    let wide : i ≤ i * k = le-mul_of_pos_right i p in
    elim (dec_lt i n) [
      | yes over ↦ let less : (n + k - 1) / k ≤ i = omega (arith, few, over) in
          let most : (n + k - 1) / k * k ≤ i * k = mul-le-mul_right k less in omega (arith, most, up)
      | no l ↦ omega (arith, wide, l)
    ]

part_of : {A : Type 0} (r at : Option (Bor (List A))) (none : Bor (List A)) (xs : List A) (k len i : ℕ) (W : Type 0) → 0 < k → none.now ≡ []
    → MatchOption r (W × (len ≤ i)) (λ x. (len ≡ i + 1) × (at ≡ Some x)) → (W → len ≡ min (length xs) ((length xs + k - 1) / k))
    → IfSome at (λ x. (0 < length x.now) × (i * k < length xs) × IsSubsliceAt k xs (i * k) x.now)
    → (unwrap_or r none).now ≡ take k (drop (i * k) xs)
part_of None at none xs k len i W p empty m all here =
    let end = past (length xs) k i p (omega (arith, all m.0, m.1)) in
    empty ∙ sym (ap (take k) (drop_all (i * k) xs end) ∙ take_all k [] (omega arith))
part_of (Some x) at none xs k len i W p empty m all here =
    let there = subst (λ y. IfSome y (λ x. (0 < length x.now) × (i * k < length xs) × IsSubsliceAt k xs (i * k) x.now)) m.1 here in
    there.2.0

pub returns : goal.returns
returns g c =
    let p = c.nth.ensures.runs.0 in
    let from = c.nth.ensures.runs.1 in
    let size : p.from.size ≡ c.args.size = ap (λ s. s.size) from ∙ c.chunks.ensures.size in
    let rest : p.from.rest.now ≡ c.args.table.now = ap (λ s. s.rest.now) from ∙ c.chunks.ensures.rest in
    let parts = c.chunks.ensures.runs p p.seen (omega (arith, size, c.requires)) in
    ap (λ y. y.now) c.unwrap_or.ensures
    ∙ part_of c.nth.result (p.at c.args.i) _ p.from.rest.now p.from.size p.len c.args.i _ (omega (arith, size, c.requires)) (cc) c.nth.ensures.runs.2 parts.1 (parts.2 c.args.i)
    ∙ ap₂ (λ k ys. take k (drop (c.args.i * k) ys)) size rest
    ∙ ap (λ j. take c.args.size (drop j c.args.table.now)) (mul_comm c.args.i c.args.size)

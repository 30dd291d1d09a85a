-- The degrees of the check columns, as a list. Main results: sum_listed, in_order and out_of_order, no_higher.
use Rattle.std.proofs.Common.{◌≡◌, ℕ, zero, suc, ◌+◌, ◌<◌, ◌≤◌, List, [], ◌∷◌, length, get_or, sum, Option, Some, None, nat_eq, MatchOption, refl, sym, ap, ap₂, ◌∙◌, subst, suc-le-suc, zero-le, add-one, inl, inr, arith, ◌-◌, ◌^◌, take, drop, length-take-le, length-drop}
use Rattle.std.specs.List.{All, AllWithin, HoldsAt}
use Rattle.std.specs.List.Sorted.{IsNonDecreasing}
use Rattle.std.specs.Option.{unwrap_or}
use Rattle.std.proofs.lemmas.Bool.Decides.{eqb_tells}
use Rattle.std.proofs.lemmas.Grind.{get_or_after_one}
use Rattle.std.proofs.lemmas.List.{get_or-take}
use Rattle.std.proofs.lemmas.List.Elements.{All-from_get_or}
use Rattle.std.proofs.lemmas.List.Sums.{sum_by-cons, sum_by-le}
use Rattle.algebra.specs.Series.{sum_below}
use Rattle.judging.specs.Answers.{Tells}
use Rattle.judging.specs.Columns.{check_degree, InOrder, NoHigher}

-- the list has the m degrees
pub record Lists (xs : List ℕ) (m : ℕ) (degree : ℕ → ℕ) : Type 0 where
  pub count : length xs ≡ m
  pub each : (j : ℕ) → j < m → get_or xs j 0 ≡ degree j

sum_listed : (xs : List ℕ) (m : ℕ) (degree : ℕ → ℕ) → Lists xs m degree → sum xs ≡ sum_below m degree
sum_listed [] zero degree listed = refl
sum_listed [] (suc m) degree listed = let e = listed.count in absurd (omega arith)
sum_listed (x ∷ xs) zero degree listed = let e = listed.count in absurd (omega arith)
sum_listed (x ∷ xs) (suc m) degree listed =
    sum_by-cons (λ y. y) x xs
    ∙ ap₂ ◌+◌ (listed.each 0 (suc-le-suc zero-le))
    (sum_listed xs m (λ j. degree (suc j)) (record { count = let e = listed.count in omega arith; each = λ j h. listed.each (suc j) (suc-le-suc h) }))

module _ (xs : List ℕ) (m : ℕ) (degree : ℕ → ℕ) (listed : Lists xs m degree) where
  -- degrees that never fall are in order where they add up to d
  pub in_order : (s d : ℕ) → s ≡ sum xs → IsNonDecreasing xs → Tells (InOrder m d degree) (nat_eq s d)
  in_order s d is rise = elim (eqb_tells s d) [
    | inl p ↦ subst (λ b. Tells (InOrder m d degree) b) (sym p.0) (never_fall, sym whole ∙ p.1)
    | inr p ↦ subst (λ b. Tells (InOrder m d degree) b) (sym p.0) (λ order. p.1 (whole ∙ order.1))
  ]
    where
      whole : s ≡ sum_below m degree
      whole = is ∙ sum_listed xs m degree listed

      never_fall : (j : ℕ) → suc j < m → degree j ≤ degree (suc j)
      never_fall j h = let e = listed.count in let a = listed.each j (omega arith) in let b = listed.each (suc j) h in let c = rise j (suc j) 0 (omega arith) (omega arith) in omega arith

  -- and those that fall are not
  pub out_of_order : (d : ℕ) → ((k : ℕ) × (k + 1 < length xs) × ((e : ℕ) → get_or xs (k + 1) e < get_or xs k e)) → InOrder m d degree → ⊥
  out_of_order d fall order =
      let k = fall.0 in
      let e = listed.count in
      let h : suc k < m = let i = fall.1 in omega arith in
      let a = listed.each k (omega arith) in
      let b = listed.each (suc k) h in
      let c : get_or xs (suc k) 0 < get_or xs k 0 = rw add-one at (fall.2 0) in
      let r = order.0 k h in
      omega arith

  -- how many of the first are at most e, by the place of the first that is higher
  pub no_higher : (e : ℕ) (r : Option ℕ) → MatchOption r (AllWithin (λ y. y ≤ e) xs 0 (length xs)) (λ i. (i < length xs) × HoldsAt (λ y. e < y) xs i × AllWithin (λ y. y ≤ e) xs 0 i)
      → NoHigher m e degree (unwrap_or r (length xs))
  no_higher e None all = record {
    within = let c = listed.count in omega arith;
    low = λ j h. let c = listed.count in let a = listed.each j (omega arith) in let b = all j 0 (omega arith) h in omega arith;
    high = λ h. let c = listed.count in absurd (omega arith);
  }
  no_higher e (Some i) found = record {
    within = let c = listed.count in let h = found.0 in omega arith;
    low = λ j h. let c = listed.count in let l = found.0 in let a = listed.each j (omega arith) in let b = found.2 j 0 (omega arith) h in omega arith;
    high = λ h. let a = listed.each i h in let b = found.1 0 in omega arith;
  }

-- the degrees of the columns behind the first
pub checks_listed : (ds : List ℕ) (n : ℕ) → 1 ≤ n → n ≤ length ds → Lists (take (n - 1) (drop 1 ds)) (n - 1) (check_degree ds)
checks_listed ds n one room = record {
  count = omega (arith, length-take-le (n - 1) (drop 1 ds) (omega (arith, length-drop 1 ds)));
  each = λ j h. get_or-take (n - 1) (drop 1 ds) j 0 h ∙ get_or_after_one ds j 0 ∙ ap (λ (i : ℕ). get_or ds i 0) (let e : 1 + j ≡ suc j = omega arith in e);
}

pub checks_small : (ds : List ℕ) (n : ℕ) → 1 ≤ n → n ≤ length ds → ((j : ℕ) → j < n → get_or ds j 0 ≤ 16) → n ≤ 8 → sum (take (n - 1) (drop 1 ds)) < 2 ^ 64
checks_small ds n one room bound few =
    let xs = take (n - 1) (drop 1 ds) in
    let listed = checks_listed ds n one room in
    let e = listed.count in
    let all : All (λ (x : ℕ). x ≤ 16) xs = All-from_get_or (λ (x : ℕ). x ≤ 16) xs 0 (λ k h. let a = listed.each k (omega arith) in let b = bound (suc k) (omega arith) in omega arith) in
    let s = sum_by-le (λ (x : ℕ). x) 16 xs all in
    omega arith

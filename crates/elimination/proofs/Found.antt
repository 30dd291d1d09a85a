-- The first entry of a column from a row on that has an inverse. Main result: pivot_found.
use Rattle.std.proofs.Common.{◌≡◌, ℕ, ◌+◌, ◌-◌, ◌<◌, ◌≤◌, true, List, [], ◌∷◌, length, get_or, Some, None, Option, sym, ap, ◌∙◌, subst, not-suc-le-zero, arith}
use native.Mathlib.Decide.{dec_lt}
use Rattle.std.specs.Option.{MatchOption, IfSome, IsSomeAnd, option_map}
use Rattle.std.specs.Iterator.Runs.{Run, IsSkipRun, ProjectsRun, ItemsMapTo, AllItems, AllItemsBelow}
use Rattle.algebra.specs.Rings.{RingOps}
use Rattle.tables.specs.Places.{at}
use Rattle.tables.proofs.Places.{at_read, at_past}
use Rattle.elimination.specs.Steps.{IsPivot}

-- some element, where there is one
some_of : {F : Type 0} (xs : List F) (k : ℕ) → k < length xs → F
some_of [] k h = absurd (not-suc-le-zero h)
some_of (x ∷ xs) k h = x

module _ {F M B : Type 0} (o : RingOps M) (member : F → M) (v : B → F) (Miss : ℕ × B → Type 0) (misses : (x : ℕ × B) → Miss x → member (v x.1) ≡ o.zero) where
  read : (m : Option (ℕ × B)) (n : ℕ) (y : F) → IfSome m (λ x. x.0 ≡ n) → option_map v (option_map (λ x. x.1) m) ≡ Some y → IsSomeAnd m (λ x. (x.0 ≡ n) × (v x.1 ≡ y))
  read None n y a e = absurd (cc)
  read (Some x) n y a e = (a, cc)

  all_miss : (m : Option (ℕ × B)) (n : ℕ) (y : F) → IsSomeAnd m (λ x. (x.0 ≡ n) × (v x.1 ≡ y)) → IfSome m Miss → member y ≡ o.zero
  all_miss None n y s h = absurd s
  all_miss (Some x) n y s h = sym (ap member s.1) ∙ misses x h

  one_miss : (m : Option (ℕ × B)) (n : ℕ) (y : F) → IsSomeAnd m (λ x. (x.0 ≡ n) × (v x.1 ≡ y)) → IsSomeAnd m Miss → member y ≡ o.zero
  one_miss None n y s h = absurd s
  one_miss (Some x) n y s h = sym (ap member s.1) ∙ misses x h

  module _ (Hit : ℕ × B → Type 0) (row : ℕ) (inverse : M) (hits : (x : ℕ × B) → Hit x → (row ≡ x.0) × (o.product (member (v x.1)) inverse ≡ o.one)) where
    hit : (m : Option (ℕ × B)) (n : ℕ) (y : F) → IsSomeAnd m (λ x. (x.0 ≡ n) × (v x.1 ≡ y)) → IsSomeAnd m Hit → (row ≡ n) × (o.product (member y) inverse ≡ o.one)
    hit None n y s h = absurd s
    hit (Some x) n y s h = ((hits x h).0 ∙ s.0, ap (λ z. o.product (member z) inverse) (sym s.1) ∙ (hits x h).1)

  module _ {S T U : Type 0} {skipping : S → Option (ℕ × B) → S → Type 0} {counting : T → Option (ℕ × B) → T → Type 0} {reading : U → Option B → U → Type 0}
      (xs : List F) (rank : ℕ) (p : Run skipping) (q : Run counting) (r : Run reading)
      (whole : q.whole ≡ p.whole) (len : p.len ≡ q.len - rank) (places : (k : ℕ) → p.at k ≡ q.at (rank + k))
      (numbers : (k : ℕ) → IfSome (q.at k) (λ x. x.0 ≡ k)) (projects : ProjectsRun q r (λ x. x.1)) (ends : r.whole ≡ q.whole) (items : ItemsMapTo r v xs) where
    item : (k : ℕ) (d : F) → k < p.len → IsSomeAnd (p.at k) (λ x. (x.0 ≡ rank + k) × (v x.1 ≡ get_or xs (rank + k) d))
    item k d h =
        subst (λ m. IsSomeAnd m (λ x. (x.0 ≡ rank + k) × (v x.1 ≡ get_or xs (rank + k) d))) (sym (places k))
        (read (q.at (rank + k)) (rank + k) (get_or xs (rank + k) d) (numbers (rank + k))
        (ap (option_map v) (sym (projects.2 (rank + k))) ∙ items.2 (rank + k) d (omega (arith, len, projects.0))))

    none_found : p.whole ≡ true → AllItems p Miss → (k : ℕ) → rank ≤ k → at o member xs k ≡ o.zero
    none_found all miss k low = elim (dec_lt k (length xs)) [
      | yes l ↦
          let d = some_of xs k l in
          let full : r.len ≡ length xs = items.1 (ends ∙ whole ∙ all) in
          let same : rank + (k - rank) ≡ k = omega arith in
          let within : k - rank < p.len = omega (arith, len, projects.0, full) in
          ap (at o member xs) (sym same) ∙ at_read o member xs (rank + (k - rank)) d (omega (arith, same)) ∙ all_miss (p.at (k - rank)) (rank + (k - rank)) (get_or xs (rank + (k - rank)) d) (item (k - rank) d within) (miss (k - rank))
      | no n ↦ at_past o member xs k (omega arith)
    ]

    one_found : (Hit : ℕ × B → Type 0) (row : ℕ) (inverse : M) → ((x : ℕ × B) → Hit x → (row ≡ x.0) × (o.product (member (v x.1)) inverse ≡ o.one))
        → (i : ℕ) → i < p.len → IsSomeAnd (p.at i) Hit → AllItemsBelow p i Miss → IsPivot o (length xs) rank (at o member xs) row inverse
    one_found Hit row inverse hits i h is below =
        let long : rank + i < length xs = omega (arith, len, projects.0, items.0) in
        let d = some_of xs (rank + i) long in
        let found = hit Hit row inverse hits (p.at i) (rank + i) (get_or xs (rank + i) d) (item i d h) is in
        let place : row ≡ rank + i = found.0 in
        record {
          low = omega (arith, place);
          within = omega (arith, place);
          inverse = ap (λ x. o.product x inverse) (ap (at o member xs) place ∙ at_read o member xs (rank + i) d long) ∙ found.1;
          zeros = λ k low l.
              let same : rank + (k - rank) ≡ k = omega arith in
              let less : k - rank < i = omega (arith, place) in
              ap (at o member xs) (sym same) ∙ at_read o member xs (rank + (k - rank)) d (omega (arith, same, long)) ∙ one_miss (p.at (k - rank)) (rank + (k - rank)) (get_or xs (rank + (k - rank)) d) (item (k - rank) d (omega arith)) (below (k - rank) less);
        }

-- what a search for the first item with an answer found, where an item that was passed is zero, and the answer at an item has its inverse
pub pivot_found : {F M B S T U P : Type 0} {skipping : S → Option (ℕ × B) → S → Type 0} {counting : T → Option (ℕ × B) → T → Type 0} {reading : U → Option B → U → Type 0}
    (o : RingOps M) (member : F → M) (v : B → F) (row : P → ℕ) (inverse : P → M) (Hit : P → ℕ × B → Type 0) (Miss : ℕ × B → Type 0) (Keeps : Type 0)
    (xs : List F) (rank : ℕ) (p : Run skipping) (q : Run counting) (r : Run reading) (result : Option P)
    → MatchOption result ((p.whole ≡ true) × (Keeps → AllItems p Miss)) (λ y. (i : ℕ) × (i < p.len) × (p.len ≡ i + 1) × (Keeps → IsSomeAnd (p.at i) (Hit y) × AllItemsBelow p i Miss))
    → IsSkipRun p q rank → ((k : ℕ) → IfSome (q.at k) (λ x. x.0 ≡ k)) → ProjectsRun q r (λ x. x.1) → r.whole ≡ q.whole → ItemsMapTo r v xs → Keeps
    → ((y : P) (x : ℕ × B) → Hit y x → (row y ≡ x.0) × (o.product (member (v x.1)) (inverse y) ≡ o.one)) → ((x : ℕ × B) → Miss x → member (v x.1) ≡ o.zero)
    → MatchOption result ((k : ℕ) → rank ≤ k → at o member xs k ≡ o.zero) (λ y. IsPivot o (length xs) rank (at o member xs) (row y) (inverse y))
pivot_found o member v row inverse Hit Miss Keeps xs rank p q r None ran skips numbers projects ends items keeps hits misses =
    none_found o member v Miss misses xs rank p q r skips.0 skips.1 skips.3 numbers projects ends items ran.0 (ran.1 keeps)
pivot_found o member v row inverse Hit Miss Keeps xs rank p q r (Some y) ran skips numbers projects ends items keeps hits misses =
    one_found o member v Miss misses xs rank p q r skips.0 skips.1 skips.3 numbers projects ends items (Hit y) (row y) (inverse y) (hits y) ran.0 ran.1 (ran.3 keeps).0 (ran.3 keeps).1

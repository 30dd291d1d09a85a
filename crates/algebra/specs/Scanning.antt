-- Walking the places of a row of n polynomials in order, from 0 on: what is known when those below q have been walked, and the columns that are read off at
-- the end.
use Rattle.std.specs.Prelude.{Bool, true, false, ◌≡◌, ℕ, suc, ◌<◌, ◌+◌, ◌*◌, ◌%◌}
use Rattle.algebra.specs.Rings.{RingOps}
use Rattle.algebra.specs.Series.{total}
use Rattle.algebra.specs.Independence.{All, Spanned}
use Rattle.algebra.specs.Divisors.{Bounded}
use Rattle.algebra.specs.Places.{place_list, Pivotal, Basic}

-- one of the places B 0 .. B (b - 1) is in class i
abbrev pub InClass : ℕ → ℕ → (ℕ → ℕ) → ℕ → Type 0
InClass n b B i = (j : ℕ) × (j < b) × (B j % n ≡ i)

-- P 0 .. P (rank - 1) are the pivotal places found, B 0 .. B (b - 1) the basic ones, both rising. E j has the multipliers by which the list at B j is made of
-- the lists at the pivotal places, and found i tells whether a basic place is in class i.
pub record Scanned {M : Type 0} (o : RingOps M) (n d : ℕ) (r : ℕ → ℕ → M) (q rank : ℕ) (P : ℕ → ℕ) (b : ℕ) (B : ℕ → ℕ) (E : ℕ → ℕ → M) (found : ℕ → Bool) : Type 0 where
  pub pivotal : (t : ℕ) → t < rank → Pivotal o n d r (P t)
  pub pivots_walked : (t : ℕ) → t < rank → P t < q
  pub pivots_rising : (s t : ℕ) → s < t → t < rank → P s < P t
  -- every list at a place walked is a sum of multiples of the lists at the pivotal places
  pub spanned : (p : ℕ) → p < q → Spanned o All rank (suc (d + d)) (λ t. place_list o n r (P t)) (place_list o n r p)
  pub basic : (j : ℕ) → j < b → Basic o n d r (B j)
  pub basics_walked : (j : ℕ) → j < b → B j < q
  pub basics_rising : (i j : ℕ) → i < j → j < b → B i < B j
  pub every : (p : ℕ) → p < q → Basic o n d r p → (j : ℕ) × (j < b) × (B j ≡ p)
  -- the multipliers of a basic place, zero but at the pivotal places below it
  pub made : (j k : ℕ) → j < b → k < suc (d + d) → place_list o n r (B j) k ≡ total o rank (λ t. o.product (E j t) (place_list o n r (P t) k))
  pub earlier : (j t : ℕ) → j < b → t < suc (d + d) → (t < rank → P t < B j → ⊥) → E j t ≡ o.zero
  -- what found tells of a class
  pub has : (i : ℕ) → i < n → found i ≡ true → InClass n b B i
  pub has_not : (i : ℕ) → i < n → found i ≡ false → InClass n b B i → ⊥

-- the vector h has degree at most d, x t at the place P t, and zero at all other places that are not excepted
pub record AtPivots {M : Type 0} (o : RingOps M) (n d rank : ℕ) (P : ℕ → ℕ) (x : ℕ → M) (excepted : ℕ → Type 0) (h : ℕ → ℕ → M) : Type 0 where
  pub bounded : Bounded o n (suc d) h
  pub at_pivot : (t i k : ℕ) → t < rank → i < n → k < suc d → P t ≡ n * k + i → h i k ≡ x t
  pub elsewhere : (i k : ℕ) → i < n → k < suc d → ((t : ℕ) → t < rank → P t ≡ n * k + i → ⊥) → (excepted (n * k + i) → ⊥) → h i k ≡ o.zero

-- Column 0 has the multipliers u of the unit list at the pivotal places. Check column j has one at the basic place B j and the negated multipliers of that place
-- at the pivotal places.
pub record ReadOff {M : Type 0} (o : RingOps M) (n d rank : ℕ) (P : ℕ → ℕ) (b : ℕ) (B : ℕ → ℕ) (E : ℕ → ℕ → M) (u : ℕ → M) (c : ℕ → ℕ → ℕ → M) : Type 0 where
  pub first : AtPivots o n d rank P u (λ q. ⊥) (c 0)
  pub check : (j : ℕ) → j < b → AtPivots o n d rank P (λ t. o.negative (E j t)) (λ q. q ≡ B j) (c (suc j))
  pub one : (j i k : ℕ) → j < b → i < n → k < suc d → n * k + i ≡ B j → c (suc j) i k ≡ o.one

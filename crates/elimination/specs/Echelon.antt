-- What elimination finds out about the columns W 0, W 1, .. taken so far: which are pivotal, and how the others are sums of multiples of
-- these.
use Rattle.std.specs.Prelude.{◌≡◌, ℕ, suc, ◌<◌, ◌≤◌, Bool, true, false, List, ◌≢◌, slice_set}
use Rattle.algebra.specs.Rings.{RingOps}
use Rattle.algebra.specs.Series.{total}
use Rattle.algebra.specs.Independence.{All, Spanned, Independent}
use Rattle.elimination.specs.Steps.{AreSteps, Reduces, Judged, rank_after, entry_at}

-- j is none of the places
abbrev pub NoPlace : ℕ → (ℕ → ℕ) → ℕ → Type 0
NoPlace rank place j = (t : ℕ) → t < rank → place t ≢ j

-- Of the first q columns, the pivotal ones are those at place 0 < place 1 < .. < place (rank - 1): these are no sums of multiples of the
-- columns before them, and the others are. The pivotal columns are independent, and every column is a sum of multiples of them.
pub record Echelon {M : Type 0} (o : RingOps M) (rows : ℕ) (W : ℕ → ℕ → M) (q rank : ℕ) (place : ℕ → ℕ) : Type 0 where
  pub bound : rank ≤ rows
  pub within : (t : ℕ) → t < rank → place t < q
  pub rising : (s t : ℕ) → s < t → t < rank → place s < place t
  pub pivotal : (t : ℕ) → t < rank → Spanned o All (place t) rows W (W (place t)) → ⊥
  pub non_pivotal : (j : ℕ) → j < q → NoPlace rank place j → Spanned o All j rows W (W j)
  pub independent : Independent o All rank rows (λ t. W (place t))
  pub spans : (j : ℕ) → j < q → Spanned o All rank rows (λ t. W (place t)) (W j)

-- Each of the first q columns that is not pivotal is the sum of the pivotal columns times the entries of its reduced column E j, which
-- has zeros where the pivotal column is not before it.
pub record Relations {M : Type 0} (o : RingOps M) (rows : ℕ) (W E : ℕ → ℕ → M) (q rank : ℕ) (place : ℕ → ℕ) : Type 0 where
  pub is : (j : ℕ) → j < q → NoPlace rank place j → (r : ℕ) → r < rows → W j r ≡ total o rank (λ t. o.product (E j t) (W (place t) r))
  pub zeros : (j t : ℕ) → j < q → NoPlace rank place j → (t < rank → j < place t) → E j t ≡ o.zero

-- the steps e, p have been made of the first q columns, of which the pivotal ones are turned into the unit vectors
pub record Eliminated {M : Type 0} (o : RingOps M) (rows : ℕ) (W : ℕ → ℕ → M) (q rank : ℕ) (e : ℕ → ℕ → M) (p place : ℕ → ℕ) : Type 0 where
  pub valid : AreSteps o rows rank e p
  pub turns : Reduces o rows rank e p (λ t. W (place t))
  pub echelon : Echelon o rows W q rank place

-- the list of places after column q, by whether it is pivotal
abbrev pub places_after : ℕ → ℕ → List ℕ → Bool → List ℕ
places_after rank q places true = slice_set places rank q
places_after rank q places false = places

-- Column q is taken as c, and E is what is left in its place: if c is W q and the steps e, p are made of the columns before it, then f,
-- p' are made of these and of W q.
pub record TakesNext {M : Type 0} (o : RingOps M) (rows q rank : ℕ) (e : ℕ → ℕ → M) (p : ℕ → ℕ) (places : List ℕ) (c : ℕ → M) (f : ℕ → ℕ → M) (p' : ℕ → ℕ) (E : ℕ → M) (pivotal : Bool) : Type 0 where
  pub judged : (W : ℕ → ℕ → M) → ((r : ℕ) → r < rows → c r ≡ W q r) → Eliminated o rows W q rank e p (entry_at places) → Judged o rows rank (λ t. W (entry_at places t)) (W q) E pivotal
  pub eliminated : (W : ℕ → ℕ → M) → ((r : ℕ) → r < rows → c r ≡ W q r) → Eliminated o rows W q rank e p (entry_at places) → Eliminated o rows W (suc q) (rank_after rank pivotal) f p' (entry_at (places_after rank q places pivotal))

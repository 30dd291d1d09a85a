-- Vectors over a part P of a ring: their combinations, dependence and independence, and solutions of linear equations. P is all members, or
-- the polynomials among the series.
use Rattle.std.specs.Prelude.{◌≡◌, ℕ, ◌<◌}
use Rattle.algebra.specs.Rings.{RingOps}
use Rattle.algebra.specs.Series.{total, dot}

-- the part of a ring that is all of it
abbrev pub All : {R : Type 0} → R → Type 0
All x = Unit {0}

-- the part P of a ring is an integral domain in which zero is decidable
pub record Domain {R : Type 0} (o : RingOps R) (P : R → Type 0) : Type 0 where
  pub zero_in : P o.zero
  pub one_in : P o.one
  pub sum_in : (x y : R) → P x → P y → P (o.sum x y)
  pub negative_in : (x : R) → P x → P (o.negative x)
  pub product_in : (x y : R) → P x → P y → P (o.product x y)
  pub one_nonzero : o.one ≡ o.zero → ⊥
  pub zero_decides : (x : R) → P x → Dec (x ≡ o.zero)
  pub zero_of_product : (x y : R) → P x → P y → (x ≡ o.zero → ⊥) → o.product x y ≡ o.zero → y ≡ o.zero

-- one of q members is not zero
pub record NotAllZero {R : Type 0} (o : RingOps R) (q : ℕ) (x : ℕ → R) : Type 0 where
  pub place : ℕ
  pub within : place < q
  pub nonzero : x place ≡ o.zero → ⊥

-- a solution in P, not all zero, of m equations in q unknowns: row i of A has the coefficients of equation i
pub record Solution {R : Type 0} (o : RingOps R) (P : R → Type 0) (m q : ℕ) (A : ℕ → ℕ → R) : Type 0 where
  pub unknown : ℕ → R
  pub inside : (j : ℕ) → j < q → P (unknown j)
  pub not_all_zero : NotAllZero o q unknown
  pub solves : (i : ℕ) → i < m → dot o q (A i) unknown ≡ o.zero

-- y, of width w, is a sum of multiples of v 0 .. v (t - 1)
pub record Spanned {R : Type 0} (o : RingOps R) (P : R → Type 0) (t w : ℕ) (v : ℕ → ℕ → R) (y : ℕ → R) : Type 0 where
  pub factor : ℕ → R
  pub inside : (j : ℕ) → j < t → P (factor j)
  pub is : (k : ℕ) → k < w → y k ≡ total o t (λ j. o.product (factor j) (v j k))

-- a sum of multiples of v 0 .. v (q - 1), not all multiples zero, is zero
pub record Dependent {R : Type 0} (o : RingOps R) (P : R → Type 0) (q w : ℕ) (v : ℕ → ℕ → R) : Type 0 where
  pub factor : ℕ → R
  pub inside : (j : ℕ) → j < q → P (factor j)
  pub not_all_zero : NotAllZero o q factor
  pub is : (k : ℕ) → k < w → total o q (λ j. o.product (factor j) (v j k)) ≡ o.zero

-- a sum of multiples of v 0 .. v (t - 1) is zero only where each multiple is
abbrev pub Independent : {R : Type 0} → RingOps R → (R → Type 0) → ℕ → ℕ → (ℕ → ℕ → R) → Type 0
Independent {R} o P t w v =
    (x : ℕ → R)
    → ((j : ℕ) → j < t → P (x j))
    → ((k : ℕ) → k < w → total o t (λ j. o.product (x j) (v j k)) ≡ o.zero)
    → (j : ℕ) → j < t → x j ≡ o.zero

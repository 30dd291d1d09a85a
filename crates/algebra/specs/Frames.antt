-- The frame of a row r of m + 1 polynomials of degree d of which some combination is 1: column 0 and m check columns, by their places.
use Rattle.std.specs.Prelude.{◌≡◌, ℕ, suc, ◌<◌, ◌+◌, ◌*◌}
use Rattle.algebra.specs.Rings.{RingOps}
use Rattle.algebra.specs.Series.{dot, series}
use Rattle.algebra.specs.Divisors.{Bounded, MonicGcd, DividedRow, VectorDegree}
use Rattle.algebra.specs.Places.{NonPivotal, BasicPlaces}

-- h has degree at most d and is zero at the non-pivotal places that are not excepted
pub record ZeroOffPivotal {M : Type 0} (o : RingOps M) (n d : ℕ) (r : ℕ → ℕ → M) (excepted : ℕ → Type 0) (h : ℕ → ℕ → M) : Type 0 where
  pub bounded : Bounded o n (suc d) h
  pub zero_off : (i k : ℕ) → i < n → k < suc d → NonPivotal o n d r (n * k + i) → (excepted (n * k + i) → ⊥) → h i k ≡ o.zero

-- Column 0 is zero off the pivotal places and its product with r is 1. Check column j has 1 at the j-th basic place p j, is otherwise zero off
-- the pivotal places, and its product with r is zero.
pub record FrameColumns {M : Type 0} (o : RingOps M) (m d : ℕ) (r : ℕ → ℕ → M) (p : ℕ → ℕ) (c : ℕ → ℕ → ℕ → M) : Type 0 where
  pub places : BasicPlaces o (suc m) d r m p
  pub first_off : ZeroOffPivotal o (suc m) d r (λ q. ⊥) (c 0)
  pub first : dot (series o) (suc m) r (c 0) ≡ (series o).one
  pub check_off : (j : ℕ) → j < m → ZeroOffPivotal o (suc m) d r (λ q. q ≡ p j) (c (suc j))
  pub check_one : (j i k : ℕ) → j < m → i < suc m → suc m * k + i ≡ p j → c (suc j) i k ≡ o.one
  pub check : (j : ℕ) → j < m → dot (series o) (suc m) r (c (suc j)) ≡ (series o).zero

-- g and the columns c are the frame of the row a: g is its monic gcd, and c are the frame columns of the row divided by g
pub record IsFrame {M : Type 0} (o : RingOps M) (m : ℕ) (a : ℕ → ℕ → M) (g : ℕ → M) (d : ℕ) (c : ℕ → ℕ → ℕ → M) : Type 0 where
  pub divisor : MonicGcd o (suc m) a g
  pub row : ℕ → ℕ → M
  pub divided : DividedRow o (suc m) a g row
  pub degree : VectorDegree o (suc m) row d
  pub place : ℕ → ℕ
  pub columns : FrameColumns o m d row place c

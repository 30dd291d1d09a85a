-- The test by degrees of columns for a row of m + 1 polynomials, with g its monic gcd and d the degree of the row divided by it.
use Rattle.std.specs.Prelude.{◌≡◌, ℕ, suc, ◌≤◌, ◌<◌}
use Rattle.algebra.specs.Rings.{RingOps}
use Rattle.algebra.specs.Series.{sum_below, total, dot, series}
use Rattle.algebra.specs.Divisors.{VectorDegree}
use Rattle.algebra.specs.Independence.{All, Independent}
use Rattle.algebra.specs.Optimal.{Syzygy}

pub record PassesTest {M : Type 0} (o : RingOps M) (m : ℕ) (a : ℕ → ℕ → M) (g : ℕ → M) (d : ℕ) (c : ℕ → ℕ → ℕ → M) : Type 0 where
  -- the row times column 0 is g, and times each check column zero
  pub first : dot (series o) (suc m) a (c 0) ≡ g
  pub check : (j : ℕ) → j < m → Syzygy o (suc m) a (c (suc j))
  -- each check column is nonzero, with a degree; the degrees never fall and add up to d
  pub degree : ℕ → ℕ
  pub degrees : (j : ℕ) → j < m → VectorDegree o (suc m) (c (suc j)) (degree j)
  pub never_fall : (j : ℕ) → suc j < m → degree j ≤ degree (suc j)
  pub degrees_sum : sum_below m degree ≡ d
  -- their leading vectors are independent
  pub independent : Independent o All m (suc m) (λ j i. c (suc j) i (degree j))
  -- column 0's leading vector is outside the combinations of leading vectors of check columns of no higher degree
  pub outside : (e : ℕ) → VectorDegree o (suc m) (c 0) e → (x : ℕ → M)
      → ((j : ℕ) → j < m → e < degree j → x j ≡ o.zero)
      → ((i : ℕ) → i < suc m → c 0 i e ≡ total o m (λ j. o.product (x j) (c (suc j) i (degree j)))) → ⊥

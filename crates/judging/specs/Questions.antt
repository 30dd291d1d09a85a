-- The questions about degrees, of columns of n components, of which m are check columns. The clauses of the judge cite it; it assumes
-- nothing.
use Rattle.std.specs.Prelude.{◌≡◌, ℕ, suc, ◌<◌, ◌≤◌}
use Rattle.algebra.specs.Rings.{RingOps}
use Rattle.algebra.specs.Series.{sum_below, total}
use Rattle.algebra.specs.Divisors.{VectorDegree}
use Rattle.algebra.specs.Independence.{All, Independent}
use Rattle.judging.specs.declared.objection.Objection.{Objection}
use Rattle.judging.specs.declared.objection.Objection.TheVariants.{Degrees, Leading}

-- each check column is nonzero, the degrees never fall and add up to d, and the leading vectors are independent
pub record InDegree {M : Type 0} (o : RingOps M) (n m d : ℕ) (c : ℕ → ℕ → ℕ → M) : Type 0 where
  pub degree : ℕ → ℕ
  pub degrees : (j : ℕ) → j < m → VectorDegree o n (c (suc j)) (degree j)
  pub never_fall : (j : ℕ) → suc j < m → degree j ≤ degree (suc j)
  pub degrees_sum : sum_below m degree ≡ d
  pub independent : Independent o All m n (λ j i. c (suc j) i (degree j))

-- column 0's leading vector is outside the combinations of the leading vectors of check columns of no higher degree
abbrev pub FirstOutside : {M : Type 0} → RingOps M → (n m : ℕ) → (ℕ → ℕ → ℕ → M) → Type 0
FirstOutside {M} o n m c =
    (degree : ℕ → ℕ) (e : ℕ) → ((j : ℕ) → j < m → VectorDegree o n (c (suc j)) (degree j)) → VectorDegree o n (c 0) e
    → (x : ℕ → M) → ((j : ℕ) → j < m → e < degree j → x j ≡ o.zero)
    → ((i : ℕ) → i < n → c 0 i e ≡ total o m (λ j. o.product (x j) (c (suc j) i (degree j)))) → ⊥

-- the first of the two questions that is answered no
pub data ObjectsByDegree {M : Type 0} (o : RingOps M) (n m d : ℕ) (c : ℕ → ℕ → ℕ → M) (x : Objection) : Type 0 where
  not_in_degree : x ≡ Degrees → (InDegree o n m d c → ⊥) → ObjectsByDegree o n m d c x
  first_inside : x ≡ Leading → InDegree o n m d c → (FirstOutside o n m c → ⊥) → ObjectsByDegree o n m d c x

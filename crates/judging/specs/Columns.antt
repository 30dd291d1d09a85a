-- Offered columns: their products with the generators, their degrees and their leading vectors. The clauses of the questions cite it; it
-- assumes nothing.
use Rattle.std.specs.Prelude.{◌≡◌, ℕ, suc, ◌<◌, ◌≤◌, List}
use Rattle.algebra.specs.Rings.{RingOps}
use Rattle.algebra.specs.Series.{sum_below}
use Rattle.algebra.specs.Optimal.{Syzygy}
use Rattle.elimination.specs.Steps.{entry_at}
use Rattle.framing.specs.Framing.{column_in}

-- the row sends every check column to zero
abbrev pub AllSyzygies : {M : Type 0} → RingOps M → ℕ → (ℕ → ℕ → M) → (ℕ → ℕ → ℕ → M) → Type 0
AllSyzygies o n a c = (j : ℕ) → 1 ≤ j → j < n → Syzygy o n a (c j)

-- check column j is the lowest that the row does not send to zero
pub record LowestNoSyzygy {M : Type 0} (o : RingOps M) (n : ℕ) (a : ℕ → ℕ → M) (c : ℕ → ℕ → ℕ → M) (j : ℕ) : Type 0 where
  pub low : 1 ≤ j
  pub within : j < n
  pub before : (i : ℕ) → 1 ≤ i → i < j → Syzygy o n a (c i)
  pub here : Syzygy o n a (c j) → ⊥

-- m degrees never fall, and add up to d
abbrev pub InOrder : (m d : ℕ) → (ℕ → ℕ) → Type 0
InOrder m d degree = ((j : ℕ) → suc j < m → degree j ≤ degree (suc j)) × (sum_below m degree ≡ d)

-- the first count of m degrees are at most e, and the one behind them is not
pub record NoHigher (m e : ℕ) (degree : ℕ → ℕ) (count : ℕ) : Type 0 where
  pub within : count ≤ m
  pub low : (j : ℕ) → j < count → degree j ≤ e
  pub high : count < m → e < degree count

-- the degree of the check column behind j others, by a list of the degrees of all columns
abbrev pub check_degree : List ℕ → ℕ → ℕ
check_degree degrees j = entry_at degrees (suc j)

-- the coefficients of column j at a degree
abbrev pub coefficients_in : {F M : Type 0} → RingOps M → (F → M) → List F → (j degree : ℕ) → ℕ → M
coefficients_in o member offered j degree i = column_in o member offered j i degree

-- the leading vector of the check column behind j others
abbrev pub check_leading : {F M : Type 0} → RingOps M → (F → M) → List F → List ℕ → ℕ → ℕ → M
check_leading o member offered degrees j = coefficients_in o member offered (suc j) (check_degree degrees j)

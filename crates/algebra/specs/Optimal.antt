-- Degree-optimal columns for a row of m + 1 polynomials: column 0 and the m check columns behind it. Component i of column j is the polynomial c j i.
use Rattle.std.specs.Prelude.{◌≡◌, ℕ, suc, ◌<◌}
use Rattle.algebra.specs.Rings.{RingOps}
use Rattle.algebra.specs.Series.{total, dot, series, Polynomial}
use Rattle.algebra.specs.Divisors.{Bounded, MonicGcd}
use Rattle.algebra.specs.Independence.{Independent}

-- h is a vector of n polynomials
abbrev pub PolynomialVector : {M : Type 0} → RingOps M → ℕ → (ℕ → ℕ → M) → Type 0
PolynomialVector o n h = (i : ℕ) → i < n → Polynomial o (h i)

-- the degree of e is at most that of h: what bounds h bounds e
abbrev pub DegreeAtMost : {M : Type 0} → RingOps M → ℕ → (ℕ → ℕ → M) → (ℕ → ℕ → M) → Type 0
DegreeAtMost o n e h = (N : ℕ) → Bounded o n N h → Bounded o n N e

-- the row sends h to zero
abbrev pub Syzygy : {M : Type 0} → RingOps M → ℕ → (ℕ → ℕ → M) → (ℕ → ℕ → M) → Type 0
Syzygy o n a h = dot (series o) n a h ≡ (series o).zero

-- h is exactly one sum of polynomial multiples of u 0 .. u (m - 1), and no term has a higher degree than h
pub record ExactlyOneSum {M : Type 0} (o : RingOps M) (n m : ℕ) (u : ℕ → ℕ → ℕ → M) (h : ℕ → ℕ → M) : Type 0 where
  pub factor : ℕ → ℕ → M
  pub polynomials : (j : ℕ) → j < m → Polynomial o (factor j)
  pub is : (i : ℕ) → i < n → h i ≡ total (series o) m (λ j. (series o).product (factor j) (u j i))
  pub no_higher : (j : ℕ) → j < m → DegreeAtMost o n (λ i. (series o).product (factor j) (u j i)) h
  pub unique : (x : ℕ → ℕ → M) → ((j : ℕ) → j < m → Polynomial o (x j))
      → ((i : ℕ) → i < n → h i ≡ total (series o) m (λ j. (series o).product (x j) (u j i))) → (j : ℕ) → j < m
      → x j ≡ factor j

-- m syzygies, independent over polynomials, with degrees that never fall
pub record OrderedSyzygies {M : Type 0} (o : RingOps M) (n m : ℕ) (a : ℕ → ℕ → M) (w : ℕ → ℕ → ℕ → M) : Type 0 where
  pub polynomials : (j : ℕ) → j < m → PolynomialVector o n (w j)
  pub syzygies : (j : ℕ) → j < m → Syzygy o n a (w j)
  pub independent : Independent (series o) (Polynomial o) m n w
  pub never_fall : (j : ℕ) → suc j < m → DegreeAtMost o n (w j) (w (suc j))

-- The columns c are degree-optimal for the row a with divisor g.
pub record DegreeOptimal {M : Type 0} (o : RingOps M) (m : ℕ) (a : ℕ → ℕ → M) (g : ℕ → M) (c : ℕ → ℕ → ℕ → M) : Type 0 where
  -- the row times column 0 is its monic gcd, and every vector of polynomials for which it is has at least the degree of column 0
  pub divisor : MonicGcd o (suc m) a g
  pub first : dot (series o) (suc m) a (c 0) ≡ g
  pub first_least : (h : ℕ → ℕ → M) → PolynomialVector o (suc m) h → dot (series o) (suc m) a h ≡ g → DegreeAtMost o (suc m) (c 0) h
  -- every vector that the row sends to zero is exactly one sum of multiples of the check columns, no term exceeding its degree
  pub basis : (h : ℕ → ℕ → M) → PolynomialVector o (suc m) h → Syzygy o (suc m) a h → ExactlyOneSum o (suc m) m (λ j. c (suc j)) h
  -- m independent syzygies in order of degree have at least the degrees of the check columns, one by one
  pub least : (w : ℕ → ℕ → ℕ → M) → OrderedSyzygies o (suc m) m a w → (j : ℕ) → j < m → DegreeAtMost o (suc m) (c (suc j)) (w j)

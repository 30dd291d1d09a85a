-- Division with remainder, divisors, the monic greatest common divisor of a row of polynomials, and the row divided by it.
use Rattle.std.specs.Prelude.{◌≡◌, ℕ, suc, ◌<◌}
use Rattle.algebra.specs.Rings.{RingOps}
use Rattle.algebra.specs.Series.{dot, series, Below, Polynomial}

-- f divided by a polynomial b of degree e: a quotient, and a remainder below s^e
pub record Division {M : Type 0} (o : RingOps M) (e : ℕ) (f b : ℕ → M) : Type 0 where
  pub quotient : ℕ → M
  pub remainder : ℕ → M
  pub polynomial : Polynomial o quotient
  pub small : Below o e remainder
  pub is : f ≡ (series o).sum ((series o).product b quotient) remainder

-- f is b times a polynomial
pub record Divides {M : Type 0} (o : RingOps M) (b f : ℕ → M) : Type 0 where
  pub quotient : ℕ → M
  pub polynomial : Polynomial o quotient
  pub is : (series o).product b quotient ≡ f

-- g is the row a times a vector of polynomials
pub record Combination {M : Type 0} (o : RingOps M) (n : ℕ) (a : ℕ → ℕ → M) (g : ℕ → M) : Type 0 where
  pub vector : ℕ → ℕ → M
  pub polynomials : (i : ℕ) → i < n → Polynomial o (vector i)
  pub is : dot (series o) n a vector ≡ g

-- g has one as its highest nonzero coefficient
pub record Monic {M : Type 0} (o : RingOps M) (g : ℕ → M) : Type 0 where
  pub degree : ℕ
  pub leading : g degree ≡ o.one
  pub below : Below o (suc degree) g

-- g is the monic greatest common divisor of the row a: it divides each, and every polynomial that divides each divides it
pub record MonicGcd {M : Type 0} (o : RingOps M) (n : ℕ) (a : ℕ → ℕ → M) (g : ℕ → M) : Type 0 where
  pub monic : Monic o g
  pub divides : (i : ℕ) → i < n → Divides o g (a i)
  pub greatest : (h : ℕ → M) → Polynomial o h → ((i : ℕ) → i < n → Divides o h (a i)) → Divides o h g

-- every polynomial of the row is zero
abbrev pub AllZero : {M : Type 0} → RingOps M → ℕ → (ℕ → ℕ → M) → Type 0
AllZero o n a = (i : ℕ) → i < n → a i ≡ (series o).zero

-- the monic greatest common divisor of a row, as a combination of the row
pub record GcdOfRow {M : Type 0} (o : RingOps M) (n : ℕ) (a : ℕ → ℕ → M) : Type 0 where
  pub divisor : ℕ → M
  pub gcd : MonicGcd o n a divisor
  pub combination : Combination o n a divisor

-- r is the row a divided by g
pub record DividedRow {M : Type 0} (o : RingOps M) (n : ℕ) (a : ℕ → ℕ → M) (g : ℕ → M) (r : ℕ → ℕ → M) : Type 0 where
  pub polynomials : (i : ℕ) → i < n → Polynomial o (r i)
  pub is : (i : ℕ) → i < n → (series o).product g (r i) ≡ a i

-- each of the n polynomials of h is below s^N
abbrev pub Bounded : {M : Type 0} → RingOps M → ℕ → ℕ → (ℕ → ℕ → M) → Type 0
Bounded o n N h = (i : ℕ) → i < n → Below o N (h i)

-- d is the highest degree of the n polynomials of h
pub record VectorDegree {M : Type 0} (o : RingOps M) (n : ℕ) (h : ℕ → ℕ → M) (d : ℕ) : Type 0 where
  pub bounded : Bounded o n (suc d) h
  pub component : ℕ
  pub within : component < n
  pub top : h component d ≡ o.zero → ⊥

-- f is the row times a vector below s^N
pub record BoundedCombination {M : Type 0} (o : RingOps M) (n N : ℕ) (a : ℕ → ℕ → M) (f : ℕ → M) : Type 0 where
  pub vector : ℕ → ℕ → M
  pub bounded : Bounded o n N vector
  pub is : dot (series o) n a vector ≡ f

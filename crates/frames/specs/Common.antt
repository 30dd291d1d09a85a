-- Common divisors. The clauses of Euclid's algorithm cite it; it assumes nothing.
use Rattle.std.specs.Prelude.{◌≡◌, ℕ, suc, ◌<◌, ◌↔◌, Some, None, Option}
use Rattle.algebra.specs.Rings.{RingOps}
use Rattle.algebra.specs.Divisors.{Divides}
use Rattle.algebra.specs.Series.{series, Below}

-- f and g have the common divisors that p and q have
abbrev pub SameCommon : {R : Type 0} → RingOps R → (f g p q : ℕ → R) → Type 0
SameCommon {R} o f g p q = (h : ℕ → R) → (Divides o h p × Divides o h q) ↔ (Divides o h f × Divides o h g)

-- the divisors of d are the common divisors of f and g
abbrev pub GcdOfPair : {R : Type 0} → RingOps R → (f g d : ℕ → R) → Type 0
GcdOfPair {R} o f g d = (h : ℕ → R) → Divides o h d ↔ (Divides o h f × Divides o h g)

-- the divisors of d are the common divisors of the first n polynomials of the row a
abbrev pub GcdOfFirst : {R : Type 0} → RingOps R → ℕ → (ℕ → ℕ → R) → (ℕ → R) → Type 0
GcdOfFirst {R} o n a d = (h : ℕ → R) → Divides o h d ↔ ((i : ℕ) → i < n → Divides o h (a i))

-- g is monic, of degree e below 17, and has the divisors of f
pub record MonicLike {R : Type 0} (o : RingOps R) (f g : ℕ → R) (e : ℕ) : Type 0 where
  pub within : e < 17
  pub leading : g e ≡ o.one
  pub below : Below o (suc e) g
  pub divisors : (h : ℕ → R) → Divides o h g ↔ Divides o h f

-- f made monic, with its degree, absent for zero only
abbrev pub MadeMonic : {R : Type 0} → RingOps R → (f g : ℕ → R) → Option ℕ → Type 0
MadeMonic o f g None = (f ≡ (series o).zero) × (g ≡ (series o).zero)
MadeMonic o f g (Some e) = MonicLike o f g e

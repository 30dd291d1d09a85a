-- What the calls on polynomials in tables answer. Their clauses cite it; it assumes nothing.
use Rattle.std.specs.Prelude.{◌≡◌, ℕ, ◌<◌, Some, None, Option}
use Rattle.algebra.specs.Divisors.{Division}
use Rattle.algebra.specs.Rings.{RingOps}
use Rattle.algebra.specs.Series.{series, Degree}

-- the degree of f, a polynomial of that many coefficients, absent for zero only
abbrev pub DegreeOf : {R : Type 0} → RingOps R → ℕ → (ℕ → R) → Option ℕ → Type 0
DegreeOf o width f None = f ≡ (series o).zero
DegreeOf o width f (Some e) = (e < width) × Degree o f e

-- r is the remainder of f by b, a polynomial of degree e
abbrev pub LeavesRemainder : {R : Type 0} → RingOps R → ℕ → (ℕ → R) → (ℕ → R) → (ℕ → R) → Type 0
LeavesRemainder o e f b r = (d : Division o e f b) × (d.remainder ≡ r)

-- A row of generators, its greatest common divisor and the row divided by it, where they stand in the tables. The clauses of
-- `divide_by_gcd` cite it, and those of frames the columns.
use Rattle.std.specs.Prelude.{◌≡◌, ℕ, ◌+◌, ◌*◌, ◌⊎◌, List}
use Rattle.algebra.specs.Rings.{RingOps}
use Rattle.algebra.specs.Divisors.{MonicGcd, DividedRow, VectorDegree, AllZero}
use Rattle.algebra.specs.Series.{Degree}
use Rattle.tables.specs.Places.{at, Within, poly_at}

-- polynomial i of those that stand one behind the other from base on
abbrev pub row_in : {F R : Type 0} → RingOps R → (F → R) → List F → ℕ → ℕ → ℕ → R
row_in o member table base i = poly_at o member table (base + 17 * i) 17

-- generator i, in the table of generators
abbrev pub generator_in : {F R : Type 0} → RingOps R → (F → R) → List F → ℕ → ℕ → R
generator_in o member generators i = poly_at o member generators (17 * i) 17

-- component i of column j, in the table of a frame
abbrev pub column_in : {F R : Type 0} → RingOps R → (F → R) → List F → ℕ → ℕ → ℕ → R
column_in o member frame j = row_in o member frame (136 * j)

-- the divisor, in the work table
abbrev pub gcd_in : {F R : Type 0} → RingOps R → (F → R) → List F → ℕ → R
gcd_in o member work = poly_at o member work 4368 17

-- polynomial i of the divided row, in the work table
abbrev pub quotient_in : {F R : Type 0} → RingOps R → (F → R) → List F → ℕ → ℕ → R
quotient_in o member work i = poly_at o member work (4385 + 17 * i) 17

-- every place outside a part holds zero
abbrev pub ZeroOutside : {F R : Type 0} → RingOps R → (F → R) → ℕ → ℕ → List F → Type 0
ZeroOutside o member base width xs = (k : ℕ) → (Within base width k → ⊥) → at o member xs k ≡ o.zero

-- d is the highest degree of the row, or all of it is zero
abbrev pub Highest : {R : Type 0} → RingOps R → ℕ → (ℕ → ℕ → R) → ℕ → Type 0
Highest o n h d = (AllZero o n h × (d ≡ 0)) ⊎ VectorDegree o n h d

-- the work table holds the monic greatest common divisor of the first n generators, of degree e, and the row divided by it, of degree d
pub record DividedByGcd {F R : Type 0} (o : RingOps R) (member : F → R) (n : ℕ) (generators work : List F) (e d : ℕ) : Type 0 where
  pub gcd : MonicGcd o n (generator_in o member generators) (gcd_in o member work)
  pub degree : Degree o (gcd_in o member work) e
  pub divided : DividedRow o n (generator_in o member generators) (gcd_in o member work) (quotient_in o member work)
  pub highest : VectorDegree o n (quotient_in o member work) d
  pub rest : ZeroOutside o member 4368 (17 + 17 * n) work

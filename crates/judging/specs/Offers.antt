-- What is judged of offered columns, and what stands in the tables when they are taken. The clauses of the judge and of `offer_row` cite
-- it; it assumes nothing.
use Rattle.std.specs.Prelude.{◌≡◌, ℕ, ◌+◌, ◌-◌, ◌<◌, ◌≤◌, List, ◌≢◌, Result, MatchResult}
use Rattle.algebra.specs.Rings.{RingOps}
use Rattle.algebra.specs.Series.{dot, series, Degree}
use Rattle.algebra.specs.Divisors.{AllZero, MonicGcd, DividedRow, VectorDegree}
use Rattle.algebra.specs.Optimal.{DegreeOptimal}
use Rattle.algebra.specs.DegreeTest.{PassesTest}
use Rattle.frames.specs.Rows.{generator_in, gcd_in}
use Rattle.framing.specs.Framing.{column_in, divisor_in, DegreesFrom, ZeroPast}
use Rattle.judging.specs.declared.objection.Objection.{Objection}
use Rattle.judging.specs.declared.objection.Objection.TheVariants.{AllZero as EveryZero, First, Check}
use Rattle.judging.specs.Columns.{AllSyzygies, LowestNoSyzygy}
use Rattle.judging.specs.Questions.{ObjectsByDegree}

-- g is the monic gcd of the row a, and d the degree of a divided by it
pub record RowOf {M : Type 0} (o : RingOps M) (n : ℕ) (a : ℕ → ℕ → M) (g : ℕ → M) (d : ℕ) : Type 0 where
  pub gcd : MonicGcd o n a g
  pub row : ℕ → ℕ → M
  pub divided : DividedRow o n a g row
  pub degree : VectorDegree o n row d

-- x is the first objection to the columns c, of n components and m of them check columns, for the row a of n polynomials
pub data Objects {M : Type 0} (o : RingOps M) (n m : ℕ) (a : ℕ → ℕ → M) (c : ℕ → ℕ → ℕ → M) (x : Objection) : Type 0 where
  every_zero : x ≡ EveryZero → AllZero o n a → Objects o n m a c x
  first_differs : (g : ℕ → M) (d : ℕ) → RowOf o n a g d → x ≡ First → (dot (series o) n a (c 0) ≢ g) → Objects o n m a c x
  no_syzygy : (g : ℕ → M) (d : ℕ) → RowOf o n a g d → dot (series o) n a (c 0) ≡ g → (j : ℕ) → x ≡ Check j → LowestNoSyzygy o n a c j → Objects o n m a c x
  by_degree : (g : ℕ → M) (d : ℕ) → RowOf o n a g d → dot (series o) n a (c 0) ≡ g → AllSyzygies o n a c → ObjectsByDegree o n m d c x → Objects o n m a c x

-- the columns c, m of them check columns, are degree-optimal for the row a, with some divisor
abbrev pub OptimalFor : {M : Type 0} → RingOps M → (m : ℕ) → (ℕ → ℕ → M) → (ℕ → ℕ → ℕ → M) → Type 0
OptimalFor {M} o m a c = (g : ℕ → M) × DegreeOptimal o m a g c

-- the columns are taken where they are degree-optimal for the row, and objected to where they are not
abbrev pub TellsOptimal : {M X : Type 0} → RingOps M → (m : ℕ) → (ℕ → ℕ → M) → (ℕ → ℕ → ℕ → M) → Result X Objection → Type 0
TellsOptimal o m a c r = MatchResult r (λ _. OptimalFor o m a c) (λ _. OptimalFor o m a c → ⊥)

-- the columns in the table pass the test by degrees, for the generators, whose monic gcd, of that degree, stands in the work table
pub record Passed {F M : Type 0} (o : RingOps M) (member : F → M) (n : ℕ) (generators offered work : List F) (degree divisor : ℕ) : Type 0 where
  pub row_of : RowOf o n (generator_in o member generators) (gcd_in o member work) degree
  pub divisor_degree : Degree o (gcd_in o member work) divisor
  pub test : PassesTest o (n - 1) (generator_in o member generators) (gcd_in o member work) degree (column_in o member offered)
  pub within : degree + divisor ≤ 16

-- The frame table holds the offered columns, which are degree-optimal for the first n generators, and the divisor of these, of that degree;
-- every other place is zero. The degree is that of the generators divided by the divisor, and the column degrees are packed.
pub record HoldsOffer {F M : Type 0} (o : RingOps M) (member : F → M) (n : ℕ) (generators offered frame : List F) (degree divisor columns : ℕ) : Type 0 where
  pub row_of : RowOf o n (generator_in o member generators) (divisor_in o member frame) degree
  pub copied : (j i : ℕ) → j < n → i < n → column_in o member frame j i ≡ column_in o member offered j i
  pub optimal : DegreeOptimal o (n - 1) (generator_in o member generators) (divisor_in o member frame) (column_in o member frame)
  pub divisor_degree : Degree o (divisor_in o member frame) divisor
  pub column_degrees : DegreesFrom o member n frame 0 columns
  pub rest : ZeroPast o member n frame
  pub within : degree + divisor ≤ 16

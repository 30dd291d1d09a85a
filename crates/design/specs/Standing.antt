-- What a framed design promises of the tables it was framed with. The clauses of the calls that frame a design cite it; it assumes nothing.
use Rattle.std.specs.Prelude.{ℕ, ◌-◌, List}
use Rattle.algebra.specs.Divisors.{DividedRow, VectorDegree}
use Rattle.algebra.specs.Optimal.{DegreeOptimal}
use Rattle.algebra.specs.Rings.{RingOps}
use Rattle.algebra.specs.Series.{Degree}
use Rattle.frames.specs.Rows.{generator_in}
use Rattle.framing.specs.Framing.{DegreesFrom, column_in, divisor_in}

-- The frame table holds the monic gcd of the first n generators and degree-optimal columns for them, and the numbers that the design
-- keeps are the degrees of the divided generators, of the divisor and of the columns.
pub record StandsFramed {F R : Type 0} (o : RingOps R) (member : F → R) (n : ℕ) (generators frame : List F) (degree divisor columns : ℕ) : Type 0 where
  pub optimal : DegreeOptimal o (n - 1) (generator_in o member generators) (divisor_in o member frame) (column_in o member frame)
  pub row : ℕ → ℕ → R
  pub divided : DividedRow o n (generator_in o member generators) (divisor_in o member frame) row
  pub row_degree : VectorDegree o n row degree
  pub divisor_degree : Degree o (divisor_in o member frame) divisor
  pub column_degrees : DegreesFrom o member n frame 0 columns

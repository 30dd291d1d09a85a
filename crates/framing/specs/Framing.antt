-- A frame in its table: the columns, the divisor, and the column degrees packed into one number. The clauses of the crate cite it; it
-- assumes nothing.
use Rattle.std.specs.Prelude.{◌≡◌, ℕ, ◌+◌, ◌-◌, ◌*◌, ◌<◌, ◌≤◌, List, [], ◌∷◌, length, slice_index}
use Rattle.algebra.specs.Rings.{RingOps}
use Rattle.algebra.specs.Divisors.{VectorDegree}
use Rattle.algebra.specs.Frames.{IsFrame}
use Rattle.algebra.specs.Series.{Degree}
use Rattle.tables.specs.Places.{poly_at}
use Rattle.frames.specs.Rows.{generator_in}
-- component i of column j in a frame table, and that the table holds nothing past the first n columns and components
pub use Rattle.frames.specs.Rows.{column_in}
pub use Rattle.scan.specs.Columns.{ZeroPast}

-- numbers below 256 as the bytes of one number, the first lowest
abbrev pub packed : List ℕ → ℕ
packed [] = 0
packed (x ∷ xs) = x + 256 * packed xs

-- the degrees of the columns from j on, packed
pub record DegreesFrom {F R : Type 0} (o : RingOps R) (member : F → R) (n : ℕ) (frame : List F) (j p : ℕ) : Type 0 where
  pub degrees : List ℕ
  pub count : length degrees ≡ n - j
  pub is : p ≡ packed degrees
  pub column : (k : ℕ) → j + k < n → VectorDegree o n (column_in o member frame (j + k)) (slice_index degrees k)

-- the divisor in a frame table
abbrev pub divisor_in : {F R : Type 0} → RingOps R → (F → R) → List F → ℕ → R
divisor_in o member frame = poly_at o member frame 1088 17

-- The frame table holds the frame of the first n generators: the divisor, of that degree, and the columns, whose degrees are packed; every
-- other place is zero. The degree is that of the generators divided by the divisor.
pub record HoldsFrame {F R : Type 0} (o : RingOps R) (member : F → R) (n : ℕ) (generators frame : List F) (degree divisor columns : ℕ) : Type 0 where
  pub is_frame : IsFrame o (n - 1) (generator_in o member generators) (divisor_in o member frame) degree (column_in o member frame)
  pub divisor_degree : Degree o (divisor_in o member frame) divisor
  pub column_degrees : DegreesFrom o member n frame 0 columns
  pub rest : ZeroPast o member n frame
  pub within : degree + divisor ≤ 16

-- What the calls say of blocks under a frame that is degree-optimal with divisor 1. The clauses of `calls` cite it; it assumes nothing.
use Rattle.std.specs.Prelude.{◌≡◌, ℕ, suc, ◌-◌, ◌<◌, Bool, List, length}
use Rattle.algebra.specs.Rings.{RingOps}
use Rattle.algebra.specs.Series.{series}
use Rattle.algebra.specs.Divisors.{Bounded, VectorDegree}
use Rattle.algebra.specs.Optimal.{DegreeOptimal}
use Rattle.algebra.specs.Link.{Encodes, OneChanged, DifferAtMost}
use Rattle.frames.specs.Rows.{generator_in}
use Rattle.framing.specs.Framing.{column_in}
use Rattle.link.specs.Blocks.{message_series, stream, Tells, Inverted}

-- the columns in a frame table are degree-optimal, with divisor 1, for a row of n polynomials of degree d
pub record OptimalFrame {F R : Type 0} (o : RingOps R) (member : F → R) (n d : ℕ) (row : ℕ → ℕ → R) (frame : List F) : Type 0 where
  pub degree : VectorDegree o n row d
  pub columns : DegreeOptimal o (n - 1) row (series o).one (column_in o member frame)

-- a block encodes the message in a table, by generators of degree at most d
abbrev pub EncodesMessage : {F R : Type 0} → RingOps R → (F → R) → (n d : ℕ) (generators message block : List F) → Type 0
EncodesMessage o member n d generators message block =
    Bounded o n (suc d) (generator_in o member generators)
    → Encodes o n (generator_in o member generators) (length message) (message_series o member message) (stream o member n block)

-- yes exactly when the block encodes some message of L symbols by the row for which the frame is optimal
abbrev pub TellsEncoded : {F R : Type 0} → RingOps R → (F → R) → (n d L : ℕ) (frame block : List F) → Bool → Type 0
TellsEncoded {R = R} o member n d L frame block answer =
    (row : ℕ → ℕ → R) → OptimalFrame o member n d row frame
    → Tells ((message : ℕ → R) × Encodes o n row L message (stream o member n block)) answer

-- where the block encodes a message by the row for which the frame is optimal, the table holds that message
abbrev pub BringsHome : {F R : Type 0} → RingOps R → (F → R) → (n d : ℕ) (frame block table : List F) → Type 0
BringsHome {R = R} o member n d frame block table =
    (row : ℕ → ℕ → R) (message : ℕ → R) → OptimalFrame o member n d row frame → Encodes o n row (length table) message (stream o member n block)
    → message_series o member table ≡ message

-- a block that differs in one symbol gives a message that differs in at most (degree of column 0) + 1 symbols
abbrev pub OneSymbolChangesFew : {F R : Type 0} → RingOps R → (F → R) → (n : ℕ) (frame block message : List F) → Type 0
OneSymbolChangesFew {F = F} o member n frame block message =
    (e i t : ℕ) (changed other : List F) → VectorDegree o n (column_in o member frame 0) e → i < n
    → OneChanged n i t (stream o member n block) (stream o member n changed)
    → length other ≡ length message → Inverted o member n frame changed other
    → DifferAtMost (suc e) (message_series o member message) (message_series o member other)

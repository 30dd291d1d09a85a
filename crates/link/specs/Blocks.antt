-- The tables of the link, read as series: coefficient t is the symbol at time t. The clauses of `products` and `calls` cite it; it
-- assumes nothing.
use Rattle.std.specs.Prelude.{◌≡◌, ℕ, ◌+◌, ◌-◌, ◌*◌, ◌<◌, List, length}
use Rattle.algebra.specs.Rings.{RingOps}
use Rattle.algebra.specs.Series.{dot, series}
use Rattle.algebra.specs.Link.{inverted}
use Rattle.tables.specs.Places.{at}
use Rattle.frames.specs.Rows.{generator_in}
use Rattle.framing.specs.Framing.{column_in}
pub use Rattle.judging.specs.Answers.{Tells}

-- the message: its symbols, then zeros
abbrev pub message_series : {F R : Type 0} → RingOps R → (F → R) → List F → ℕ → R
message_series o member message t = at o member message t

-- stream i of a block of n streams: its symbol at time t lies at n t + i
abbrev pub stream : {F R : Type 0} → RingOps R → (F → R) → ℕ → List F → ℕ → ℕ → R
stream o member n block i t = at o member block (n * t + i)

-- the sum over n streams of stream i times component i of column j of a frame
abbrev pub column_sum : {F R : Type 0} → RingOps R → (F → R) → (n : ℕ) (block frame : List F) (j : ℕ) → ℕ → R
column_sum o member n block frame j = dot (series o) n (stream o member n block) (column_in o member frame j)

-- the block holds L + d times of n streams: stream i is the message times generator i
abbrev pub Encoded : {F R : Type 0} → RingOps R → (F → R) → (n d : ℕ) (generators message block : List F) → Type 0
Encoded o member n d generators message block =
    (i t : ℕ) → i < n → t < length message + d
    → stream o member n block i t ≡ (series o).product (message_series o member message) (generator_in o member generators i) t

-- the message is what inverting the block gives, cut to its length
abbrev pub Inverted : {F R : Type 0} → RingOps R → (F → R) → (n : ℕ) (frame block message : List F) → Type 0
Inverted o member n frame block message =
    (k : ℕ) → k < length message
    → message_series o member message k ≡ inverted o (n - 1) (column_in o member frame) (stream o member n block) k

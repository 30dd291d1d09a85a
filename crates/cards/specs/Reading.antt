-- What reading a card asks and does. The clauses of `read_card` cite it; it assumes nothing.
use Rattle.std.specs.Prelude.{◌≡◌, ℕ, zero, suc, ◌+◌, ◌*◌, ◌<◌, ◌&&◌, List, [], ◌∷◌, length, Some, None, ◌==◌, ◌≢◌, nat_le, nat_lt, slice_index_or}
use Rattle.algebra.specs.Rings.{RingOps}
use Rattle.fields.specs.declared.fault.FieldFault.TheVariants.{CodeTooLarge}
use Rattle.fields.specs.Questions.{Question, asks, first_no}
use Rattle.tables.specs.Places.{at}
use Rattle.design.specs.declared.fault.DesignFault.TheVariants.{TableLength}
use Rattle.cards.specs.declared.fault.CardFault.{CardFault}
use Rattle.cards.specs.declared.fault.CardFault.TheVariants.{Design, Length, Kind, GeneratorCount, PowerTooHigh, PowerNotAbove, Field, ZeroCode, NoSuchRecord}
use Rattle.cards.specs.Cards.{Term}
use Rattle.cards.specs.Chains.{byte, record_start, code_at, Names, Chain, Chains, power_code}

-- asked first: is the table 136 long; are there 3 bytes and exactly 3 + n + 4 m; is the kind the field's; is n from 2 to 8
abbrev pub read_questions : (kind long : ℕ) (card : List ℕ) → List (Question CardFault)
read_questions kind long card =
    asks (long == 136) (Design TableLength)
    ∷ asks (nat_le 3 (length card) && length card == 3 + byte card 1 + 4 * byte card 2) Length
    ∷ asks (byte card 0 == kind) Kind
    ∷ asks (nat_le 2 (byte card 1) && nat_le (byte card 1) 8) GeneratorCount
    ∷ []

-- asked at a record: is the power at most 16, is it at least the floor, is the code below the order, is it not zero
abbrev pub record_questions : (order : ℕ) (card : List ℕ) (floor start : ℕ) → List (Question CardFault)
record_questions order card floor start =
    asks (nat_le (byte card start) 16) (PowerTooHigh start)
    ∷ asks (nat_le floor (byte card start)) (PowerNotAbove start)
    ∷ asks (nat_lt (code_at card (start + 1)) order) (Field CodeTooLarge (start + 1))
    ∷ asks (nat_lt 0 (code_at card (start + 1))) (ZeroCode (start + 1))
    ∷ []

-- a link of zero names no record
abbrev pub where_named : ℕ → List (Question CardFault) → List (Question CardFault)
where_named zero qs = []
where_named (suc r) qs = qs

-- asked at a link, a head or a next: is it at most m, and then what its record is asked
abbrev pub link_questions : (order : ℕ) (card : List ℕ) (floor place : ℕ) → List (Question CardFault)
link_questions order card floor place =
    asks (nat_le (byte card place) (byte card 2)) (NoSuchRecord place)
    ∷ where_named (byte card place) (record_questions order card floor (record_start card place))

-- the walk from the link at a place passes the records of the terms, and the first no at the link after them is the refusal
abbrev pub Stops : ℕ → List ℕ → List Term → (floor place : ℕ) → CardFault → Type 0
Stops order card [] floor place f = first_no (link_questions order card floor place) ≡ Some f
Stops order card (t ∷ ts) floor place f =
    Names order card floor place t × Stops order card ts (suc t.power) (record_start card place + 3) f

-- the first n heads enter chains, and the table holds their sums, and zero elsewhere
pub record Gathered {F R : Type 0} (o : RingOps R) (member : F → R) (number : R → ℕ) (order : ℕ) (card : List ℕ) (n : ℕ) (table : List F) : Type 0 where
  pub generators : List (List Term)
  pub count : length generators ≡ n
  pub chains : Chains order card 3 generators
  pub holds : (i k : ℕ) → k < 17 → number (at o member table (17 * i + k)) ≡ power_code (slice_index_or generators i []) k

-- the walk is stopped in the chain after some that pass
pub record Halted (order : ℕ) (card : List ℕ) (f : CardFault) : Type 0 where
  pub passed : List (List Term)
  pub fewer : length passed < byte card 1
  pub chains : Chains order card 3 passed
  pub terms : List Term
  pub stops : Stops order card terms 0 (3 + length passed) f

-- granted: all questions are answered yes, the draft has the card's n, and the table its generators
pub record Grants {F R : Type 0} (o : RingOps R) (member : F → R) (number : R → ℕ) (order kind : ℕ) (card : List ℕ) (long n : ℕ) (after : List F) : Type 0 where
  pub asked : first_no (read_questions kind long card) ≡ None
  pub count : n ≡ byte card 1
  pub gathered : Gathered o member number order card (byte card 1) after

-- refused: by the first question that is answered no, or in the walk
pub data Refuses (order kind : ℕ) (card : List ℕ) (long : ℕ) (f : CardFault) : Type 0 where
  asked : first_no (read_questions kind long card) ≡ Some f → Refuses order kind card long f
  walked : first_no (read_questions kind long card) ≡ None → Halted order card f → Refuses order kind card long f

-- one chain, entered into row i of a table whose row i was zero
pub record Entered {F R : Type 0} (o : RingOps R) (member : F → R) (number : R → ℕ) (order : ℕ) (card : List ℕ) (floor place i : ℕ) (before after : List F) : Type 0 where
  pub terms : List Term
  pub chain : Chain order card floor place terms
  pub row : (k : ℕ) → k < 17 → number (at o member after (17 * i + k)) ≡ power_code terms k
  pub others : (j k : ℕ) → k < 17 → (j ≢ i) → at o member after (17 * j + k) ≡ at o member before (17 * j + k)

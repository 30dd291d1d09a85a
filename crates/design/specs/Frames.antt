-- What framing and the calls on a framed design ask and do. The clauses of `framed` cite it; it assumes nothing.
use Rattle.std.specs.Prelude.{◌≡◌, ℕ, ◌+◌, ◌-◌, ◌*◌, ◌&&◌, List, [], ◌∷◌, length, Some, None, Ok, Err, Option, Result, ◌==◌, nat_lt}
use Rattle.algebra.specs.Divisors.{AllZero}
use Rattle.algebra.specs.Optimal.{DegreeOptimal}
use Rattle.algebra.specs.Rings.{RingOps}
use Rattle.fields.specs.Questions.{Question, asks, first_no}
use Rattle.tables.specs.Places.{Cleared}
use Rattle.frames.specs.Rows.{generator_in}
use Rattle.framing.specs.Framing.{HoldsFrame, divisor_in, column_in}
use Rattle.design.specs.declared.fault.DesignFault.{DesignFault}
use Rattle.design.specs.declared.fault.DesignFault.TheVariants.{TableLength, NoSuchGenerator, AllZero as NoneNonzero}
use Rattle.design.specs.declared.fault.HandedBack.{HandedBack}

-- reopen asks: is the frame table 1,105 long
abbrev pub reopen_questions : (long : ℕ) → List (Question DesignFault)
reopen_questions long = asks (long == 1105) TableLength ∷ []

-- column asks: is the frame table 1,105 long, are i and j below n
abbrev pub column_questions : (n i j long : ℕ) → List (Question DesignFault)
column_questions n i j long = asks (long == 1105) TableLength ∷ asks (nat_lt i n && nat_lt j n) NoSuchGenerator ∷ []

-- where component i of column j begins in a frame table
abbrev pub column_place : (i j : ℕ) → ℕ
column_place i j = 136 * j + 17 * i

-- the refusal of a call that hands its design back
abbrev pub refusal : {T X : Type 0} → Result X (HandedBack T) → Option DesignFault
refusal (Ok x) = None
refusal (Err e) = Some e.fault

-- frame asks first: are the generators 136, the frame 1,105 and the work table 4,521 long
abbrev pub frame_questions : (generators frame work : ℕ) → List (Question DesignFault)
frame_questions generators frame work = asks (generators == 136 && (frame == 1105 && work == 4521)) TableLength ∷ []

-- granted: the frame table holds the frame of the generators, which is degree-optimal, the design keeps its numbers, and the work table
-- is zero
pub record Frames {F R : Type 0} (o : RingOps R) (member : F → R) (n : ℕ) (generators frame work frame_after work_after : List F) (count degree divisor columns : ℕ) : Type 0 where
  pub asked : first_no (frame_questions (length generators) (length frame) (length work)) ≡ None
  pub same_count : count ≡ n
  pub holds : HoldsFrame o member n generators frame_after degree divisor columns
  pub optimal : DegreeOptimal o (n - 1) (generator_in o member generators) (divisor_in o member frame_after) (column_in o member frame_after)
  pub cleared : Cleared o member work_after

-- refused: by the lengths, with the work table as it was; or because every generator is zero, with the work table at zero
pub data FrameRefused {F R : Type 0} (o : RingOps R) (member : F → R) (n : ℕ) (generators frame work work_after : List F) (f : DesignFault) : Type 0 where
  by_length : first_no (frame_questions (length generators) (length frame) (length work)) ≡ Some f → work_after ≡ work → FrameRefused o member n generators frame work work_after f
  by_zero : first_no (frame_questions (length generators) (length frame) (length work)) ≡ None → f ≡ NoneNonzero → AllZero o n (generator_in o member generators) → Cleared o member work_after → FrameRefused o member n generators frame work work_after f

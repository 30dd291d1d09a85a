-- What offering a frame asks and does. The clauses of `offer` cite it; it assumes nothing.
use Rattle.std.specs.Prelude.{◌≡◌, ℕ, ◌-◌, ◌&&◌, List, [], ◌∷◌, length, Some, None, Result, MatchResult, ◌==◌}
use Rattle.algebra.specs.Rings.{RingOps}
use Rattle.fields.specs.Questions.{Question, asks, first_no}
use Rattle.tables.specs.Places.{Cleared}
use Rattle.frames.specs.Rows.{generator_in}
use Rattle.framing.specs.Framing.{column_in}
use Rattle.judging.specs.declared.objection.Objection.{Objection}
use Rattle.judging.specs.declared.objection.Objection.TheVariants.{AllZero as EveryZero, First, Check, Degrees, Leading}
use Rattle.judging.specs.Offers.{Objects, OptimalFor, HoldsOffer}
use Rattle.design.specs.declared.fault.DesignFault.{DesignFault}
use Rattle.design.specs.declared.fault.DesignFault.TheVariants.{TableLength, AllZero, FirstColumn, CheckColumn, ColumnDegrees, LeadingVector}
use Rattle.design.specs.Standing.{StandsFramed}

-- offer asks first: are the generators 136, the offered table 1,088, the frame 1,105 and the work table 4,521 long
abbrev pub offer_questions : (generators offered frame work : ℕ) → List (Question DesignFault)
offer_questions generators offered frame work = asks (generators == 136 && (offered == 1088 && (frame == 1105 && work == 4521))) TableLength ∷ []

-- the refusal of an objection to the offered columns
abbrev pub fault_of : Objection → DesignFault
fault_of EveryZero = AllZero
fault_of First = FirstColumn
fault_of (Check j) = CheckColumn j
fault_of Degrees = ColumnDegrees
fault_of Leading = LeadingVector

-- granted: the frame table holds the first n rows and columns of the offered table, the divisor, and zero elsewhere; the design keeps
-- the numbers of the frame, which stands; and the work table is zero
pub record Offers {F R : Type 0} (o : RingOps R) (member : F → R) (n : ℕ) (generators offered frame work frame_after work_after : List F) (count degree divisor columns : ℕ) : Type 0 where
  pub asked : first_no (offer_questions (length generators) (length offered) (length frame) (length work)) ≡ None
  pub same_count : count ≡ n
  pub holds : HoldsOffer o member n generators offered frame_after degree divisor columns
  pub stands : StandsFramed o member n generators frame_after degree divisor columns
  pub cleared : Cleared o member work_after

-- refused: by the lengths, with the work table as it was; or by the first objection to the offered columns, with the work table at zero
pub data OfferRefused {F R : Type 0} (o : RingOps R) (member : F → R) (n : ℕ) (generators offered frame work work_after : List F) (f : DesignFault) : Type 0 where
  by_length : first_no (offer_questions (length generators) (length offered) (length frame) (length work)) ≡ Some f → work_after ≡ work
      → OfferRefused o member n generators offered frame work work_after f
  by_objection : first_no (offer_questions (length generators) (length offered) (length frame) (length work)) ≡ None → (x : Objection) → f ≡ fault_of x
      → Objects o n (n - 1) (generator_in o member generators) (column_in o member offered) x → Cleared o member work_after
      → OfferRefused o member n generators offered frame work work_after f

-- tables of the right lengths are granted exactly where the offered columns are degree-optimal for the generators
abbrev pub GrantsExactly : {F R X E : Type 0} → RingOps R → (F → R) → (n : ℕ) (generators offered frame work : List F) → Result X E → Type 0
GrantsExactly o member n generators offered frame work r =
    first_no (offer_questions (length generators) (length offered) (length frame) (length work)) ≡ None
    → MatchResult r (λ _. OptimalFor o (n - 1) (generator_in o member generators) (column_in o member offered)) (λ _. OptimalFor o (n - 1) (generator_in o member generators) (column_in o member offered) → ⊥)

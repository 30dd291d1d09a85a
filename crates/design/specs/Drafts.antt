-- What the calls on a draft ask and do. The clauses of `draft` cite it; it assumes nothing.
use Rattle.std.specs.Prelude.{◌≡◌, ℕ, ◌+◌, ◌*◌, ◌&&◌, List, [], ◌∷◌, length, Result, MatchResult, ◌==◌, nat_le, nat_lt, slice_set}
use Rattle.std.specs.Result.{result_err}
use Rattle.fields.specs.declared.fault.FieldFault.TheVariants.{CodeTooLarge}
use Rattle.fields.specs.Questions.{Question, asks, first_no}
use Rattle.design.specs.declared.fault.DesignFault.{DesignFault}
use Rattle.design.specs.declared.fault.DesignFault.TheVariants.{TableLength, GeneratorCount, NoSuchGenerator, PowerTooHigh, Field}

-- begin asks: is the generators table 136 long, is n from 2 to 8
abbrev pub begin_questions : (n long : ℕ) → List (Question DesignFault)
begin_questions n long = asks (long == 136) TableLength ∷ asks (nat_le 2 n && nat_le n 8) GeneratorCount ∷ []

-- put asks: is the table 136 long, is there such a generator, is the power at most 16, is the code below the field's order
abbrev pub put_questions : (order n i power code long : ℕ) → List (Question DesignFault)
put_questions order n i power code long =
    asks (long == 136) TableLength
    ∷ asks (nat_lt i n) NoSuchGenerator
    ∷ asks (nat_le power 16) PowerTooHigh
    ∷ asks (nat_lt code order) (Field CodeTooLarge)
    ∷ []

-- the place of a power of generator i
abbrev pub generator_place : (i power : ℕ) → ℕ
generator_place i power = 17 * i + power

-- one element is written, of that code, and nothing else
abbrev pub Writes : {F : Type 0} → (F → ℕ) → (before : List F) (place code : ℕ) (after : List F) → Type 0
Writes {F} code_of before place code after = (x : F) × (code_of x ≡ code) × (after ≡ slice_set before place x)

-- put: the first no is the refusal, and leaves the table as it was; else the element of the code stands at its place
pub record Puts {F : Type 0} (code_of : F → ℕ) (order n i power code : ℕ) (before : List F) (r : Result (Unit {0}) DesignFault) (after : List F) : Type 0 where
  pub answer : result_err r ≡ first_no (put_questions order n i power code (length before))
  pub table : MatchResult r (λ _. Writes code_of before (generator_place i power) code after) (λ _. after ≡ before)

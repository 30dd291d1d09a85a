-- What writing a card asks and does. The clauses of `write` cite it; it assumes nothing.
use Rattle.std.specs.Prelude.{◌≡◌, ℕ, ◌-◌, List, [], ◌∷◌, ◌++◌, map, length, replicate, IfOk, Result, MatchResult, ◌==◌}
use Rattle.std.specs.Result.{result_err}
use Rattle.fields.specs.Questions.{Question, asks, first_no}
use Rattle.design.specs.declared.fault.DesignFault.{DesignFault}
use Rattle.design.specs.declared.fault.DesignFault.TheVariants.{TableLength}
use Rattle.cards.specs.Cards.{generators, card}

-- writing asks: is the generators table 136 long, is the buffer 555 bytes long
abbrev pub write_questions : (table_length buffer_length : ℕ) → List (Question DesignFault)
write_questions table_length buffer_length =
    asks (table_length == 136) TableLength ∷ asks (buffer_length == 555) TableLength ∷ []

-- the first no is the refusal, and leaves the buffer as it was; else the buffer holds the card, then zeros, and the answer is the
-- card's length
pub record Writes {F : Type 0} (code_of : F → ℕ) (kind n : ℕ) (table : List F) (before : List ℕ) (r : Result ℕ DesignFault) (after : List ℕ) : Type 0 where
  pub answer : result_err r ≡ first_no (write_questions (length table) (length before))
  pub card_then_zeros : MatchResult r (λ long. after ≡ card kind (generators n (map code_of table)) ++ replicate (555 - long) 0) (λ _. after ≡ before)
  pub card_length : IfOk r (λ long. long ≡ length (card kind (generators n (map code_of table))))

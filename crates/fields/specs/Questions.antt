-- The questions of a call. They are asked in order, and the first no is the refusal. The clauses of every call cite it; it assumes nothing.
use Rattle.std.specs.Prelude.{Bool, true, false, List, [], ◌∷◌, Some, None, Option}

-- a question by its answer, and the refusal where that is no
pub data Question (E : Type 0) : Type 0 where
  asks : Bool → E → Question E

abbrev pub first_no : {E : Type 0} → List (Question E) → Option E
first_no [] = None
first_no (asks true e ∷ qs) = first_no qs
first_no (asks false e ∷ qs) = Some e

-- Codes at places of tables. The clauses of `elements` cite it; it assumes nothing.
use Rattle.std.specs.Prelude.{ℕ, List, Option, slice_get}
use Rattle.std.specs.Option.{option_map}

-- the code of the element at a place, absent past the end
abbrev pub code_in : {S M : Type 0} → (number : M → ℕ) → (member : S → M) → (table : List S) → (place : ℕ) → Option ℕ
code_in number member table place = option_map (λ x. number (member x)) (slice_get table place)

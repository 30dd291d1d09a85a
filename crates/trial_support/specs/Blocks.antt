-- Where two messages differ. The clauses of `blocks` cite it; it assumes nothing.
use Rattle.std.specs.Prelude.{◌≡◌, ◌==◌, ℕ, List, ◌<◌, ◌≤◌, All, not, length, filter}
use Rattle.std.specs.List.{enumerate_from, zip}

-- how many symbols have another code in the other message, as far as both go
abbrev pub differing : {S : Type 0} → (code : S → ℕ) → (left right : List S) → ℕ
differing code left right = length (filter (λ at. not (code at.0 == code at.1)) (zip left right))

-- the symbols of both at each time that is not from one time to another have one code
abbrev pub SameOutside : {S : Type 0} → (code : S → ℕ) → (from to : ℕ) → (left right : List S) → Type 0
SameOutside code from to left right =
    All (λ at. (from ≤ at.0 → to < at.0) → code at.1.0 ≡ code at.1.1) (enumerate_from 0 (zip left right))

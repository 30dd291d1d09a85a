-- Which call the words of a line mean. The clauses of `read_line` cite it; it assumes nothing.
use Rattle.std.specs.Prelude.{◌≡◌, ℕ, ◌<◌, Bool, List, [], ◌∷◌, length, vec_items, codes, Result, Vec, MatchResult, ◌≢◌}
use Rattle.std.specs.declared.alloc.Global.{Global}
use Rattle.std.specs.Str.{bytes_eq}
use Rattle.scripts.specs.declared.arguments.Unread.{Unread}
use Rattle.scripts.specs.declared.arguments.Unread.TheVariants.{NoFit, NoMemory}
use Rattle.scripts.specs.declared.call.Call.{Call}
use Rattle.scripts.specs.declared.call.Call.TheVariants as call
use Rattle.scripts.specs.declared.call.FieldName.{FieldName}
use Rattle.scripts.specs.declared.call.Keyword.{Keyword}
use Rattle.scripts.specs.declared.call.Keyword.TheVariants as key
use Rattle.scripts.specs.declared.line.Expected.TheVariants as expected
use Rattle.scripts.specs.declared.line.Line.{Line}
use Rattle.scripts.specs.declared.line.Line.TheVariants as line
use Rattle.scripts.specs.Numbers.{Number, Byte}
use Rattle.scripts.specs.Spelling.{spelled, named}
use Rattle.scripts.specs.Words.{marks, pieces}
use Rattle.scripts.specs.declared.words.Mark.TheVariants.{Comma}

-- two lists are in a relation item by item
abbrev pub Each : {X Y : Type 0} → (X → Y → Type 0) → List X → List Y → Type 0
Each R [] [] = Unit {0}
Each R [] (y ∷ ys) = ⊥
Each R (x ∷ xs) [] = ⊥
Each R (x ∷ xs) (y ∷ ys) = R x y × Each R xs ys

abbrev pub Numbers : List (List ℕ) → List ℕ → Type 0
Numbers ws ns = Each Number ws ns

abbrev pub Bytes : List (List ℕ) → List ℕ → Type 0
Bytes ws ns = Each Byte ws ns

-- a number, and then these words
abbrev pub StartsWith : List (List ℕ) → ℕ → List (List ℕ) → Type 0
StartsWith [] n rest = ⊥
StartsWith (w ∷ ws) n rest = Number w n × (ws ≡ rest)

-- a polynomial is numbers joined by commas
abbrev pub Polynomial : List ℕ → List ℕ → Type 0
Polynomial w ns = Numbers (pieces (marks Comma) w) ns

-- components, at least one, as vectors of their codes
abbrev pub Components : List (List ℕ) → List (Vec ℕ Global) → Type 0
Components ws ps = (0 < length ws) × Each (λ w p. Polynomial w (vec_items p)) ws ps

abbrev pub bar : List ℕ → Bool
bar w = bytes_eq w (codes "|")

-- columns, with a bar between two
abbrev pub Columns : List (List ℕ) → List (Vec (Vec ℕ Global) Global) → Type 0
Columns ws cs = Each (λ us c. Components us (vec_items c)) (pieces bar ws) cs

-- after a keyword, these words mean that call
abbrev pub Means : Keyword → List (List ℕ) → Call → Type 0
Means key.Field ws c = (f : FieldName) × (ws ≡ named f ∷ []) × (c ≡ call.Field f)
Means key.Begin ws c = (n : ℕ) × Numbers ws (n ∷ []) × (c ≡ call.Begin n)
Means key.Put ws c = (i : ℕ) × (power : ℕ) × (code : ℕ) × Numbers ws (i ∷ power ∷ code ∷ []) × (c ≡ call.Put i power code)
Means key.Frame ws c = (ws ≡ []) × (c ≡ call.Frame)
Means key.Reopen ws c = (ws ≡ []) × (c ≡ call.Reopen)
Means key.Column ws c = (i : ℕ) × (j : ℕ) × Numbers ws (i ∷ j ∷ []) × (c ≡ call.Column i j)
Means key.Encode ws c = (v : _) × Numbers ws (vec_items v) × (c ≡ call.Encode v)
Means key.Check ws c = (v : _) × Numbers ws (vec_items v) × (c ≡ call.Check v)
Means key.Invert ws c = (l : ℕ) × (v : _) × Numbers ws (l ∷ vec_items v) × (c ≡ call.Invert l v)
Means key.Card ws c = (ws ≡ []) × (c ≡ call.Card)
Means key.Read ws c = (v : _) × Bytes ws (vec_items v) × (c ≡ call.Read v)
Means key.Offer ws c = (v : _) × Columns ws (vec_items v) × (c ≡ call.Offer v)
Means key.Show ws c = (ws ≡ []) × (c ≡ call.Show)

-- where not for want of memory, nothing fits
abbrev pub Fails : Unread → Type 0 → Type 0
Fails NoFit P = P → ⊥
Fails NoMemory P = Unit {0}

-- the call that the words after a keyword mean, or none
abbrev pub Taken : Keyword → List (List ℕ) → Result Call Unread → Type 0
Taken k ws r = MatchResult r (Means k ws) (λ e. Fails e ((c : Call) × Means k ws c))

-- what the words of a line say: nothing; a call; or what was expected is not there, first a keyword, then what follows it
abbrev pub Says : List (List ℕ) → Line → Type 0
Says ws line.Blank = ws ≡ []
Says ws (line.Call c) = (k : Keyword) × (args : List (List ℕ)) × (ws ≡ spelled k ∷ args) × Means k args c
Says ws (line.Wrong expected.Call) = (w : List ℕ) × (args : List (List ℕ)) × (ws ≡ w ∷ args) × ((k : Keyword) → w ≢ spelled k)
Says ws (line.Wrong (expected.Arguments k)) = (args : List (List ℕ)) × (ws ≡ spelled k ∷ args) × ((c : Call) → Means k args c → ⊥)

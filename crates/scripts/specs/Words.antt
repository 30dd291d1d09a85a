-- The parts of a text, a list of bytes. The clauses of `cut_at` and `first_word`, and the iterators, cite it; it assumes nothing.
use Rattle.std.specs.Prelude.{ℕ, Bool, cond, ◌||◌, List, [], ◌∷◌, ◌==◌, Some, None}
use Rattle.scripts.specs.declared.words.Mark.{Mark}
use Rattle.scripts.specs.declared.words.Mark.TheVariants.{Blank, Bar, Break, Comma, Hash, Newline}
use Rattle.scripts.specs.declared.words.Pieces.{Pieces}
use Rattle.scripts.specs.declared.words.Words.{Words}

-- whether a byte is that mark: a blank, tab or carriage return; a bar; one of these, which ends a word; a comma; a hash; a newline
abbrev pub marks : Mark → ℕ → Bool
marks Blank b = b == 32 || (b == 9 || b == 13)
marks Bar b = b == 124
marks Break b = b == 124 || (b == 32 || (b == 9 || b == 13))
marks Comma b = b == 44
marks Hash b = b == 35
marks Newline b = b == 10

-- an item in front of the first piece
abbrev pub onto : {X : Type 0} → X → List (List X) → List (List X)
onto x [] = (x ∷ []) ∷ []
onto x (p ∷ ps) = (x ∷ p) ∷ ps

-- what stands before, between and after the items that pass a test
abbrev pub pieces : {X : Type 0} → (X → Bool) → List X → List (List X)
pieces t [] = [] ∷ []
pieces t (x ∷ xs) = cond (t x) ([] ∷ pieces t xs) (onto x (pieces t xs))

abbrev pub first_of : {X : Type 0} → List (List X) → List X
first_of [] = []
first_of (p ∷ ps) = p

-- the pieces that are not empty
abbrev pub filled : List (List ℕ) → List (List ℕ)
filled [] = []
filled ([] ∷ ps) = filled ps
filled ((b ∷ p) ∷ ps) = (b ∷ p) ∷ filled ps

-- a text with a blank on either side of each bar
abbrev pub spaced : List ℕ → List ℕ
spaced [] = []
spaced (b ∷ bs) = cond (marks Bar b) (32 ∷ 124 ∷ 32 ∷ spaced bs) (b ∷ spaced bs)

-- the words of a text stand between its blanks, and a bar is a word of its own
abbrev pub words : List ℕ → List (List ℕ)
words bs = filled (pieces (marks Blank) (spaced bs))

-- a comment begins with a hash
abbrev pub uncommented : List ℕ → List ℕ
uncommented bs = first_of (pieces (marks Hash) bs)

-- what an iterator has left
abbrev pub pieces_left : Pieces → List (List ℕ)
pieces_left s = elim s.left [ None ↦ [] | Some x ↦ pieces (marks s.mark) x.now ]

abbrev pub words_left : Words → List (List ℕ)
words_left s = words s.0.now

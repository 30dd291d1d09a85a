-- Worked designs, each with its generators, divisor, degree and columns. The clause of the crate cites it; it assumes nothing.
use Rattle.std.specs.Prelude.{ℕ, ◌/◌, ◌%◌, List, [], ◌∷◌}
use Rattle.algebra.specs.Lists.{Design}
use Rattle.nibbles.specs.Nibbles.{nibble_of}
use Rattle.nibbles.specs.declared.Nibble.{Nibble}
use Rattle.pairs.specs.Pairs.{PairMember, pair}

-- m + 1 generators, their divisor, the degree of the row divided by it, and the columns, all by codes from power 0 up
abbrev design : ℕ → List (List ℕ) → List ℕ → ℕ → List (List (List ℕ)) → Design
design m a g d c = record { m = m; generators = a; divisor = g; degree = d; columns = c }

-- (s^2, s^2 + s), whose divisor is s
abbrev pub shared_design : Design
shared_design = design 1 ((0 ∷ 0 ∷ 1 ∷ []) ∷ (0 ∷ 1 ∷ 1 ∷ []) ∷ []) (0 ∷ 1 ∷ []) 1 (((30 ∷ []) ∷ (1 ∷ []) ∷ []) ∷ ((30 ∷ 30 ∷ []) ∷ (0 ∷ 1 ∷ []) ∷ []) ∷ [])

abbrev pub tone_designs : List Design
tone_designs =
    -- (1, s)
    design 1 ((1 ∷ []) ∷ (0 ∷ 1 ∷ []) ∷ []) (1 ∷ []) 1 (((1 ∷ []) ∷ [] ∷ []) ∷ ((0 ∷ 1 ∷ []) ∷ (30 ∷ []) ∷ []) ∷ [])
    -- (1, s, s^2)
    ∷ design 2 ((1 ∷ []) ∷ (0 ∷ 1 ∷ []) ∷ (0 ∷ 0 ∷ 1 ∷ []) ∷ []) (1 ∷ []) 2 (((1 ∷ []) ∷ [] ∷ [] ∷ []) ∷ ((0 ∷ 1 ∷ []) ∷ (30 ∷ []) ∷ [] ∷ []) ∷ ([] ∷ (0 ∷ 1 ∷ []) ∷ (30 ∷ []) ∷ []) ∷ [])
    -- (s, s + 1)
    ∷ design 1 ((0 ∷ 1 ∷ []) ∷ (1 ∷ 1 ∷ []) ∷ []) (1 ∷ []) 1 (((30 ∷ []) ∷ (1 ∷ []) ∷ []) ∷ ((30 ∷ 30 ∷ []) ∷ (0 ∷ 1 ∷ []) ∷ []) ∷ [])
    ∷ shared_design
    -- (s^2, s + 1)
    ∷ design 1 ((0 ∷ 0 ∷ 1 ∷ []) ∷ (1 ∷ 1 ∷ []) ∷ []) (1 ∷ []) 2 (((1 ∷ []) ∷ (1 ∷ 30 ∷ []) ∷ []) ∷ ((30 ∷ 30 ∷ []) ∷ (0 ∷ 0 ∷ 1 ∷ []) ∷ []) ∷ [])
    -- (0, 5)
    ∷ design 1 ([] ∷ (5 ∷ []) ∷ []) (1 ∷ []) 0 (([] ∷ (25 ∷ []) ∷ []) ∷ ((1 ∷ []) ∷ [] ∷ []) ∷ [])
    -- (1, 0, s^3)
    ∷ design 2 ((1 ∷ []) ∷ [] ∷ (0 ∷ 0 ∷ 0 ∷ 1 ∷ []) ∷ []) (1 ∷ []) 3 (((1 ∷ []) ∷ [] ∷ [] ∷ []) ∷ ([] ∷ (1 ∷ []) ∷ [] ∷ []) ∷ ((0 ∷ 0 ∷ 0 ∷ 1 ∷ []) ∷ [] ∷ (30 ∷ []) ∷ []) ∷ [])
    ∷ []

-- the byte of a code
abbrev pub byte_of : ℕ → PairMember Nibble
byte_of k = pair (nibble_of (k % 16)) (nibble_of (k / 16))

abbrev pub byte_designs : List Design
byte_designs =
    -- (16, s)
    design 1 ((16 ∷ []) ∷ (0 ∷ 1 ∷ []) ∷ []) (1 ∷ []) 1 (((255 ∷ []) ∷ [] ∷ []) ∷ ((0 ∷ 1 ∷ []) ∷ (16 ∷ []) ∷ []) ∷ [])
    ∷ []

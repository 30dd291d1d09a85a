-- What a card means: chains of records, and their terms. The clauses of reading and writing cite it; it assumes nothing.
use Rattle.std.specs.Prelude.{◌≡◌, ℕ, suc, ◌+◌, ◌-◌, ◌*◌, ◌<◌, ◌≤◌, cond, List, [], ◌∷◌, ◌==◌, slice_index}
use Rattle.cards.specs.Cards.{Term}

abbrev pub byte : List ℕ → ℕ → ℕ
byte card k = slice_index card k

-- the first byte of the record that the link at a place names; the card has n in byte 1
abbrev pub record_start : List ℕ → ℕ → ℕ
record_start card place = 3 + byte card 1 + 4 * (byte card place - 1)

-- a code, low byte first
abbrev pub code_at : List ℕ → ℕ → ℕ
code_at card place = byte card place + 256 * byte card (place + 1)

-- The link at a place names a record: one of the m of byte 2, whose power is at most 16 and at least the floor, and whose code is that of a
-- member but zero. The record is the term t.
pub record Names (order : ℕ) (card : List ℕ) (floor place : ℕ) (t : Term) : Type 0 where
  pub from_one : 1 ≤ byte card place
  pub to_m : byte card place ≤ byte card 2
  pub power : t.power ≡ byte card (record_start card place)
  pub code : t.code ≡ code_at card (record_start card place + 1)
  pub low : t.power ≤ 16
  pub above : floor ≤ t.power
  pub below : t.code < order
  pub nonzero : 0 < t.code

-- the terms of the chain that the link at a place enters: a zero ends it, and powers rise from the floor on
abbrev pub Chain : ℕ → List ℕ → (floor place : ℕ) → List Term → Type 0
Chain order card floor place [] = byte card place ≡ 0
Chain order card floor place (t ∷ ts) =
    Names order card floor place t × Chain order card (suc t.power) (record_start card place + 3) ts

-- the chains of the heads from a place on
abbrev pub Chains : ℕ → List ℕ → (place : ℕ) → List (List Term) → Type 0
Chains order card place [] = Unit {0}
Chains order card place (ts ∷ gs) = Chain order card 0 place ts × Chains order card (suc place) gs

-- the code at a power in a sum of terms of different powers: zero where none has it
abbrev pub power_code : List Term → ℕ → ℕ
power_code [] k = 0
power_code (t ∷ ts) k = cond (t.power == k) t.code (power_code ts k)

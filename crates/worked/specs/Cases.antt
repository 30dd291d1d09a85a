-- Cases worked out by hand, of every kind, in one list. The clause of the crate cites it; it assumes nothing.
use Rattle.std.specs.Prelude.{◌≡◌, ℕ, suc, List, [], ◌∷◌, ◌++◌, length, replicate, Some}
use Rattle.algebra.specs.Link.{Encodes}
use Rattle.algebra.specs.Lists.{listed, listed_row, listed_block, Design, each, AllFrames}
use Rattle.algebra.specs.Series.{Degree}
use Rattle.cards.specs.Cards.{card, generators}
use Rattle.fields.specs.Questions.{first_no}
use Rattle.link.specs.Faults.{link_number}
use Rattle.link.specs.Questions.{link_questions}
use Rattle.link.specs.declared.fault.LinkFault.TheVariants.{Divisor}
use Rattle.tones.specs.Tones.{tone_ops, tone_of}
use Rattle.towers.specs.Worked.{Example, Multiplies, worked, byte_ops}
use Rattle.worked.specs.Designs.{tone_designs, shared_design, byte_designs, byte_of}

pub data Case : Type 0 where
  -- a design with its frame
  tone_design byte_design : Design → Case
  -- a product of two members
  products : Example → Case
  -- n generators over tones, by their codes, 17 for each, and the bytes of their card
  tone_card : ℕ → List ℕ → List ℕ → Case
  -- a row of n generators over tones, a message and its block
  tone_block : ℕ → List (List ℕ) → List ℕ → List ℕ → Case
  -- a design over tones, with its frame, that the link turns away by 11
  kept_off : Design → Case

-- a design by the numbers that it keeps once it is framed: how many generators, d, and the degree of its divisor. Whatever the exact length
-- of the table that a call of the link asks for, the message and the block, the call refuses it as one whose divisor is not 1.
pub record KeptOff (w : Design) : Type 0 where
  pub divisor_degree : ℕ
  pub is_degree : Degree tone_ops (listed tone_ops (each tone_of w.divisor)) divisor_degree
  pub refused : (exact symbols block : ℕ) → first_no (link_questions exact exact (suc w.m) w.degree divisor_degree symbols block) ≡ Some Divisor

abbrev pub Holds : Case → Type 0
Holds (tone_design w) = AllFrames tone_ops tone_of (w ∷ [])
Holds (byte_design w) = AllFrames byte_ops byte_of (w ∷ [])
Holds (products e) = Multiplies e.over e.left e.right e.product
Holds (tone_card n codes bytes) = card 1 (generators n codes) ≡ bytes
Holds (tone_block n rows message block) = Encodes tone_ops n (listed_row tone_ops (each (each tone_of) rows)) (length message) (listed tone_ops (each tone_of message)) (listed_block tone_ops n (each tone_of block))
Holds (kept_off w) = AllFrames tone_ops tone_of (w ∷ []) × KeptOff w × (link_number Divisor ≡ 11)

abbrev pub AllHold : List Case → Type 0
AllHold [] = Unit {0}
AllHold (c ∷ cs) = Holds c × AllHold cs

abbrev pub other_cases : List Case
other_cases =
    -- the card of (s^2, s + 1)
    tone_card 2 ((0 ∷ 0 ∷ 1 ∷ replicate 14 0) ++ (1 ∷ 1 ∷ replicate 15 0)) (1 ∷ 2 ∷ 3 ∷ 1 ∷ 2 ∷ 2 ∷ 1 ∷ 0 ∷ 0 ∷ 0 ∷ 1 ∷ 0 ∷ 3 ∷ 1 ∷ 1 ∷ 0 ∷ 0 ∷ [])
    -- the message 3 1 under (s^2, s + 1)
    ∷ tone_block 2 ((0 ∷ 0 ∷ 1 ∷ []) ∷ (1 ∷ 1 ∷ []) ∷ []) (3 ∷ 1 ∷ []) (0 ∷ 3 ∷ 0 ∷ 4 ∷ 3 ∷ 1 ∷ 1 ∷ 0 ∷ [])
    -- (s^2, s^2 + s), whose divisor is s
    ∷ kept_off shared_design
    ∷ []

abbrev pub cases : List Case
cases = each tone_design tone_designs ++ each byte_design byte_designs ++ each products worked ++ other_cases

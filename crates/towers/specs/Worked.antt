-- Products worked out by hand, over the definitions of the fields. The clauses of the crate cite it; it assumes nothing.
use Rattle.std.specs.Prelude.{◌≡◌, ℕ, List, [], ◌∷◌}
use Rattle.algebra.specs.Rings.{RingOps}
use Rattle.nibbles.specs.Nibbles.{code_of, nibble_ops}
use Rattle.nibbles.specs.declared.Nibble.{Nibble}
use Rattle.nibbles.specs.declared.Nibble.TheVariants.{N1, N8}
use Rattle.pairs.specs.Pairs.{PairMember, pair_ops, pair_number}
use Rattle.tones.specs.Tones.{number_of, tone_ops}
use Rattle.tones.specs.declared.Tone.{Tone}
use Rattle.tones.specs.declared.Tone.TheVariants.{T0, T1}

-- the members numbered m and n have a product numbered p
pub record IsProduct {R : Type 0} (o : RingOps R) (number : R → ℕ) (m n p : ℕ) : Type 0 where
  pub left : R
  pub right : R
  pub left_number : number left ≡ m
  pub right_number : number right ≡ n
  pub product_number : number (o.product left right) ≡ p

-- pairs over nibbles, z·z = z + 8
abbrev pub byte_ops : RingOps (PairMember Nibble)
byte_ops = pair_ops nibble_ops N1 N8

-- pairs over tones, z·z = −1
abbrev pub tone_pair_ops : RingOps (PairMember Tone)
tone_pair_ops = pair_ops tone_ops T0 T1

pub data Over : Type 0 where
  tones nibbles bytes tone_pairs : Over

pub record Example : Type 0 where
  pub over : Over
  pub left : ℕ
  pub right : ℕ
  pub product : ℕ

abbrev pub Multiplies : Over → ℕ → ℕ → ℕ → Type 0
Multiplies tones m n p = IsProduct tone_ops number_of m n p
Multiplies nibbles m n p = IsProduct nibble_ops code_of m n p
Multiplies bytes m n p = IsProduct byte_ops (pair_number 16 code_of) m n p
Multiplies tone_pairs m n p = IsProduct tone_pair_ops (pair_number 31 number_of) m n p

abbrev example : Over → ℕ → ℕ → ℕ → Example
example f m n p = record { over = f; left = m; right = n; product = p }

abbrev pub worked : List Example
worked =
    example tones 5 25 1
    ∷ example nibbles 8 2 3
    ∷ example nibbles 2 9 1
    ∷ example bytes 16 16 24
    ∷ example bytes 16 255 1
    ∷ example tone_pairs 31 31 30
    ∷ example tone_pairs 32 481 1
    ∷ []

abbrev pub AllHold : List Example → Type 0
AllHold [] = Unit {0}
AllHold (e ∷ es) = Multiplies e.over e.left e.right e.product × AllHold es

-- the product that each example states
abbrev pub stated : List Example → List ℕ
stated [] = []
stated (e ∷ es) = e.product ∷ stated es

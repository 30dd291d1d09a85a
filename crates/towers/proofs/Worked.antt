-- The worked products hold, and a product by codes has one answer. Assumes nothing.
use Rattle.std.proofs.Common.{◌≡◌, ℕ, Ok, Result, sym, refl, ◌∙◌, subst, ap₂, MatchResult}
use Rattle.algebra.specs.Rings.{RingOps, Numbering}
use Rattle.nibbles.specs.Nibbles.{code_of}
use Rattle.nibbles.specs.declared.Nibble.TheVariants.{N0, N1, N2, N8, N9, N15}
use Rattle.nibbles.specs.NibblesLemmas.{nibble_numbering}
use Rattle.pairs.specs.Pairs.{pair, pair_number}
use Rattle.pairs.specs.Codes.{pair_numbering}
use Rattle.tones.specs.Tones.{number_of}
use Rattle.tones.specs.declared.Tone.TheVariants.{T0, T1, T5, T15, T16, T25}
use Rattle.tones.specs.TonesLemmas.{tone_numbering}
use Rattle.towers.specs.Worked.{IsProduct, AllHold, worked, byte_ops, tone_pair_ops}

pub byte_numbering : Numbering byte_ops 256 (pair_number 16 code_of)
byte_numbering = pair_numbering nibble_numbering N1 N8

pub tone_pair_numbering : Numbering tone_pair_ops 961 (pair_number 31 number_of)
tone_pair_numbering = pair_numbering tone_numbering T0 T1

multiplies : {R : Type 0} (o : RingOps R) (number : R → ℕ) (x y : R) → IsProduct o number (number x) (number y) (number (o.product x y))
multiplies o number x y = record { left = x; right = y; left_number = refl; right_number = refl; product_number = refl }

pub all_hold : AllHold worked
all_hold = (
  multiplies _ number_of T5 T25,
  (
    multiplies _ code_of N8 N2,
    (
      multiplies _ code_of N2 N9,
      (
        multiplies byte_ops (pair_number 16 code_of) (pair N0 N1) (pair N0 N1),
        (
          multiplies byte_ops (pair_number 16 code_of) (pair N0 N1) (pair N15 N15),
          (
            multiplies tone_pair_ops (pair_number 31 number_of) (pair T0 T1) (pair T0 T1),
            (multiplies tone_pair_ops (pair_number 31 number_of) (pair T1 T1) (pair T16 T15), tt),
          ),
        ),
      ),
    ),
  ),
)

-- where members are numbered, codes have one product
pub one_product : {R : Type 0} {o : RingOps R} {order : ℕ} {number : R → ℕ} → Numbering o order number → (m n p q : ℕ) → IsProduct o number m n p → IsProduct o number m n q → p ≡ q
one_product {R} {o} {order} {number} N m n p q a b =
    sym a.product_number
    ∙ ap₂ (λ (x y : R). number (o.product x y)) (N.apart a.left b.left (a.left_number ∙ sym b.left_number)) (N.apart a.right b.right (a.right_number ∙ sym b.right_number))
    ∙ b.product_number

pub answered : {A E : Type 0} (r : Result A E) (P : A → Type 0) (Q : E → Type 0) (x : A) → r ≡ Ok x → MatchResult r P Q → P x
answered r P Q x e h = subst (λ s. MatchResult s P Q) e h

-- Members of a field. Main results: numbering_decides (numbered members can be told apart), field_of, zero_of_product and nonzero_product (no
-- zero divisors).
use mathlib.Core.Path.{◌≡◌, sym, ap, ◌∙◌}
use Prim.Native.Nat.{ℕ}
use native.Mathlib.Decide.{ℕ_discrete, map_dec}
use Rattle.algebra.specs.Rings.{RingOps, RingLaws, FieldLaws, Invertible, Numbering, IsField}
use Rattle.algebra.proofs.Sums as Sums

-- members with a numbering can be told apart
pub numbering_decides : {R : Type 0} {o : RingOps R} {order : ℕ} {number : R → ℕ} → Numbering o order number → (x y : R) → Dec (x ≡ y)
numbering_decides {number} N x y = map_dec (N.apart x y) (λ e. ap number e) (ℕ_discrete (number x) (number y))

module _ {R : Type 0} (o : RingOps R) (F : IsField o) where
  open o use {zero as O, one as I, sum as ◌+◌, negative as -◌, product as ◌·◌}

  infixl 60 ◌+◌
  infixl 70 ◌·◌
  infix 80 -◌
  abbrev L : RingLaws o
  L = F.laws.ring

  -- x y = 0 and x is not zero: y is
  pub zero_of_product : (x y : R) → (x ≡ O → ⊥) → x · y ≡ O → y ≡ O
  zero_of_product x y n e =
      let z = F.inverts x n in
      sym (Sums.one_product o L y)
      ∙ ap (λ t. t · y) (sym (L.product_comm z.0 x ∙ z.1))
      ∙ L.product_assoc z.0 x y
      ∙ ap (λ t. z.0 · t) e
      ∙ Sums.product_zero o L z.0

  pub nonzero_product : (x y : R) → (x ≡ O → ⊥) → (y ≡ O → ⊥) → x · y ≡ O → ⊥
  nonzero_product x y n m e = m (zero_of_product x y n e)

  pub one_nonzero : I ≡ O → ⊥
  one_nonzero e = F.laws.zero_not_one (sym e)

  pub nonzero_negative : (x : R) → (x ≡ O → ⊥) → - x ≡ O → ⊥
  nonzero_negative x n e = n (sym (Sums.negative_negative o L x) ∙ ap -◌ e ∙ Sums.negative_zero o L)

-- a field by its laws, a numbering of its members and its inverses
pub field_of : {R : Type 0} {o : RingOps R} {order : ℕ} {number : R → ℕ} → FieldLaws o → Numbering o order number → Invertible o → IsField o
field_of laws numbering inverts = record { laws = laws; decides = numbering_decides numbering; inverts = inverts }

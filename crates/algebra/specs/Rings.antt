-- Commutative rings with one, and fields: the operations and their laws. The clauses of every crate cite it; it assumes nothing.
use Rattle.std.specs.Prelude.{◌≡◌, ℕ, ◌<◌}

-- the operations on a set of members
pub record RingOps (R : Type 0) : Type 0 where
  pub zero : R
  pub one : R
  pub sum : R → R → R
  pub negative : R → R
  pub product : R → R → R

-- what makes them a commutative ring with one
pub record RingLaws {R : Type 0} (o : RingOps R) : Type 0 where
  pub sum_assoc : (x y z : R) → o.sum (o.sum x y) z ≡ o.sum x (o.sum y z)
  pub sum_comm : (x y : R) → o.sum x y ≡ o.sum y x
  pub sum_zero : (x : R) → o.sum x o.zero ≡ x
  pub sum_negative : (x : R) → o.sum x (o.negative x) ≡ o.zero
  pub product_assoc : (x y z : R) → o.product (o.product x y) z ≡ o.product x (o.product y z)
  pub product_comm : (x y : R) → o.product x y ≡ o.product y x
  pub product_one : (x : R) → o.product x o.one ≡ x
  pub product_sum : (x y z : R) → o.product x (o.sum y z) ≡ o.sum (o.product x y) (o.product x z)

-- a ring in which zero is not one
pub record FieldLaws {R : Type 0} (o : RingOps R) : Type 0 where
  pub ring : RingLaws o
  pub zero_not_one : o.zero ≡ o.one → ⊥

-- each member but zero has an inverse: with FieldLaws, a field
abbrev pub Invertible : {R : Type 0} → RingOps R → Type 0
Invertible {R} o = (x : R) → (x ≡ o.zero → ⊥) → (y : R) × (o.product x y ≡ o.one)

-- the members are numbered: each number below the order is the number of exactly one member, and zero's is 0
pub record Numbering {R : Type 0} (o : RingOps R) (order : ℕ) (number : R → ℕ) : Type 0 where
  pub below : (x : R) → number x < order
  pub named : (k : ℕ) → k < order → (x : R) × (number x ≡ k)
  pub apart : (x y : R) → number x ≡ number y → x ≡ y
  pub zero_first : number o.zero ≡ 0

-- a field whose members can be told apart
pub record IsField {R : Type 0} (o : RingOps R) : Type 0 where
  pub laws : FieldLaws o
  pub decides : (x y : R) → Dec (x ≡ y)
  pub inverts : Invertible o

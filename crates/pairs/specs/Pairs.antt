-- Pairs over a ring: members u + v·z with z·z = −t·z − c. The clauses of the crate cite it; it assumes nothing.
use Rattle.std.specs.Prelude.{ℕ, ◌+◌, ◌*◌}
use Rattle.algebra.specs.Rings.{RingOps}

-- u is the low part, v the high one
pub record PairMember (M : Type 0) : Type 0 where
  pub low : M
  pub high : M

abbrev pub pair : {M : Type 0} → M → M → PairMember M
pair u v = record { low = u; high = v }

-- u·u − t·u·v + c·v·v: what u + v·z gives times u − t·v − v·z
abbrev pub norm : {M : Type 0} → RingOps M → M → M → PairMember M → M
norm o t c x =
    o.sum (o.sum (o.product x.low x.low) (o.negative (o.product (o.product t x.low) x.high)))
    (o.product (o.product c x.high) x.high)

abbrev pub pair_ops : {M : Type 0} → RingOps M → M → M → RingOps (PairMember M)
pair_ops o t c = record {
  zero = pair o.zero o.zero;
  one = pair o.one o.zero;
  sum = λ x y. pair (o.sum x.low y.low) (o.sum x.high y.high);
  negative = λ x. pair (o.negative x.low) (o.negative x.high);
  product = λ x y.
      pair (o.sum (o.product x.low y.low) (o.negative (o.product c (o.product x.high y.high))))
      (o.sum (o.sum (o.product x.low y.high) (o.product x.high y.low)) (o.negative (o.product t (o.product x.high y.high))));
}

-- the code of a pair over a field of this order
abbrev pub pair_number : {M : Type 0} → ℕ → (M → ℕ) → PairMember M → ℕ
pair_number order number x = number x.low + order * number x.high

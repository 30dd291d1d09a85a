-- What holds of the frame in its table: the degrees fit, and no column is zero. Assumes nothing.
use Rattle.std.proofs.Common.{◌≡◌, ℕ, zero, suc, ◌+◌, ◌-◌, ◌*◌, ◌<◌, ◌≤◌, List, sym, ap, ◌∙◌, subst, arith}
use native.Mathlib.Decide.{dec_le}
use Rattle.algebra.specs.Rings.{RingOps, RingLaws, IsField}
use Rattle.algebra.specs.Series.{series}
use Rattle.algebra.specs.Divisors.{AllZero, VectorDegree, MonicGcd, DividedRow}
use Rattle.algebra.specs.Frames.{FrameColumns, IsFrame}
use Rattle.algebra.proofs.Bounds as B
use Rattle.algebra.proofs.Fields as Fields
use Rattle.algebra.proofs.Series as S
use Rattle.algebra.proofs.Sums as Sums
use Rattle.algebra.proofs.OptimalFrames as Optimal
use Rattle.tables.proofs.Parts.{poly_at_below}
use Rattle.frames.specs.Rows.{gcd_in, quotient_in, DividedByGcd}

module _ {F R : Type 0} (o : RingOps R) (field : IsField o) (member : F → R) where
  abbrev L : RingLaws o
  L = field.laws.ring

  -- the degrees of the divisor and of the divided row add up to the degree of a generator
  pub degrees_within : (n e d : ℕ) (generators work : List F) → DividedByGcd o member n generators work e d → d + e ≤ 16
  degrees_within n e d generators work all = go (dec_le (d + e) 16)
    where
      go : Dec (d + e ≤ 16) → d + e ≤ 16
      go (yes h) = h
      go (no h) =
          absurd (Fields.nonzero_product o field (gcd_in o member work e) (quotient_in o member work all.highest.component d) all.degree.top all.highest.top
          (sym (B.leading_product o L e d (gcd_in o member work) (quotient_in o member work all.highest.component) all.degree.below (all.highest.bounded all.highest.component all.highest.within))
          ∙ ap (λ (f : ℕ → R). f (e + d)) (all.divided.is all.highest.component all.highest.within)
          ∙ poly_at_below o member generators (17 * all.highest.component) 17 (e + d) (omega arith)))

module _ {R : Type 0} (o : RingOps R) (field : IsField o) where
  -- a frame has no column that is zero
  pub columns_nonzero : (m : ℕ) (a : ℕ → ℕ → R) (g : ℕ → R) (d : ℕ) (c : ℕ → ℕ → ℕ → R) → IsFrame o m a g d c → (j : ℕ) → j < suc m → AllZero o (suc m) (c j) → ⊥
  columns_nonzero m a g d c frame zero h none =
      field.laws.zero_not_one
      (ap (λ (f : ℕ → R). f 0)
      (sym (Sums.total_zero (series o) (S.series_laws o field.laws.ring) (suc m) (λ i. (series o).product (frame.row i) (c 0 i)) (λ i l. ap ((series o).product (frame.row i)) (none i l) ∙ Sums.product_zero (series o) (S.series_laws o field.laws.ring) (frame.row i)))
      ∙ frame.columns.first))
  columns_nonzero m a g d c frame (suc j) h none =
      let v = (Optimal.frame_degrees o field m a g d c frame).1 j (omega arith) in
      v.top (ap (λ (f : ℕ → R). f ((Optimal.frame_degrees o field m a g d c frame).0 j)) (none v.component v.within))

  -- the frame columns of the divided row, with the divisor, are the frame of the generators
  pub frame_of_columns : (n : ℕ) → 2 ≤ n → (a : ℕ → ℕ → R) (g : ℕ → R) (r : ℕ → ℕ → R) (d : ℕ) (c : ℕ → ℕ → ℕ → R) → MonicGcd o n a g → DividedRow o n a g r → VectorDegree o n r d
      → (p : ℕ → ℕ) × FrameColumns o (n - 1) d r p c → IsFrame o (n - 1) a g d c
  frame_of_columns n two a g r d c gcd divided degree columns =
      let e : n ≡ suc (n - 1) = omega arith in
      record {
        divisor = subst (λ (k : ℕ). MonicGcd o k a g) e gcd;
        row = r;
        divided = subst (λ (k : ℕ). DividedRow o k a g r) e divided;
        degree = subst (λ (k : ℕ). VectorDegree o k r d) e degree;
        place = columns.0;
        columns = columns.1;
      }

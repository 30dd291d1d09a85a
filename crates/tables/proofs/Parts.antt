-- Polynomials in the parts of a table. Main results: poly_at_in and poly_at_below (its coefficients), poly_at_is (how to find it),
-- poly_at_kept (a part apart from what was written).
use mathlib.Core.List.{List}
use mathlib.Core.Path.{◌≡◌, refl, sym, ap₂, ◌∙◌, fun_ext}
use Prim.Native.Nat.{ℕ, zero, suc, ◌+◌, ◌<◌, ◌≤◌}
use native.Mathlib.Decide.{dec_lt}
use native.Mathlib.Nat.{not-suc-le-zero, le_of_suc-le-suc}
use native.Mathlib.Omega.{arith}
use borrow.Author.Count.{below_more}
use Rattle.algebra.specs.Rings.{RingOps, RingLaws}
use Rattle.algebra.specs.Series.{series, constant, shift, Below}
use Rattle.algebra.proofs.Bounds.{below_mono, below_sum, below_shift, below_constant}
use Rattle.algebra.proofs.Series.{shift_at, shift_low}
use Rattle.algebra.proofs.Sums.{zero_sum}
use Rattle.tables.specs.Places.{at, Apart, Kept, cut, poly_at}

cut_in : {R : Type 0} (o : RingOps R) (w : ℕ) (f : ℕ → R) (k : ℕ) → k < w → cut o w f k ≡ f k
unfolding cut
cut_in o zero f k h = absurd (not-suc-le-zero h)
cut_in o (suc w) f zero h = refl
cut_in o (suc w) f (suc k) h = cut_in o w (λ i. f (suc i)) k (le_of_suc-le-suc h)

cut_below : {R : Type 0} (o : RingOps R) (w : ℕ) (f : ℕ → R) (k : ℕ) → w ≤ k → cut o w f k ≡ o.zero
unfolding cut
cut_below o zero f k h = refl
cut_below o (suc w) f zero h = absurd (not-suc-le-zero h)
cut_below o (suc w) f (suc k) h = cut_below o w (λ i. f (suc i)) k (le_of_suc-le-suc h)

module _ {F R : Type 0} (o : RingOps R) (member : F → R) where
  pub poly_at_in : (xs : List F) (base width k : ℕ) → k < width → poly_at o member xs base width k ≡ at o member xs (base + k)
  unfolding poly_at
  poly_at_in xs base width k h = cut_in o width (λ i. at o member xs (base + i)) k h

  pub poly_at_below : (xs : List F) (base width : ℕ) → Below o width (poly_at o member xs base width)
  unfolding poly_at
  poly_at_below xs base width k h = cut_below o width (λ i. at o member xs (base + i)) k h

  -- the polynomial of a part is found place by place
  pub poly_at_is : (xs : List F) (base width : ℕ) (f : ℕ → R) → Below o width f → ((k : ℕ) → k < width → at o member xs (base + k) ≡ f k) → poly_at o member xs base width ≡ f
  poly_at_is xs base width f b e =
      fun_ext (λ k. elim (dec_lt k width) [
        | yes h ↦ poly_at_in xs base width k h ∙ e k h
        | no h ↦ poly_at_below xs base width k (omega arith) ∙ sym (b k (omega arith))
      ])

  -- a part apart from what was written is as it was
  pub poly_at_kept : (xs ys : List F) (base width other count : ℕ) → Kept o member base width xs ys → Apart base width other count → poly_at o member ys other count ≡ poly_at o member xs other count
  poly_at_kept xs ys base width other count keep apart =
      poly_at_is ys other count (poly_at o member xs other count) (poly_at_below xs other count)
      (λ k h. keep (other + k) (λ w. apart (other + k) w (omega arith, omega arith)) ∙ sym (poly_at_in xs other count k h))

  -- one coefficient more at the top
  pub poly_at_more : RingLaws o → (xs : List F) (base k : ℕ) → poly_at o member xs base (k + 1) ≡ (series o).sum (poly_at o member xs base k) (shift o k (constant o (at o member xs (base + k))))
  poly_at_more L xs base k =
      poly_at_is xs base (k + 1) ((series o).sum (poly_at o member xs base k) top)
      (below_sum o L (k + 1) (poly_at o member xs base k) top (below_mono o L k (k + 1) (poly_at o member xs base k) (omega arith) (poly_at_below xs base k)) (below_shift o L k 1 (k + 1) (constant o x) (omega arith) (below_constant o L x)))
      (below_more _ _
      (λ j h. sym (ap₂ o.sum (poly_at_in xs base k j h) (shift_low o L k j (constant o x) h) ∙ L.sum_zero (at o member xs (base + j))))
      (sym (ap₂ o.sum (poly_at_below xs base k k (omega arith)) (shift_at o L k k 0 (constant o x) (omega arith)) ∙ zero_sum o L x)))
    where
      x : R
      x = at o member xs (base + k)

      top : ℕ → R
      top = shift o k (constant o x)

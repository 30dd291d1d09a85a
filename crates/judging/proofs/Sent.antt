-- The product of a row with a column, one component at a time, and its comparison with a multiple of a polynomial. Main results:
-- dot_more, difference_zero, zero_difference, zero_tells.
use Rattle.std.proofs.Common.{◌≡◌, ℕ, ◌+◌ as ◌plus◌, Bool, true, false, not, Option, Some, None, is_some, MatchOption, sym, ap, ◌∙◌, ap₂, add-one}
use mathlib.Core.Path.{fun_ext}
use Rattle.algebra.specs.Rings.{RingOps, RingLaws}
use Rattle.algebra.specs.Series.{dot, series, shift, scale}
use Rattle.algebra.proofs.Sums as Sums
use Rattle.algebra.proofs.Series as S
use Rattle.polynomials.specs.Polynomials.{DegreeOf}
use Rattle.judging.specs.Answers.{Tells}

-- what is known of an option where there is one
pub some_found : {X : Type 0} (P Q : Type 0) (r : Option X) → is_some r ≡ true → MatchOption r P (λ x. Q) → Q
some_found P Q None e m = cc
some_found P Q (Some x) e m = m

pub tells_like : {P Q : Type 0} (b : Bool) → (P → Q) → (Q → P) → Tells P b → Tells Q b
tells_like true there back t = there t
tells_like false there back t = λ q. t (back q)

-- a polynomial is zero where it has no degree
pub zero_tells : {M : Type 0} (o : RingOps M) (width : ℕ) (f : ℕ → M) (r : Option ℕ) (b : Bool) → DegreeOf o width f r → is_some r ≡ not b → Tells (f ≡ (series o).zero) b
zero_tells o width f None true d e = d
zero_tells o width f None false d e = cc
zero_tells o width f (Some k) true d e = cc
zero_tells o width f (Some k) false d e = λ z. d.1.top (ap (λ h. h k) z)

module _ {M : Type 0} (o : RingOps M) (L : RingLaws o) where
  pub dot_more : (a h : ℕ → ℕ → M) (i : ℕ) (f g : ℕ → M) → f ≡ dot (series o) i a h → g ≡ (series o).sum f ((series o).product (a i) (h i)) → g ≡ dot (series o) (i plus 1) a h
  dot_more a h i f g e d =
      d
      ∙ ap (λ (t : ℕ → M). (series o).sum t ((series o).product (a i) (h i))) e
      ∙ sym (Sums.total_last (series o) (S.series_laws o L) i (λ k. (series o).product (a k) (h k)))
      ∙ ap (λ (k : ℕ). dot (series o) k a h) (sym (add-one i))

  pub difference_zero : (f g : ℕ → M) (x : M) → (series o).sum f (shift o 0 (scale o (o.negative x) g)) ≡ (series o).zero → f ≡ scale o x g
  difference_zero f g x e =
      fun_ext (λ k. Sums.equal_of_difference o L (f k) (o.product x (g k)) (ap (λ t. o.sum (f k) t) (sym (Sums.negative_product o L x (g k))) ∙ ap (λ (t : ℕ → M). t k) e))

  pub zero_difference : (f g : ℕ → M) (x : M) → f ≡ scale o x g → (series o).sum f (shift o 0 (scale o (o.negative x) g)) ≡ (series o).zero
  zero_difference f g x e =
      fun_ext (λ k. ap₂ o.sum (ap (λ (t : ℕ → M). t k) e) (Sums.negative_product o L x (g k)) ∙ L.sum_negative (o.product x (g k)))

  -- the multiple by one
  pub scale_one : (x : M) (g : ℕ → M) → x ≡ o.one → scale o x g ≡ g
  scale_one x g e = fun_ext (λ k. ap (λ t. o.product t (g k)) e ∙ Sums.one_product o L (g k))

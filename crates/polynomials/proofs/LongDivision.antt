-- Long division and products, one step at a time. Main results: top_cancels and step_is (a multiple of the divisor is taken away),
-- product_more (one coefficient of a factor more).
use Rattle.std.proofs.Common.{◌≡◌, ℕ, zero, suc, ◌+◌ as ◌plus◌, [], ◌∷◌, sym, refl, ap, ◌∙◌, ap₂, arith}
use mathlib.Core.Path.{fun_ext}
use Rattle.algebra.specs.Rings.{RingOps, RingLaws}
use Rattle.algebra.specs.Series.{constant, series, shift, scale, Below, Polynomial}
use Rattle.algebra.proofs.Sums as Sums
use Rattle.algebra.proofs.Solver.{solve, var, ◌⊞◌, ◌⊠◌, neg}
use Rattle.algebra.proofs.Series as S
use Rattle.algebra.proofs.Bounds as B

module _ {M : Type 0} (o : RingOps M) (L : RingLaws o) where
  abbrev SL : RingLaws (series o)
  SL = S.series_laws o L

  open o use {zero as O, one as I, product as ◌⊙◌, negative as minus}
  open series o use {zero as 𝟘, sum as ◌+◌, negative as -◌, product as ◌·◌}

  infixl 60 ◌+◌
  infixl 70 ◌·◌
  infixl 70 ◌⊙◌
  infix 80 -◌
  negative_monomial_at : (j : ℕ) (r : M) (k : ℕ) → minus (shift o j (constant o (minus r)) k) ≡ shift o j (constant o r) k
  negative_monomial_at zero r zero = Sums.negative_negative o L r
  negative_monomial_at zero r (suc k) = Sums.negative_zero o L
  negative_monomial_at (suc j) r zero = Sums.negative_zero o L
  negative_monomial_at (suc j) r (suc k) = negative_monomial_at j r k

  -- f = b q + g, and r s^j b taken away from g
  pub step_is : (f b q g h : ℕ → M) (j : ℕ) (r : M) → f ≡ b · q + g → h ≡ g + shift o j (scale o (minus r) b) → f ≡ b · (q + shift o j (constant o r)) + h
  step_is f b q g h j r e d =
      e
      ∙ solve (series o) SL (b ∷ q ∷ g ∷ t ∷ []) (var 0 ⊠ var 1 ⊞ var 2) (var 0 ⊠ (var 1 ⊞ neg (var 3)) ⊞ (var 2 ⊞ var 3 ⊠ var 0)) refl
      ∙ ap₂ (λ x y. b · (q + x) + (g + y)) (fun_ext (negative_monomial_at j r)) (S.shift_constant_product o L j (minus r) b)
      ∙ ap (λ x. b · (q + shift o j (constant o r)) + x) (sym d)
    where
      t : ℕ → M
      t = shift o j (constant o (minus r))

  pub step_polynomial : (q : ℕ → M) (j : ℕ) (r : M) → Polynomial o q → Polynomial o (q + shift o j (constant o r))
  step_polynomial q j r p = B.polynomial_sum o L q (shift o j (constant o r)) p (B.polynomial_shift o L j (constant o r) (B.polynomial_constant o L r))

  -- with r the ratio of the leading coefficients the bound falls
  pub top_cancels : (b g h : ℕ → M) (k e j : ℕ) (r z : M) → k ≡ j plus e → b e ⊙ z ≡ I → r ≡ z ⊙ g k → Below o (suc e) b → Below o (suc k) g → h ≡ g + shift o j (scale o (minus r) b) → Below o k h
  top_cancels b g h k e j r z k_is unit r_is bb bg h_is n l =
      ap (λ (t : ℕ → M). t n) h_is
      ∙ B.below_top o L k (g + shift o j (scale o (minus r) b))
      (B.below_sum o L (suc k) g (shift o j (scale o (minus r) b)) bg (B.below_shift o L j (suc e) (suc k) (scale o (minus r) b) (omega arith) (B.below_scale o L (suc e) (minus r) b bb)))
      (ap (λ t. o.sum (g k) t)
      (S.shift_at o L j k e (scale o (minus r) b) k_is
      ∙ Sums.negative_product o L r (b e)
      ∙ ap (λ t. minus (t ⊙ b e)) r_is
      ∙ ap minus (solve o L (z ∷ g k ∷ b e ∷ []) (var 0 ⊠ var 1 ⊠ var 2) (var 2 ⊠ var 0 ⊠ var 1) refl ∙ ap (λ t. t ⊙ g k) unit ∙ Sums.one_product o L (g k)))
      ∙ L.sum_negative (g k))
      n l

  -- one coefficient of a factor more
  pub product_more : (t p q f : ℕ → M) (k : ℕ) (x : M) → q ≡ p + shift o k (constant o x) → t + p · f + shift o k (scale o x f) ≡ t + q · f
  product_more t p q f k x e =
      ap (λ y. t + p · f + y) (sym (S.shift_constant_product o L k x f))
      ∙ solve (series o) SL (t ∷ p ∷ f ∷ shift o k (constant o x) ∷ []) (var 0 ⊞ var 1 ⊠ var 2 ⊞ var 3 ⊠ var 2) (var 0 ⊞ (var 1 ⊞ var 3) ⊠ var 2) refl
      ∙ ap (λ y. t + y · f) (sym e)

-- Common divisors over a field. Main results: same_common_step (a remainder keeps the common divisors), unit_divisors.
use mathlib.Core.List.{[], ◌∷◌}
use mathlib.Core.Logic.{◌↔◌}
use mathlib.Core.Path.{◌≡◌, refl, sym, ap, subst, ◌∙◌, fun_ext}
use Prim.Native.Nat.{ℕ}
use Rattle.algebra.specs.Rings.{RingOps, RingLaws, IsField}
use Rattle.algebra.specs.Series.{series, scale, constant}
use Rattle.algebra.specs.Divisors.{Division, Divides}
use Rattle.algebra.proofs.Bounds as B
use Rattle.algebra.proofs.Division as V
use Rattle.algebra.proofs.Series as S
use Rattle.algebra.proofs.Solver.{solve, var, ◌⊞◌, ◌⊠◌, neg}
use Rattle.algebra.proofs.Sums as Sums
use Rattle.frames.specs.Common.{SameCommon}

module _ {M : Type 0} (o : RingOps M) (F : IsField o) where
  abbrev L : RingLaws o
  L = F.laws.ring

  abbrev SL : RingLaws (series o)
  SL = S.series_laws o L

  open o use {zero as O, one as I, product as ◌⊙◌}
  open series o use {zero as 𝟘, one as 𝟙, sum as ◌+◌, negative as -◌, product as ◌·◌}

  infixl 60 ◌+◌
  infixl 70 ◌·◌
  infixl 70 ◌⊙◌
  infix 80 -◌
  -- f and g have the common divisors of g and the remainder of f by g
  pub same_common_step : (f g r : ℕ → M) (e : ℕ) → (d : Division o e f g) → d.remainder ≡ r → SameCommon o f g g r
  same_common_step f g r e d r_is h = (
    λ p. (subst (Divides o h) (sym d.is) (V.divides_sum o F h (g · d.quotient) d.remainder (V.divides_product o F h g d.quotient p.0 d.polynomial) (subst (Divides o h) (sym r_is) p.1)), p.0),
    λ p. (p.1, subst (Divides o h) rest (V.divides_sum o F h f (g · (- d.quotient)) p.0 (V.divides_product o F h g (- d.quotient) p.1 (B.polynomial_negative o L d.quotient d.polynomial)))),
  )
    where
      rest : f + g · (- d.quotient) ≡ r
      rest =
          ap (λ t. t + g · (- d.quotient)) d.is
          ∙ solve (series o) SL (g ∷ d.quotient ∷ d.remainder ∷ []) (var 0 ⊠ var 1 ⊞ var 2 ⊞ var 0 ⊠ neg (var 1)) (var 2) refl
          ∙ r_is

  -- the divisors of f x, with x a unit, are those of f
  pub unit_divisors : (f h : ℕ → M) (x y : M) → y ⊙ x ≡ I → Divides o h (scale o x f) ↔ Divides o h f
  unit_divisors f h x y unit = (
    λ d. subst (Divides o h) back (divides_scale h (scale o x f) y d),
    λ d. divides_scale h f x d,
  )
    where
      divides_scale : (h f : ℕ → M) (z : M) → Divides o h f → Divides o h (scale o z f)
      divides_scale h f z d =
          subst (Divides o h) (SL.product_comm f (constant o z) ∙ S.constant_product o L z f)
          (V.divides_product o F h f (constant o z) d (B.polynomial_constant o L z))

      back : scale o y (scale o x f) ≡ f
      back = fun_ext (λ k. sym (L.product_assoc y x (f k)) ∙ ap (λ t. t ⊙ f k) unit ∙ Sums.one_product o L (f k))

-- Exact degrees of polynomials over a field. Main results: zero_or_degree (zero and degree are decidable for a bounded series),
-- degree_unique, degree_product, zero_of_product and product_cancel (no zero divisors), below_factor (the bound of a factor).
use mathlib.Core.Path.{◌≡◌, refl, sym, ap, ◌∙◌}
use mathlib.Core.Logic.{◌⊎◌, inl, inr}
use mathlib.Core.List.{[], ◌∷◌}
use Prim.Native.Nat.{ℕ, zero, suc, ◌≤◌, ◌<◌, ◌+◌ as ◌plus◌}
use native.Mathlib.Nat.{le_refl}
use native.Mathlib.Decide.{dec_lt}
use native.Mathlib.Omega.{arith}
use Rattle.algebra.specs.Rings.{RingOps, RingLaws, IsField}
use Rattle.algebra.specs.Series.{series, scale, Below, Degree, Polynomial}
use Rattle.algebra.proofs.Sums as Sums
use Rattle.algebra.proofs.Solver.{solve, var, ◌⊞◌, ◌⊠◌, neg}
use Rattle.algebra.proofs.Series as S
use Rattle.algebra.proofs.Fields as Fields
use Rattle.algebra.proofs.Bounds as B

module _ {M : Type 0} (o : RingOps M) (F : IsField o) where
  abbrev L : RingLaws o
  L = F.laws.ring

  abbrev SL : RingLaws (series o)
  SL = S.series_laws o L

  open o use {zero as O, one as I}
  open series o use {zero as 𝟘, one as 𝟙, sum as ◌+◌, negative as -◌, product as ◌·◌}

  infixl 60 ◌+◌
  infixl 70 ◌·◌
  infix 80 -◌
  -- a degree stands under every bound
  pub degree_lt : (f : ℕ → M) (e N : ℕ) → Degree o f e → Below o N f → e < N
  degree_lt f e N d b = elim (dec_lt e N) [ yes h ↦ h | no h ↦ absurd (d.top (b e (omega arith))) ]

  pub degree_unique : (f : ℕ → M) (e d : ℕ) → Degree o f e → Degree o f d → e ≡ d
  degree_unique f e d p q =
      let h = degree_lt f e (suc d) p q.below in
      let l = degree_lt f d (suc e) q p.below in
      omega arith

  -- a bounded series is zero or has a degree
  pub zero_or_degree : (N : ℕ) (f : ℕ → M) → Below o N f → (f ≡ 𝟘) ⊎ ((e : ℕ) × (e < N) × Degree o f e)
  zero_or_degree zero f b = inl (B.zero_of_below o L f b)
  zero_or_degree (suc N) f b = go (zero_or_degree N f) (F.decides (f N) O)
    where
      wider : (f ≡ 𝟘) ⊎ ((e : ℕ) × (e < N) × Degree o f e) → (f ≡ 𝟘) ⊎ ((e : ℕ) × (e < suc N) × Degree o f e)
      wider (inl e) = inl e
      wider (inr (e, h, d)) = inr (e, omega arith, d)

      go : (Below o N f → (f ≡ 𝟘) ⊎ ((e : ℕ) × (e < N) × Degree o f e)) → Dec (f N ≡ O) → (f ≡ 𝟘) ⊎ ((e : ℕ) × (e < suc N) × Degree o f e)
      go rest (yes e) = wider (rest (B.below_top o L N f b e))
      go rest (no n) = inr (N, le_refl (suc N), record { top = n; below = b })

  pub zero_decides : (f : ℕ → M) → Polynomial o f → Dec (f ≡ 𝟘)
  zero_decides f p = elim (zero_or_degree p.0 f p.1) [ inl e ↦ yes e | inr d ↦ no (λ e. d.2.top (ap (λ (g : ℕ → M). g d.0) e)) ]

  pub degree_exists : (f : ℕ → M) → Polynomial o f → (f ≡ 𝟘 → ⊥) → (e : ℕ) × Degree o f e
  degree_exists f p n = elim (zero_or_degree p.0 f p.1) [ inl e ↦ absurd (n e) | inr d ↦ (d.0, d.2) ]

  pub degree_nonzero : (f : ℕ → M) (e : ℕ) → Degree o f e → f ≡ 𝟘 → ⊥
  degree_nonzero f e d z = d.top (ap (λ (g : ℕ → M). g e) z)

  pub degree_polynomial : (f : ℕ → M) (e : ℕ) → Degree o f e → Polynomial o f
  degree_polynomial f e d = (suc e, d.below)

  pub degree_product : (f g : ℕ → M) (e d : ℕ) → Degree o f e → Degree o g d → Degree o (f · g) (e plus d)
  degree_product f g e d p q = record {
    top = λ z. Fields.nonzero_product o F (f e) (g d) p.top q.top (sym (B.leading_product o L e d f g p.below q.below) ∙ z);
    below = B.below_product o L (suc e) (suc d) (suc (e plus d)) f g (omega arith) p.below q.below;
  }

  -- f g = 0 and f is not zero: g is
  pub zero_of_product : (f g : ℕ → M) → Polynomial o f → Polynomial o g → (f ≡ 𝟘 → ⊥) → f · g ≡ 𝟘 → g ≡ 𝟘
  zero_of_product f g p q n e = elim (zero_decides g q) [
    | yes z ↦ z
    | no m ↦
        let d = degree_exists f p n in
        let c = degree_exists g q m in
        absurd (degree_nonzero (f · g) (d.0 plus c.0) (degree_product f g d.0 c.0 d.1 c.1) e)
  ]

  pub product_cancel : (f g h : ℕ → M) → Polynomial o f → Polynomial o g → Polynomial o h → (f ≡ 𝟘 → ⊥) → f · g ≡ f · h → g ≡ h
  product_cancel f g h p q r n e =
      let difference = zero_of_product f (g + (- h)) p (B.polynomial_sum o L g (- h) q (B.polynomial_negative o L h r)) n
      (solve (series o) SL (f ∷ g ∷ h ∷ []) (var 0 ⊠ (var 1 ⊞ neg (var 2))) (var 0 ⊠ var 1 ⊞ neg (var 0 ⊠ var 2)) refl ∙ ap (λ t. t + (- (f · h))) e ∙ SL.sum_negative (f · h)) in
      Sums.equal_of_difference (series o) SL g h difference

  -- the bound of a factor
  pub below_factor : (f g : ℕ → M) (e N P : ℕ) → Degree o f e → Polynomial o g → P ≤ e plus N → Below o P (f · g) → Below o N g
  below_factor f g e N P d q h b = elim (zero_or_degree q.0 g q.1) [
    | inl z ↦ (λ k l. ap (λ (t : ℕ → M). t k) z)
    | inr c ↦
        let l = degree_lt (f · g) (e plus c.0) P (degree_product f g e c.0 d c.2) b in
        B.below_mono o L (suc c.0) N g (omega arith) c.2.below
  ]

  pub degree_scale : (x : M) (f : ℕ → M) (e : ℕ) → (x ≡ O → ⊥) → Degree o f e → Degree o (scale o x f) e
  degree_scale x f e n d = record { top = Fields.nonzero_product o F x (f e) n d.top; below = B.below_scale o L (suc e) x f d.below }

  pub one_nonzero : 𝟙 ≡ 𝟘 → ⊥
  one_nonzero e = Fields.one_nonzero o F (ap (λ (f : ℕ → M). f 0) e)

  pub degree_one : Degree o 𝟙 0
  degree_one = record { top = Fields.one_nonzero o F; below = B.below_constant o L I }

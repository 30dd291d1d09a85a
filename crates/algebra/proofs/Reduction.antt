-- Division of vectors of polynomials by vectors with leading places. Main results: multiple_below and multiple_leading (the leading place of
-- c s^e u), leading_place (a vector is zero or has a leading place), reduce (a vector is a combination of the divisors and a remainder below a place).
use mathlib.Core.Path.{◌≡◌, refl, sym, ap, ap₂, ◌∙◌, subst, fun_ext}
use mathlib.Core.Logic.{◌⊎◌, inl, inr}
use mathlib.Core.List.{[], ◌∷◌}
use Prim.Native.Nat.{ℕ, zero, suc, ◌≤◌, ◌<◌, zero-le, ◌*◌, ◌/◌, ◌%◌, ◌-◌, ◌+◌ as ◌plus◌}
use native.Mathlib.Nat.{le_refl, mod-lt, div-add-mod, mul-suc, mul-le-mul_left, mul-add}
use native.Mathlib.Decide.{dec_le}
use native.Mathlib.Omega.{arith}
use Rattle.algebra.specs.Rings.{RingOps, RingLaws, IsField}
use Rattle.algebra.specs.Series.{total, constant, series, shift, scale, Polynomial}
use Rattle.algebra.specs.Divisors.{AllZero}
use Rattle.algebra.proofs.Rows as Rows
use Rattle.algebra.proofs.Sums as Sums
use Rattle.algebra.proofs.Solver.{solve, var, ◌⊞◌, neg}
use Rattle.algebra.proofs.Series as S
use Rattle.algebra.proofs.Bounds as Bounds
use Rattle.algebra.proofs.Spans as Spans
use Rattle.algebra.proofs.Places as Places
use Rattle.algebra.proofs.Places.{at, BelowPlace}

-- h is a combination of u 0 .. u (m - 1) and a remainder below the place B with property Z
pub record Reduced {M : Type 0} (o : RingOps M) (n m B : ℕ) (u : ℕ → ℕ → ℕ → M) (Z : (ℕ → ℕ → M) → Type 0) (h : ℕ → ℕ → M) : Type 0 where
  pub factor : ℕ → ℕ → M
  pub polynomials : (j : ℕ) → j < m → Polynomial o (factor j)
  pub remainder : ℕ → ℕ → M
  pub below : BelowPlace o n B remainder
  pub inside : Z remainder
  pub is : (i : ℕ) → h i ≡ (series o).sum (total (series o) m (λ j. (series o).product (factor j) (u j i))) (remainder i)

module _ {M : Type 0} (o : RingOps M) (F : IsField o) (n : ℕ) (positive : zero < n) where
  abbrev L : RingLaws o
  L = F.laws.ring

  abbrev SL : RingLaws (series o)
  SL = S.series_laws o L

  open o use {zero as O, one as I, product as ◌⊙◌, sum as ◌⊕◌, negative as minus}
  open series o use {zero as 𝟘, one as 𝟙, sum as ◌+◌, negative as -◌, product as ◌·◌}

  infixl 60 ◌+◌
  infixl 60 ◌⊕◌
  infixl 70 ◌·◌
  infixl 70 ◌⊙◌
  infix 80 -◌
  -- a place is at least n times a power only if its power is
  pub power_le : (e k i : ℕ) → i < n → n * e ≤ n * k plus i → e ≤ k
  power_le e k i a l = elim (dec_le e k) [
    | yes h ↦ h
    | no h ↦
        let g : suc k ≤ e = omega arith in
        let s = mul-le-mul_left n g in
        let t = mul-suc n k in
        absurd (omega arith)
  ]

  multiple_at : (e : ℕ) (c : M) (f : ℕ → M) (k : ℕ) → e ≤ k → (shift o e (constant o c) · f) k ≡ c ⊙ f (k - e)
  multiple_at e c f k l = ap (λ (g : ℕ → M). g k) (S.shift_constant_product o L e c f) ∙ S.shift_at o L e k (k - e) (scale o c f) (omega arith)

  multiple_low : (e : ℕ) (c : M) (f : ℕ → M) (k : ℕ) → k < e → (shift o e (constant o c) · f) k ≡ O
  multiple_low e c f k l = ap (λ (g : ℕ → M). g k) (S.shift_constant_product o L e c f) ∙ S.shift_low o L e k (scale o c f) l

  -- multiplying by s^e adds n e to the leading place
  pub multiple_below : (p e : ℕ) (c : M) (u : ℕ → ℕ → M) → BelowPlace o n p u → BelowPlace o n (p plus n * e) (λ i. shift o e (constant o c) · u i)
  multiple_below p e c u b i k a l = elim (dec_le e k) [
    | yes h ↦
        let j = k - e in
        let split : k ≡ e plus j = omega arith in
        let places = ap (λ t. n * t) split ∙ mul-add n e j in
        multiple_at e c (u i) k h ∙ ap (λ t. c ⊙ t) (b i j a (omega arith)) ∙ Sums.product_zero o L c
    | no h ↦ multiple_low e c (u i) k (omega arith)
  ]

  pub multiple_leading : (p e Q : ℕ) (c : M) (u : ℕ → ℕ → M) → Q ≡ p plus n * e → at n u p ≡ I → at n (λ i. shift o e (constant o c) · u i) Q ≡ c
  multiple_leading p e Q c u q one =
      let i = Q % n in
      let k = Q / n in
      let place = div-add-mod Q n in
      let h : e ≤ k = power_le e k i (mod-lt Q positive) (omega arith) in
      let j = k - e in
      let split : k ≡ e plus j = omega arith in
      let places = ap (λ t. n * t) split ∙ mul-add n e j in
      let same : n * j plus i ≡ p = omega arith in
      multiple_at e c (u i) k h
      ∙ ap (λ t. c ⊙ t) (sym (Places.at_place n positive u i j (mod-lt Q positive)) ∙ ap (at n u) same ∙ one)
      ∙ L.product_one c

  pub below_place_difference : (Q : ℕ) (h e : ℕ → ℕ → M) → BelowPlace o n Q h → BelowPlace o n Q e → BelowPlace o n Q (λ i. h i + (- e i))
  below_place_difference Q h e p q i k a l = ap₂ (λ s t. s ⊕ minus t) (p i k a l) (q i k a l) ∙ L.sum_negative O

  -- a vector is zero or has a leading place
  pub leading_place : (Q : ℕ) (h : ℕ → ℕ → M) → BelowPlace o n Q h
      → AllZero o n h ⊎ ((q : ℕ) × (q < Q) × (at n h q ≡ O → ⊥) × BelowPlace o n (suc q) h)
  leading_place zero h b = inl (λ i a. fun_ext (λ k. b i k a zero-le))
  leading_place (suc Q) h b = go (F.decides (at n h Q) O) (leading_place Q h)
    where
      wider : AllZero o n h ⊎ ((q : ℕ) × (q < Q) × (at n h q ≡ O → ⊥) × BelowPlace o n (suc q) h)
          → AllZero o n h ⊎ ((q : ℕ) × (q < suc Q) × (at n h q ≡ O → ⊥) × BelowPlace o n (suc q) h)
      wider (inl z) = inl z
      wider (inr (q, l, x, c)) = inr (q, omega arith, x, c)

      go : Dec (at n h Q ≡ O)
          → (BelowPlace o n Q h → AllZero o n h ⊎ ((q : ℕ) × (q < Q) × (at n h q ≡ O → ⊥) × BelowPlace o n (suc q) h))
          → AllZero o n h ⊎ ((q : ℕ) × (q < suc Q) × (at n h q ≡ O → ⊥) × BelowPlace o n (suc q) h)
      go (yes e) rest = wider (rest (Places.below_place_top n positive o Q h b e))
      go (no x) rest = inr (Q, le_refl (suc Q), x, b)

  module _ (m : ℕ) (u : ℕ → ℕ → ℕ → M) (p : ℕ → ℕ) (u_below : (j : ℕ) → j < m → BelowPlace o n (suc (p j)) (u j)) (u_leading : (j : ℕ) → j < m → at n (u j) (p j) ≡ I)
      (Z : (ℕ → ℕ → M) → Type 0) (Z-step : (j : ℕ) → j < m → (x : ℕ → M) → Polynomial o x → (h : ℕ → ℕ → M) → Z h → Z (λ i. h i + (- (x · u j i)))) (B : ℕ)
      (cover : (Q : ℕ) → B ≤ Q → (h : ℕ → ℕ → M) → Z h → BelowPlace o n (suc Q) h → (at n h Q ≡ O → ⊥) → (j : ℕ) × (j < m) × (e : ℕ) × (Q ≡ p j plus n * e)) where
    stop : (h : ℕ → ℕ → M) → Z h → BelowPlace o n B h → Reduced o n m B u Z h
    stop h z b = record {
      factor = λ j. 𝟘;
      polynomials = λ j l. Bounds.polynomial_zero o L;
      remainder = h;
      below = b;
      inside = z;
      is = λ i. sym (ap (λ t. t + h i) (Sums.total_zero (series o) SL m (λ j. 𝟘 · u j i) (λ j l. Sums.zero_product (series o) SL (u j i))) ∙ Sums.zero_sum (series o) SL (h i));
    }

    -- add x u_j back
    step : (j : ℕ) → j < m → (x : ℕ → M) → Polynomial o x → (h : ℕ → ℕ → M) → Reduced o n m B u Z (λ i. h i + (- (x · u j i))) → Reduced o n m B u Z h
    step j l x p h s = record {
      factor = λ a. s.factor a + Rows.slot j x (λ b. 𝟘) a;
      polynomials = λ a c. Bounds.polynomial_sum o L (s.factor a) (Rows.slot j x (λ b. 𝟘) a) (s.polynomials a c) (Rows.slot_both (Polynomial o) j x 𝟘 a p (Bounds.polynomial_zero o L));
      remainder = s.remainder;
      below = s.below;
      inside = s.inside;
      is = λ i.
          solve (series o) SL (h i ∷ (x · u j i) ∷ []) (var 0) (var 0 ⊞ neg (var 1) ⊞ var 1) refl
          ∙ ap₂ ◌+◌ (s.is i) (sym (Spans.total_slot (series o) SL m j x (λ a. u a i) l))
          ∙ solve (series o) SL (total (series o) m (λ a. s.factor a · u a i) ∷ s.remainder i ∷ total (series o) m (λ a. Rows.slot j x (λ b. 𝟘) a · u a i) ∷ []) (var 0 ⊞ var 1 ⊞ var 2) (var 0 ⊞ var 2 ⊞ var 1) refl
          ∙ ap (λ t. t + s.remainder i) (sym (Sums.total_sum (series o) SL m (λ a. s.factor a · u a i) (λ a. Rows.slot j x (λ b. 𝟘) a · u a i)) ∙ Sums.total_ext (series o) SL m (λ a. s.factor a · u a i + Rows.slot j x (λ b. 𝟘) a · u a i) (λ a. (s.factor a + Rows.slot j x (λ b. 𝟘) a) · u a i) (λ a c. sym (Sums.sum_product (series o) SL (s.factor a) (Rows.slot j x (λ b. 𝟘) a) (u a i))));
    }

    pub reduce : (Q : ℕ) (h : ℕ → ℕ → M) → Z h → BelowPlace o n Q h → Reduced o n m B u Z h
    reduce zero h z b = stop h z (Places.below_place_mono n positive o 0 B h zero-le b)
    reduce (suc Q) h z b = go (dec_le (suc Q) B) (F.decides (at n h Q) O) (reduce Q)
      where
        go : Dec (suc Q ≤ B) → Dec (at n h Q ≡ O) → ((e : ℕ → ℕ → M) → Z e → BelowPlace o n Q e → Reduced o n m B u Z e) → Reduced o n m B u Z h
        go (yes l) d rest = stop h z (Places.below_place_mono n positive o (suc Q) B h l b)
        go (no l) (yes e) rest = rest h z (Places.below_place_top n positive o Q h b e)
        go (no l) (no x) rest =
            let c = cover Q (omega arith) h z b x in
            let j = c.0 in
            let e = c.2 in
            let t = shift o e (constant o (at n h Q)) in
            let t_polynomial = Bounds.polynomial_shift o L e (constant o (at n h Q)) (Bounds.polynomial_constant o L (at n h Q)) in
            let place = c.3 in
            let same : suc Q ≡ suc (p j) plus n * e = omega arith in
            let multiple : BelowPlace o n (suc Q) (λ i. t · u j i) = subst (λ (s : ℕ). BelowPlace o n s (λ i. t · u j i)) (sym same) (multiple_below (suc (p j)) e (at n h Q) (u j) (u_below j c.1)) in
            step j c.1 t t_polynomial h
            (rest (λ i. h i + (- (t · u j i))) (Z-step j c.1 t t_polynomial h z)
            (Places.below_place_top n positive o Q (λ i. h i + (- (t · u j i))) (below_place_difference (suc Q) h (λ i. t · u j i) b multiple)
            (ap (λ s. at n h Q ⊕ minus s) (multiple_leading (p j) e Q (at n h Q) (u j) place (u_leading j c.1)) ∙ L.sum_negative (at n h Q))))

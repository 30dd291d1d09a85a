-- Vectors of polynomials with independent leading vectors. Main results: predictable (a sum of multiples has no term above its bound),
-- independent_over_polynomials, exactly_one_sum, lifted_sum_top (a combination of leading vectors is the top of a sum of multiples),
-- echelon_independent (vectors with leading places in distinct classes have independent leading vectors).
use mathlib.Core.Path.{◌≡◌, refl, sym, ap, ap₂, ◌∙◌, subst, fun_ext}
use mathlib.Core.Logic.{◌⊎◌, inl, inr}
use Prim.Native.Nat.{ℕ, zero, suc, ◌≤◌, ◌<◌, zero-le, ◌/◌, ◌%◌, ◌-◌, ◌+◌ as ◌plus◌}
use native.Mathlib.Nat.{eq-or-lt_of_le, mod-lt, div-add-mod, mul-suc}
use native.Mathlib.Decide.{dec_le, dec_lt, ℕ_discrete}
use native.Mathlib.Omega.{arith}
use Rattle.algebra.specs.Rings.{RingOps, RingLaws}
use Rattle.algebra.specs.Series.{total, constant, series, shift, Below, Polynomial}
use Rattle.algebra.specs.Divisors.{Bounded}
use Rattle.algebra.specs.Independence.{All, Independent}
use Rattle.algebra.specs.Optimal.{ExactlyOneSum}
use Rattle.algebra.proofs.Sums as Sums
use Rattle.algebra.proofs.Series as S
use Rattle.algebra.proofs.Bounds as B
use Rattle.algebra.proofs.Naturals as Naturals
use Rattle.algebra.proofs.Places as Places
use Rattle.algebra.proofs.Places.{at, BelowPlace}

-- the multipliers x of vectors of degrees δ give no term of degree T or more
abbrev pub TermsBelow : {M : Type 0} → RingOps M → ℕ → (ℕ → ℕ) → ℕ → (ℕ → ℕ → M) → Type 0
TermsBelow o m δ T x = (j e : ℕ) → j < m → T ≤ δ j plus e → x j e ≡ o.zero

module _ {M : Type 0} (o : RingOps M) (L : RingLaws o) (n m : ℕ) (w : ℕ → ℕ → ℕ → M) (δ : ℕ → ℕ) (w_bounded : (j : ℕ) → j < m → Bounded o n (suc (δ j)) (w j)) where
  open o use {zero as O, one as I, product as ◌⊙◌, sum as ◌⊕◌}
  open series o use {zero as 𝟘, sum as ◌+◌, negative as -◌, product as ◌·◌}

  infixl 60 ◌+◌
  infixl 60 ◌⊕◌
  infixl 70 ◌·◌
  infixl 70 ◌⊙◌
  infix 80 -◌
  abbrev SL : RingLaws (series o)
  SL = S.series_laws o L

  -- the top coefficient of a term
  pub term_top : (T : ℕ) (x : ℕ → ℕ → M) → TermsBelow o m δ (suc T) x → (j i : ℕ) → j < m → i < n → (x j · w j i) T ≡ x j (T - δ j) ⊙ w j i (δ j)
  term_top T x b j i l a = elim (dec_le (δ j) T) [
    | yes h ↦ S.coefficient_one_term o L (x j) (w j i) T (T - δ j) (δ j) (omega arith) (λ p q e ne. other p q e ne (dec_le (suc (δ j)) q))
    | no h ↦
        S.coefficient_zero o L (x j) (w j i) T (λ p q e. ap (λ t. t ⊙ w j i q) (b j p l (omega arith)) ∙ Sums.zero_product o L (w j i q))
        ∙ sym (ap (λ t. t ⊙ w j i (δ j)) (b j (T - δ j) l (omega arith)) ∙ Sums.zero_product o L (w j i (δ j)))
  ]
    where
      other : (p q : ℕ) → p plus q ≡ T → (p ≡ T - δ j → ⊥) → Dec (suc (δ j) ≤ q) → x j p ⊙ w j i q ≡ O
      other p q e ne (yes h) = ap (λ t. x j p ⊙ t) (w_bounded j l i a q h) ∙ Sums.product_zero o L (x j p)
      other p q e ne (no h) = ap (λ t. t ⊙ w j i q) (b j p l (large (dec_le (suc T) (δ j plus p)))) ∙ Sums.zero_product o L (w j i q)
        where
          large : Dec (suc T ≤ δ j plus p) → suc T ≤ δ j plus p
          large (yes k) = k
          large (no k) = absurd (ne (omega arith))

  -- a term of a sum without terms above a bound has the bound
  pub term_bounded : (T : ℕ) (x : ℕ → ℕ → M) → TermsBelow o m δ T x → (j : ℕ) → j < m → Bounded o n T (λ i. x j · w j i)
  term_bounded T x b j l i a k h = S.coefficient_zero o L (x j) (w j i) k (λ p q e. at p q e (dec_le (suc (δ j)) q))
    where
      at : (p q : ℕ) → p plus q ≡ k → Dec (suc (δ j) ≤ q) → x j p ⊙ w j i q ≡ O
      at p q e (yes c) = ap (λ t. x j p ⊙ t) (w_bounded j l i a q c) ∙ Sums.product_zero o L (x j p)
      at p q e (no c) = ap (λ t. t ⊙ w j i q) (b j p l (omega arith)) ∙ Sums.zero_product o L (w j i q)

  -- the coefficients of a sum of multiples at its top power
  pub sum_top : (T : ℕ) (x : ℕ → ℕ → M) → TermsBelow o m δ (suc T) x → (i : ℕ) → i < n
      → total (series o) m (λ j. x j · w j i) T ≡ total o m (λ j. x j (T - δ j) ⊙ w j i (δ j))
  sum_top T x b i a = S.total_at o L m (λ j. x j · w j i) T ∙ Sums.total_ext o L m (λ j. (x j · w j i) T) (λ j. x j (T - δ j) ⊙ w j i (δ j)) (λ j l. term_top T x b j i l a)

  module _ (independent : Independent o All m n (λ j i. w j i (δ j))) where
    down : (T : ℕ) (x : ℕ → ℕ → M) → TermsBelow o m δ (suc T) x
        → ((i : ℕ) → i < n → total (series o) m (λ j. x j · w j i) T ≡ O) → TermsBelow o m δ T x
    down T x b z j e l h = go (eq-or-lt_of_le h)
      where
        top : x j (T - δ j) ≡ O
        top = independent (λ a. x a (T - δ a)) (λ a c. tt) (λ i a. sym (sum_top T x b i a) ∙ z i a) j l

        go : (T ≡ δ j plus e) ⊎ (T < δ j plus e) → x j e ≡ O
        go (inl same) = ap (x j) (omega arith) ∙ top
        go (inr less) = b j e l less

    descend : (t N : ℕ) (x : ℕ → ℕ → M) → ((i : ℕ) → i < n → Below o N (total (series o) m (λ j. x j · w j i)))
        → TermsBelow o m δ (N plus t) x → TermsBelow o m δ N x
    descend zero N x z b = λ j e l h. b j e l (omega arith)
    descend (suc t) N x z b = descend t N x z (down (N plus t) x (λ j e l h. b j e l (omega arith)) (λ i a. z i a (N plus t) (omega arith)))

    -- a sum of multiples below s^N has no term that is not
    pub predictable : (N : ℕ) (x : ℕ → ℕ → M) → ((j : ℕ) → j < m → Polynomial o (x j))
        → ((i : ℕ) → i < n → Below o N (total (series o) m (λ j. x j · w j i))) → TermsBelow o m δ N x
    predictable N x p z =
        let K = B.common_bound o L m x p in
        let D = Naturals.common_top m δ in
        descend (K.0 plus D.0) N x z (λ j e l h. let a = D.1 j l in K.1 j l e (omega arith))

    pub independent_over_polynomials : Independent (series o) (Polynomial o) m n w
    independent_over_polynomials x p z j l = fun_ext (λ e. predictable 0 x p (λ i a k h. ap (λ (f : ℕ → M). f k) (z i a)) j e l zero-le)

    -- a sum of multiples is exactly one, and no term exceeds its degree
    pub exactly_one_sum : (h x : ℕ → ℕ → M) → ((j : ℕ) → j < m → Polynomial o (x j))
        → ((i : ℕ) → i < n → h i ≡ total (series o) m (λ j. x j · w j i)) → ExactlyOneSum o n m w h
    exactly_one_sum h x q e = record {
      factor = x;
      polynomials = q;
      is = e;
      no_higher = λ j l N b. term_bounded N x (predictable N x q (λ i a. subst (Below o N) (e i a) (b i a))) j l;
      unique = λ y b g j l.
          Sums.equal_of_difference (series o) SL (y j) (x j)
          (independent_over_polynomials (λ t. y t + (- x t)) (λ t c. B.polynomial_sum o L (y t) (- x t) (b t c) (B.polynomial_negative o L (x t) (q t c)))
          (λ i c.
          Sums.total_ext (series o) SL m (λ t. (y t + (- x t)) · w t i) (λ t. y t · w t i + (- (x t · w t i))) (λ t z. Sums.sum_product (series o) SL (y t) (- x t) (w t i) ∙ ap (λ z. y t · w t i + z) (Sums.negative_product (series o) SL (x t) (w t i)))
          ∙ Sums.total_sum (series o) SL m (λ t. y t · w t i) (λ t. - (x t · w t i))
          ∙ ap₂ ◌+◌ (sym (g i c)) (Sums.total_negative (series o) SL m (λ t. x t · w t i) ∙ ap -◌ (sym (e i c)))
          ∙ SL.sum_negative (h i))
          j l);
    }

  -- the multipliers y_j s^(N - δ_j), where y_j is zero at the vectors of higher degree than N
  abbrev pub lifted : ℕ → (ℕ → M) → ℕ → ℕ → M
  lifted N y j = shift o (N - δ j) (constant o (y j))

  pub lifted_polynomial : (N : ℕ) (y : ℕ → M) (j : ℕ) → Polynomial o (lifted N y j)
  lifted_polynomial N y j = B.polynomial_shift o L (N - δ j) (constant o (y j)) (B.polynomial_constant o L (y j))

  pub lifted_top : (N : ℕ) (y : ℕ → M) (j : ℕ) → lifted N y j (N - δ j) ≡ y j
  lifted_top N y j = S.shift_at o L (N - δ j) (N - δ j) 0 (constant o (y j)) (omega arith)

  pub lifted_below : (N : ℕ) (y : ℕ → M) → ((j : ℕ) → j < m → N < δ j → y j ≡ O) → TermsBelow o m δ (suc N) (lifted N y)
  lifted_below N y z j e l h = elim (dec_lt N (δ j)) [
    | yes a ↦ ap (λ t. shift o (N - δ j) (constant o t) e) (z j l a) ∙ vanish (N - δ j) e
    | no a ↦ let t = e - suc (N - δ j) in S.shift_at o L (N - δ j) e (suc t) (constant o (y j)) (omega arith)
  ]
    where
      zero_constant : (k : ℕ) → constant o O k ≡ O
      zero_constant zero = refl
      zero_constant (suc k) = refl

      vanish : (s e : ℕ) → shift o s (constant o O) e ≡ O
      vanish zero e = zero_constant e
      vanish (suc s) zero = refl
      vanish (suc s) (suc e) = vanish s e

  -- their sum of multiples: its coefficients at N, and its bound
  pub lifted_sum_top : (N : ℕ) (y : ℕ → M) → ((j : ℕ) → j < m → N < δ j → y j ≡ O) → (i : ℕ) → i < n
      → total (series o) m (λ j. lifted N y j · w j i) N ≡ total o m (λ j. y j ⊙ w j i (δ j))
  lifted_sum_top N y z i a = sum_top N (lifted N y) (lifted_below N y z) i a ∙ Sums.total_ext o L m (λ j. lifted N y j (N - δ j) ⊙ w j i (δ j)) (λ j. y j ⊙ w j i (δ j)) (λ j l. ap (λ t. t ⊙ w j i (δ j)) (lifted_top N y j))

  pub lifted_sum_bounded : (N : ℕ) (y : ℕ → M) → ((j : ℕ) → j < m → N < δ j → y j ≡ O)
      → Bounded o n (suc N) (λ i. total (series o) m (λ j. lifted N y j · w j i))
  lifted_sum_bounded N y z i a = B.below_total o L m (suc N) (λ j. lifted N y j · w j i) (λ j l. term_bounded (suc N) (lifted N y) (lifted_below N y z) j l i a)

-- vectors with leading places in distinct classes
module _ {M : Type 0} (o : RingOps M) (L : RingLaws o) (n : ℕ) (positive : zero < n) (m : ℕ) (u : ℕ → ℕ → ℕ → M) (p : ℕ → ℕ)
    (u_below : (j : ℕ) → j < m → BelowPlace o n (suc (p j)) (u j)) (u_leading : (j : ℕ) → j < m → at n (u j) (p j) ≡ o.one) where
  open o use {zero as O, one as I, product as ◌⊙◌}

  infixl 70 ◌⊙◌
  pub leading_bounded : (j : ℕ) → j < m → Bounded o n (suc (p j / n)) (u j)
  leading_bounded j l =
      let e = div-add-mod (p j) n in
      let s = mul-suc n (p j / n) in
      let h = mod-lt (p j) positive in
      Places.bounded_of_below_place n positive o (suc (p j)) (suc (p j / n)) (u j) (omega arith) (u_below j l)

  pub echelon_independent : ((i j : ℕ) → i < m → j < m → p i % n ≡ p j % n → i ≡ j) → Independent o All m n (λ j i. u j i (p j / n))
  echelon_independent distinct x a z j l = from n (λ k h e. absurd (let c = mod-lt (p k) positive in omega arith)) j l zero-le
    where
      -- the multipliers of the classes from I on are zero
      step : (I : ℕ) → I < n → ((k : ℕ) → k < m → suc I ≤ p k % n → x k ≡ O) → (k : ℕ) → k < m → I ≤ p k % n → x k ≡ O
      step I b rest k h e = go (eq-or-lt_of_le e)
        where
          other : (same : I ≡ p k % n) (q : ℕ) → q < m → (q ≡ k → ⊥) → Dec (suc I ≤ p q % n) → Dec (p q % n ≡ I) → x q ⊙ u q I (p q / n) ≡ O
          other same q c ne (yes f) y = ap (λ t. t ⊙ u q I (p q / n)) (rest q c f) ∙ Sums.zero_product o L (u q I (p q / n))
          other same q c ne (no f) (yes g) = absurd (ne (distinct q k c h (g ∙ same)))
          other same q c ne (no f) (no g) = ap (λ t. x q ⊙ t) (u_below q c I (p q / n) b (let s = div-add-mod (p q) n in let d = mod-lt (p q) positive in omega arith)) ∙ Sums.product_zero o L (x q)

          go : (I ≡ p k % n) ⊎ (I < p k % n) → x k ≡ O
          go (inr less) = rest k h less
          go (inl same) =
              sym (L.product_one (x k))
              ∙ ap (λ t. x k ⊙ t) (sym (ap (λ t. u k t (p k / n)) same ∙ u_leading k h))
              ∙ sym (Sums.total_one o L m k (λ q. x q ⊙ u q I (p q / n)) h (λ q c ne. other same q c ne (dec_le (suc I) (p q % n)) (ℕ_discrete (p q % n) I)))
              ∙ z I b

      from : (t : ℕ) → ((k : ℕ) → k < m → t ≤ p k % n → x k ≡ O) → (k : ℕ) → k < m → 0 ≤ p k % n → x k ≡ O
      from zero rest = rest
      from (suc t) rest = elim (dec_lt t n) [
        | yes b ↦ from t (step t b rest)
        | no b ↦ from t (λ k h e. absurd (let c = mod-lt (p k) positive in omega arith))
      ]

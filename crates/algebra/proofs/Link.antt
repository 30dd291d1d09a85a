-- The link over degree-optimal columns with divisor 1. Main results: message_of_clean (a clean block is the message that inverting gives times
-- the row), clean_link (a block is clean exactly when it encodes a message; one changed symbol changes few).
use mathlib.Core.Path.{◌≡◌, refl, sym, ap, ap₂, ◌∙◌, subst}
use mathlib.Core.List.{[], ◌∷◌}
use Prim.Native.Nat.{ℕ, suc, ◌<◌, zero-le, suc-le-suc, ◌-◌, ◌+◌ as ◌plus◌}
use native.Mathlib.Decide.{dec_lt, ℕ_discrete}
use native.Mathlib.Omega.{arith}
use Rattle.algebra.specs.Rings.{RingOps, RingLaws, IsField}
use Rattle.algebra.specs.Series.{total, dot, series, Below, Polynomial}
use Rattle.algebra.specs.Divisors.{Bounded, DividedRow, VectorDegree}
use Rattle.algebra.specs.Optimal.{PolynomialVector, Syzygy, DegreeOptimal}
use Rattle.algebra.specs.Link.{Encodes, Clean, inverted, OneChanged, DifferAtMost}
use Rattle.algebra.specs.Theorems.{CleanLink}
use Rattle.algebra.proofs.Rows as Rows
use Rattle.algebra.proofs.Sums as Sums
use Rattle.algebra.proofs.Solver.{solve, var, ◌⊞◌, ◌⊠◌, neg}
use Rattle.algebra.proofs.Series as S
use Rattle.algebra.proofs.Bounds as B
use Rattle.algebra.proofs.Degrees as D
use Rattle.algebra.proofs.DividedRow as R
use Rattle.algebra.proofs.Spans as Spans
use Rattle.algebra.proofs.TestExact as Exact

module _ {M : Type 0} (o : RingOps M) (F : IsField o) where
  abbrev L : RingLaws o
  L = F.laws.ring

  abbrev SL : RingLaws (series o)
  SL = S.series_laws o L

  open o use {zero as O, one as I, product as ◌⊙◌, sum as ◌⊕◌, negative as minus}
  open series o use {zero as 𝟘, one as 𝟙, sum as ◌+◌, negative as -◌, product as ◌·◌}

  infixl 60 ◌+◌
  infixl 60 ◌⊕◌
  infixl 70 ◌·◌
  infixl 70 ◌⊙◌
  infix 80 -◌
  -- the products of an encoded block
  encoded_dot : (n : ℕ) (a : ℕ → ℕ → M) (K : ℕ) (message : ℕ → M) (v h : ℕ → ℕ → M) → Encodes o n a K message v
      → dot (series o) n v h ≡ message · dot (series o) n a h
  encoded_dot n a K message v h e =
      Sums.total_ext (series o) SL n (λ i. v i · h i) (λ i. message · (a i · h i)) (λ i l. ap (λ t. t · h i) (e.is i l) ∙ SL.product_assoc message (a i) (h i))
      ∙ Sums.total_scale (series o) SL n message (λ i. a i · h i)

  pub inverts : (m : ℕ) (a : ℕ → ℕ → M) (c : ℕ → ℕ → ℕ → M) → DegreeOptimal o m a 𝟙 c
      → (K : ℕ) (message : ℕ → M) (v : ℕ → ℕ → M) → Encodes o (suc m) a K message v → inverted o m c v ≡ message
  inverts m a c x K message v e = encoded_dot (suc m) a K message v (c 0) e ∙ ap (λ t. message · t) x.first ∙ SL.product_one message

  module _ (m : ℕ) (a : ℕ → ℕ → M) (d : ℕ) (c : ℕ → ℕ → ℕ → M) (degree : VectorDegree o (suc m) a d) (polynomials : (j : ℕ) → j < suc m → PolynomialVector o (suc m) (c j)) (x : DegreeOptimal o m a 𝟙 c) where
    abbrev n : ℕ
    n = suc m

    row_polynomials : PolynomialVector o n a
    row_polynomials i l = (suc d, degree.bounded i l)

    -- the row divided by 1
    divided : DividedRow o n a 𝟙 a
    divided = record { polynomials = row_polynomials; is = λ i l. Sums.one_product (series o) SL (a i) }

    check_syzygy : (j : ℕ) → j < m → Syzygy o n a (c (suc j))
    check_syzygy = (Exact.test_of_optimal o F m a 𝟙 a d c divided degree polynomials x).check

    -- e_i - a_i b
    abbrev rest : ℕ → ℕ → ℕ → M
    rest i l = Rows.slot i 𝟙 (λ j. 𝟘) l + (- (a i · c 0 l))

    rest_polynomials : (i : ℕ) → i < n → PolynomialVector o n (rest i)
    rest_polynomials i b l h =
        B.polynomial_sum o L (Rows.slot i 𝟙 (λ j. 𝟘) l) (- (a i · c 0 l))
        (Rows.slot_both (Polynomial o) i 𝟙 𝟘 l (B.polynomial_constant o L I) (B.polynomial_zero o L))
        (B.polynomial_negative o L (a i · c 0 l) (B.polynomial_product o L (a i) (c 0 l) (row_polynomials i b) (polynomials 0 (suc-le-suc zero-le) l h)))

    dot_rest : (v : ℕ → ℕ → M) (i : ℕ) → i < n → dot (series o) n v (rest i) ≡ v i + (- (a i · inverted o m c v))
    dot_rest v i b =
        Spans.dot_sum (series o) SL n v (Rows.slot i 𝟙 (λ j. 𝟘)) (λ l. - (a i · c 0 l))
        ∙ ap₂ ◌+◌
        (Spans.dot_slot (series o) SL n i v 𝟙 b ∙ SL.product_one (v i))
        (Spans.dot_negative (series o) SL n v (λ l. a i · c 0 l) ∙ ap -◌ (Spans.dot_scale (series o) SL n v (c 0) (a i)))

    rest_syzygy : (i : ℕ) → i < n → Syzygy o n a (rest i)
    rest_syzygy i b = dot_rest a i b ∙ ap (λ t. a i + (- (a i · t))) x.first ∙ ap (λ t. a i + (- t)) (SL.product_one (a i)) ∙ SL.sum_negative (a i)

    -- a clean block is what inverting gives times the row
    pub message_of_clean : (v : ℕ → ℕ → M) → Clean o m c v → (i : ℕ) → i < n → v i ≡ inverted o m c v · a i
    message_of_clean v clean i b =
        let s = x.basis (rest i) (rest_polynomials i b) (rest_syzygy i b) in
        let zero_product : dot (series o) n v (rest i) ≡ 𝟘 =
        Spans.dot_ext (series o) SL n v (rest i) (λ l. total (series o) m (λ j. s.factor j · c (suc j) l)) s.is
        ∙ Spans.dot_combination (series o) SL n m v s.factor (λ j. c (suc j))
        ∙ Sums.total_zero (series o) SL m (λ j. s.factor j · dot (series o) n v (c (suc j))) (λ j l. ap (λ t. s.factor j · t) (clean j l) ∙ Sums.product_zero (series o) SL (s.factor j)) in
        Sums.equal_of_difference (series o) SL (v i) (a i · inverted o m c v) (sym (dot_rest v i b) ∙ zero_product)
        ∙ SL.product_comm (a i) (inverted o m c v)

    pub clean_encodes : (K : ℕ) (v : ℕ → ℕ → M) → Bounded o n (K plus d) v → Clean o m c v → Encodes o n a K (inverted o m c v) v
    clean_encodes K v b clean = record { length = length; is = message_of_clean v clean }
      where
        at : ℕ
        at = degree.component

        message_polynomial : Polynomial o (inverted o m c v)
        message_polynomial = B.polynomial_total o L n (λ i. v i · c 0 i) (λ i l. B.polynomial_product o L (v i) (c 0 i) (K plus d, b i l) (polynomials 0 (suc-le-suc zero-le) i l))

        length : Below o K (inverted o m c v)
        length =
            D.below_factor o F (a at) (inverted o m c v) d K (K plus d) (R.component_degree o F n a d degree) message_polynomial (omega arith)
            (subst (Below o (K plus d)) (message_of_clean v clean at degree.within ∙ SL.product_comm (inverted o m c v) (a at)) (b at degree.within))

    pub encodes_clean : (K : ℕ) (v : ℕ → ℕ → M) (s : ℕ → M) → Encodes o n a K s v → Clean o m c v
    encodes_clean K v s e j l = encoded_dot n a K s v (c (suc j)) e ∙ ap (λ t. s · t) (check_syzygy j l) ∙ Sums.product_zero (series o) SL s

  encoded_length : (m : ℕ) (a : ℕ → ℕ → M) (d : ℕ) → VectorDegree o (suc m) a d
      → (K : ℕ) (message : ℕ → M) (v : ℕ → ℕ → M) → Encodes o (suc m) a K message v → Bounded o (suc m) (K plus d) v
  encoded_length m a d y K message v e i l = subst (Below o (K plus d)) (sym (e.is i l)) (B.below_product o L K (suc d) (K plus d) message (a i) (omega arith) e.length (y.bounded i l))

  one_changed : (m : ℕ) (c : ℕ → ℕ → ℕ → M) (e : ℕ) → VectorDegree o (suc m) (c 0) e → (i t : ℕ) (v w : ℕ → ℕ → M)
      → i < suc m → OneChanged (suc m) i t v w → DifferAtMost (suc e) (inverted o m c v) (inverted o m c w)
  one_changed m c e y i t v w b same = record { place = λ j. t plus j; elsewhere = elsewhere }
    where
      term : (k : ℕ) → ((j : ℕ) → j < suc e → k ≡ t plus j → ⊥) → (l : ℕ) → l < suc m → (p q : ℕ) → p plus q ≡ k
          → Dec (l ≡ i) → Dec (p ≡ t) → Dec (q < suc e) → v l p ⊙ c 0 l q ≡ w l p ⊙ c 0 l q
      term k far l h p q s (no z) y₁ y₂ = ap (λ r. r ⊙ c 0 l q) (same l p h (λ r. z r.0))
      term k far l h p q s (yes z) (no z₁) y₂ = ap (λ r. r ⊙ c 0 l q) (same l p h (λ r. z₁ r.1))
      term k far l h p q s (yes z) (yes z₁) (yes z₂) = absurd (far q z₂ (omega arith))
      term k far l h p q s (yes z) (yes z₁) (no z₂) =
          ap (λ r. v l p ⊙ r) (y.bounded l h q (omega arith)) ∙ Sums.product_zero o L (v l p)
          ∙ sym (ap (λ r. w l p ⊙ r) (y.bounded l h q (omega arith)) ∙ Sums.product_zero o L (w l p))

      coefficients : (f g h : ℕ → M) (k : ℕ) → ((p q : ℕ) → p plus q ≡ k → f p ⊙ h q ≡ g p ⊙ h q) → (f · h) k ≡ (g · h) k
      coefficients f g h k z =
          Sums.equal_of_difference o L ((f · h) k) ((g · h) k)
          (ap (λ (r : ℕ → M). r k) (solve (series o) SL (f ∷ g ∷ h ∷ []) (var 0 ⊠ var 2 ⊞ neg (var 1 ⊠ var 2)) ((var 0 ⊞ neg (var 1)) ⊠ var 2) refl)
          ∙ S.coefficient_zero o L (f + (- g)) h k (λ p q s. Sums.sum_product o L (f p) (minus (g p)) (h q) ∙ ap₂ ◌⊕◌ (z p q s) (Sums.negative_product o L (g p) (h q)) ∙ L.sum_negative (g p ⊙ h q)))

      elsewhere : (k : ℕ) → ((j : ℕ) → j < suc e → k ≡ t plus j → ⊥) → inverted o m c v k ≡ inverted o m c w k
      elsewhere k far =
          S.total_at o L (suc m) (λ l. v l · c 0 l) k
          ∙ Sums.total_ext o L (suc m) (λ l. (v l · c 0 l) k) (λ l. (w l · c 0 l) k) (λ l h. coefficients (v l) (w l) (c 0 l) k (λ p q s. term k far l h p q s (ℕ_discrete l i) (ℕ_discrete p t) (dec_lt q (suc e))))
          ∙ sym (S.total_at o L (suc m) (λ l. w l · c 0 l) k)

  pub clean_link : CleanLink o
  clean_link = record {
    clean = λ m a d c y q x K v b. (λ clean. (inverted o m c v, clean_encodes m a d c y q x K v b clean), λ e. encodes_clean m a d c y q x K v e.0 e.1);
    inverts = inverts;
    encoded_length = encoded_length;
    one_changed = one_changed;
  }

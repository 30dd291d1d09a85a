-- The monic greatest common divisor of a row of polynomials over a field. Main results: gcd_exists (with the vector whose product with the
-- row it is), gcd_unique, gcd_combination.
use mathlib.Core.Path.{◌≡◌, refl, sym, ap, ◌∙◌, fun_ext, subst}
use mathlib.Core.Logic.{◌⊎◌, inl, inr}
use mathlib.Core.List.{[], ◌∷◌}
use Prim.Native.Nat.{ℕ, zero, suc, ◌<◌, zero-le, suc-le-suc, ◌+◌ as ◌plus◌}
use native.Mathlib.Nat.{add-zero}
use native.Mathlib.Omega.{arith}
use Rattle.algebra.specs.Rings.{RingOps, RingLaws, IsField}
use Rattle.algebra.specs.Series.{dot, constant, series, Below, Degree, Polynomial}
use Rattle.algebra.specs.Divisors.{Division, Divides, Combination, Monic, MonicGcd, GcdOfRow, AllZero}
use Rattle.algebra.proofs.Sums as Sums
use Rattle.algebra.proofs.Solver.{solve, var, 𝟎, 𝟏, ◌⊞◌, ◌⊠◌, neg}
use Rattle.algebra.proofs.Series as S
use Rattle.algebra.proofs.Fields as Fields
use Rattle.algebra.proofs.Bounds as B
use Rattle.algebra.proofs.Degrees as D
use Rattle.algebra.proofs.Division as V

-- a common divisor of f and g that is f u + g v
record PairGcd {M : Type 0} (o : RingOps M) (f g : ℕ → M) : Type 0 where
  divisor : ℕ → M
  u : ℕ → M
  v : ℕ → M
  u_polynomial : Polynomial o u
  v_polynomial : Polynomial o v
  left : Divides o divisor f
  right : Divides o divisor g
  is : (series o).sum ((series o).product f u) ((series o).product g v) ≡ divisor

-- a common divisor of a row that is the row times a vector
record RowGcd {M : Type 0} (o : RingOps M) (n : ℕ) (a : ℕ → ℕ → M) : Type 0 where
  divisor : ℕ → M
  combination : Combination o n a divisor
  divides : (i : ℕ) → i < n → Divides o divisor (a i)

abbrev cons : {A : Type 0} → A → (ℕ → A) → ℕ → A
cons x f zero = x
cons x f (suc i) = f i

module _ {M : Type 0} (o : RingOps M) (F : IsField o) where
  abbrev L : RingLaws o
  L = F.laws.ring

  abbrev SL : RingLaws (series o)
  SL = S.series_laws o L

  open o use {zero as O, one as I, product as ◌⊙◌}
  open series o use {zero as 𝟘, one as 𝟙, sum as ◌+◌, negative as -◌, product as ◌·◌}

  infixl 60 ◌+◌
  infixl 70 ◌·◌
  infixl 70 ◌⊙◌
  infix 80 -◌
  with_zero : (f g : ℕ → M) → g ≡ 𝟘 → PairGcd o f g
  with_zero f g e = record {
    divisor = f;
    u = 𝟙;
    v = 𝟘;
    u_polynomial = B.polynomial_constant o L I;
    v_polynomial = B.polynomial_zero o L;
    left = V.divides_refl o F f;
    right = subst (Divides o f) (sym e) (V.divides_zero o F f);
    is = solve (series o) SL (f ∷ g ∷ []) (var 0 ⊠ 𝟏 ⊞ var 1 ⊠ 𝟎) (var 0) refl;
  }

  euclid_is : (f g q r u v d : ℕ → M) → f ≡ g · q + r → g · u + r · v ≡ d → f · v + g · (u + (- (q · v))) ≡ d
  euclid_is f g q r u v d e h =
      ap (λ t. t · v + g · (u + (- (q · v)))) e
      ∙ solve (series o) SL (g ∷ q ∷ r ∷ u ∷ v ∷ []) ((var 0 ⊠ var 1 ⊞ var 2) ⊠ var 4 ⊞ var 0 ⊠ (var 3 ⊞ neg (var 1 ⊠ var 4))) (var 0 ⊠ var 3 ⊞ var 2 ⊠ var 4) refl
      ∙ h

  -- Euclid's step: the gcd of f and g is that of g and the remainder
  euclid_step : (f g : ℕ → M) (e : ℕ) → (r : Division o e f g) → PairGcd o g r.remainder → PairGcd o f g
  euclid_step f g e r p = record {
    divisor = p.divisor;
    u = p.v;
    v = p.u + (- (r.quotient · p.v));
    u_polynomial = p.v_polynomial;
    v_polynomial = B.polynomial_sum o L p.u (- (r.quotient · p.v)) p.u_polynomial (B.polynomial_negative o L (r.quotient · p.v) (B.polynomial_product o L r.quotient p.v r.polynomial p.v_polynomial));
    left = subst (Divides o p.divisor) (sym r.is) (V.divides_sum o F p.divisor (g · r.quotient) r.remainder (V.divides_product o F p.divisor g r.quotient p.left r.polynomial) p.right);
    right = p.left;
    is = euclid_is f g r.quotient r.remainder p.u p.v p.divisor r.is p.is;
  }

  pair_gcd : (N : ℕ) (f g : ℕ → M) → Polynomial o f → Below o N g → PairGcd o f g
  pair_gcd zero f g p b = with_zero f g (B.zero_of_below o L g b)
  pair_gcd (suc N) f g p b = go (D.zero_or_degree o F (suc N) g b) (pair_gcd N g)
    where
      go : (g ≡ 𝟘) ⊎ ((e : ℕ) × (e < suc N) × Degree o g e) → ((r : ℕ → M) → Polynomial o g → Below o N r → PairGcd o g r) → PairGcd o f g
      go (inl e) rest = with_zero f g e
      go (inr (e, h, d)) rest =
          let r = V.divide o F p.0 f g e d p.1 in
          euclid_step f g e r (rest r.remainder (suc N, b) (B.below_mono o L e N r.remainder (omega arith) r.small))

  -- a combination of polynomials is a polynomial
  pub combination_polynomial : (n : ℕ) (a h : ℕ → ℕ → M) → ((i : ℕ) → i < n → Polynomial o (a i))
      → ((i : ℕ) → i < n → Polynomial o (h i)) → Polynomial o (dot (series o) n a h)
  combination_polynomial n a h p q = B.polynomial_total o L n (λ i. a i · h i) (λ i l. B.polynomial_product o L (a i) (h i) (p i l) (q i l))

  row_step_is : (f g u v d c : ℕ → M) (n : ℕ) (a h : ℕ → ℕ → M) → dot (series o) n a h ≡ c → f · u + c · v ≡ d
      → f · u + dot (series o) n a (λ i. h i · v) ≡ d
  row_step_is f g u v d c n a h e p =
      ap (λ t. f · u + t)
      (Sums.total_ext (series o) SL n (λ i. a i · (h i · v)) (λ i. a i · h i · v) (λ i l. sym (SL.product_assoc (a i) (h i) v))
      ∙ Sums.total_scale_right (series o) SL n (λ i. a i · h i) v
      ∙ ap (λ t. t · v) e)
      ∙ p

  row_gcd : (n : ℕ) (a : ℕ → ℕ → M) → ((i : ℕ) → i < n → Polynomial o (a i)) → RowGcd o n a
  row_gcd zero a p = record { divisor = 𝟘; combination = record { vector = λ i. 𝟘; polynomials = λ i h. B.polynomial_zero o L; is = refl }; divides = λ i h. absurd (omega arith) }
  row_gcd (suc n) a p = go (row_gcd n (λ i. a (suc i)) (λ i h. p (suc i) (suc-le-suc h)))
    where
      go : RowGcd o n (λ i. a (suc i)) → RowGcd o (suc n) a
      go r =
          let c = r.divisor in
          let h = r.combination.vector in
          let c_polynomial : Polynomial o c = subst (Polynomial o) r.combination.is (combination_polynomial n (λ i. a (suc i)) h (λ i l. p (suc i) (suc-le-suc l)) r.combination.polynomials) in
          let d = pair_gcd c_polynomial.0 (a 0) c (p 0 (suc-le-suc zero-le)) c_polynomial.1 in
          record {
            divisor = d.divisor;
            combination = record {
              vector = cons d.u (λ i. h i · d.v);
              polynomials = λ i. elim i as (λ (j : ℕ). j < suc n → Polynomial o (cons d.u (λ k. h k · d.v) j)) [
                | zero ↦ λ l. d.u_polynomial
                | suc j ↦ λ l. B.polynomial_product o L (h j) d.v (r.combination.polynomials j (omega arith)) d.v_polynomial
              ];
              is = row_step_is (a 0) c d.u d.v d.divisor c n (λ i. a (suc i)) h r.combination.is d.is;
            };
            divides = λ i. elim i as (λ (j : ℕ). j < suc n → Divides o d.divisor (a j)) [
              | zero ↦ λ l. d.left
              | suc j ↦ λ l. V.divides_trans o F d.divisor c (a (suc j)) d.right (r.divides j (omega arith))
            ];
          }

  -- a common divisor of a row that is its combination divides and is divided as the greatest
  combination_greatest : (n : ℕ) (a : ℕ → ℕ → M) (g h : ℕ → M) → Combination o n a g → ((i : ℕ) → i < n → Divides o h (a i)) → Divides o h g
  combination_greatest n a g h c d = subst (Divides o h) c.is (V.divides_dot o F n h a c.vector d c.polynomials)

  row_nonzero : (n : ℕ) (a : ℕ → ℕ → M) (r : RowGcd o n a) → (AllZero o n a → ⊥) → r.divisor ≡ 𝟘 → ⊥
  row_nonzero n a r n0 e = n0 (λ i h. sym (r.divides i h).is ∙ ap (λ t. t · (r.divides i h).quotient) e ∙ Sums.zero_product (series o) SL (r.divides i h).quotient)

  monic_of : (d : ℕ → M) (e : ℕ) → Degree o d e → (x : M) × Monic o (d · constant o x) × (x ⊙ d e ≡ I)
  monic_of d e h =
      let x = F.inverts (d e) h.top in (
        x.0,
        record {
          degree = e;
          leading = ap (d · constant o x.0) (sym (add-zero e)) ∙ B.leading_product o L e 0 d (constant o x.0) h.below (B.below_constant o L x.0) ∙ x.1;
          below = B.below_product o L (suc e) 1 (suc e) d (constant o x.0) (omega arith) h.below (B.below_constant o L x.0);
        },
        L.product_comm x.0 (d e) ∙ x.1,
      )

  -- d x with x a unit divides what d divides
  divides_unit : (d f : ℕ → M) (x y : M) → x ⊙ y ≡ I → Divides o d f → Divides o (d · constant o x) f
  divides_unit d f x y e p = record {
    quotient = constant o y · p.quotient;
    polynomial = B.polynomial_product o L (constant o y) p.quotient (B.polynomial_constant o L y) p.polynomial;
    is = solve (series o) SL (d ∷ constant o x ∷ constant o y ∷ p.quotient ∷ []) (var 0 ⊠ var 1 ⊠ (var 2 ⊠ var 3)) (var 1 ⊠ var 2 ⊠ (var 0 ⊠ var 3)) refl
        ∙ ap (λ t. t · (d · p.quotient)) (constants x y e)
        ∙ Sums.one_product (series o) SL (d · p.quotient)
        ∙ p.is;
  }
    where
      constants : (z w : M) → z ⊙ w ≡ I → constant o z · constant o w ≡ 𝟙
      constants z w h = S.constant_product o L z (constant o w) ∙ fun_ext (elim [ zero ↦ h | suc k ↦ Sums.product_zero o L z ])

  scale_combination : (n : ℕ) (a : ℕ → ℕ → M) (d : ℕ → M) (x : ℕ → M) → Polynomial o x → Combination o n a d → Combination o n a (d · x)
  scale_combination n a d x p c = record {
    vector = λ i. c.vector i · x;
    polynomials = λ i l. B.polynomial_product o L (c.vector i) x (c.polynomials i l) p;
    is = Sums.total_ext (series o) SL n (λ i. a i · (c.vector i · x)) (λ i. a i · c.vector i · x) (λ i l. sym (SL.product_assoc (a i) (c.vector i) x))
        ∙ Sums.total_scale_right (series o) SL n (λ i. a i · c.vector i) x
        ∙ ap (λ t. t · x) c.is;
  }

  pub gcd_exists : (n : ℕ) (a : ℕ → ℕ → M) → ((i : ℕ) → i < n → Polynomial o (a i)) → (AllZero o n a → ⊥) → GcdOfRow o n a
  gcd_exists n a p n0 =
      let r = row_gcd n a p in
      let d_polynomial : Polynomial o r.divisor = subst (Polynomial o) r.combination.is (combination_polynomial n a r.combination.vector p r.combination.polynomials) in
      let e = D.degree_exists o F r.divisor d_polynomial (row_nonzero n a r n0) in
      let m = monic_of r.divisor e.0 e.1 in
      let c = scale_combination n a r.divisor (constant o m.0) (B.polynomial_constant o L m.0) r.combination in
      record {
        divisor = r.divisor · constant o m.0;
        gcd = record {
          monic = m.1;
          divides = λ i l. divides_unit r.divisor (a i) m.0 (r.divisor e.0) m.2 (r.divides i l);
          greatest = λ h q d. combination_greatest n a (r.divisor · constant o m.0) h c d;
        };
        combination = c;
      }

  pub monic_degree : (g : ℕ → M) (m : Monic o g) → Degree o g m.degree
  monic_degree g m = record { top = λ z. Fields.one_nonzero o F (sym m.leading ∙ z); below = m.below }

  -- the degree of a multiple
  divides_degree : (g h : ℕ → M) (e d : ℕ) → Degree o g e → Degree o h d → (p : Divides o g h) → (c : ℕ) × (Degree o p.quotient c) × (d ≡ e plus c)
  divides_degree g h e d p q v =
      let quotient_nonzero : v.quotient ≡ 𝟘 → ⊥ = λ z. D.degree_nonzero o F h d q (sym v.is ∙ ap (λ t. g · t) z ∙ Sums.product_zero (series o) SL g) in
      let c = D.degree_exists o F v.quotient v.polynomial quotient_nonzero in
      let both : Degree o h (e plus c.0) = subst (λ (t : ℕ → M). Degree o t (e plus c.0)) v.is (D.degree_product o F g v.quotient e c.0 p c.1) in
      (c.0, c.1, D.degree_unique o F h d (e plus c.0) q both)

  constant_of_below : (f : ℕ → M) → Below o 1 f → f 0 ≡ I → f ≡ 𝟙
  constant_of_below f b e = fun_ext (elim [ zero ↦ e | suc k ↦ b (suc k) (suc-le-suc zero-le) ])

  -- monic polynomials that divide each other are one
  pub monic_unique : (g h : ℕ → M) → Monic o g → Monic o h → Divides o g h → Divides o h g → g ≡ h
  monic_unique g h p q v w =
      let c = divides_degree g h p.degree q.degree (monic_degree g p) (monic_degree h q) v in
      let c' = divides_degree h g q.degree p.degree (monic_degree h q) (monic_degree g p) w in
      let c_eq = c.2 in
      let c'-eq = c'.2 in
      let none : c.0 ≡ 0 = omega arith in
      let small : Below o 1 v.quotient = B.below_mono o L (suc c.0) 1 v.quotient (omega arith) c.1.below in
      let same : q.degree ≡ p.degree plus 0 = omega arith in
      let first : v.quotient 0 ≡ I =
      sym (Sums.one_product o L (v.quotient 0))
      ∙ ap (λ t. t ⊙ v.quotient 0) (sym p.leading)
      ∙ sym (B.leading_product o L p.degree 0 g v.quotient p.below small)
      ∙ ap (λ (t : ℕ → M). t (p.degree plus 0)) v.is
      ∙ ap h (sym same)
      ∙ q.leading in
      sym (SL.product_one g) ∙ ap (λ t. g · t) (sym (constant_of_below v.quotient small first)) ∙ v.is

  pub gcd_unique : (n : ℕ) (a : ℕ → ℕ → M) (g h : ℕ → M) → MonicGcd o n a g → MonicGcd o n a h → g ≡ h
  gcd_unique n a g h p q =
      monic_unique g h p.monic q.monic
      (q.greatest g (suc p.monic.degree, p.monic.below) p.divides)
      (p.greatest h (suc q.monic.degree, q.monic.below) q.divides)

  -- a row with a monic gcd is not all zero
  pub row_of_gcd_nonzero : (n : ℕ) (a : ℕ → ℕ → M) (g : ℕ → M) → MonicGcd o n a g → AllZero o n a → ⊥
  row_of_gcd_nonzero n a g p z =
      let x = p.greatest 𝟘 (B.polynomial_zero o L) (λ i l. record { quotient = 𝟘; polynomial = B.polynomial_zero o L; is = Sums.product_zero (series o) SL 𝟘 ∙ sym (z i l) }) in
      D.degree_nonzero o F g p.monic.degree (monic_degree g p.monic) (sym x.is ∙ Sums.zero_product (series o) SL x.quotient)

  pub gcd_combination : (n : ℕ) (a : ℕ → ℕ → M) (g : ℕ → M) → ((i : ℕ) → i < n → Polynomial o (a i)) → MonicGcd o n a g → Combination o n a g
  gcd_combination n a g p q =
      let r = gcd_exists n a p (row_of_gcd_nonzero n a g q) in
      subst (Combination o n a) (gcd_unique n a r.divisor g r.gcd q) r.combination

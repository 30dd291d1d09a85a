-- The row divided by its gcd. Main results: divided_row_exists, one_is_combination (some combination is 1), dot_divided and same_syzygies (the
-- same vectors are sent to zero), vector_degree_exists, small_combination (a polynomial of degree at most 2d is the row times a vector of
-- degree at most d).
use mathlib.Core.Path.{◌≡◌, refl, sym, ap, ap₂, ◌∙◌, subst}
use mathlib.Core.Logic.{◌⊎◌, inl, inr, ◌↔◌}
use mathlib.Core.List.{[], ◌∷◌}
use Prim.Native.Nat.{ℕ, zero, suc, ◌<◌, ◌+◌ as ◌plus◌}
use native.Mathlib.Nat.{not-suc-le-zero, le_refl}
use native.Mathlib.Omega.{arith}
use Rattle.algebra.specs.Rings.{RingOps, RingLaws, IsField}
use Rattle.algebra.specs.Series.{total, dot, series, Below, Degree, Polynomial}
use Rattle.algebra.specs.Divisors.{Combination, MonicGcd, AllZero, DividedRow, Bounded, VectorDegree, BoundedCombination}
use Rattle.algebra.specs.Independence.{All, NotAllZero}
use Rattle.algebra.proofs.Rows as Rows
use Rattle.algebra.proofs.Sums as Sums
use Rattle.algebra.proofs.Solver.{solve, var, ◌⊞◌, ◌⊠◌, neg}
use Rattle.algebra.proofs.Series as S
use Rattle.algebra.proofs.Bounds as B
use Rattle.algebra.proofs.Degrees as D
use Rattle.algebra.proofs.Division as V
use Rattle.algebra.proofs.Gcd as G
use Rattle.algebra.proofs.Exchange as E

module _ {M : Type 0} (o : RingOps M) (F : IsField o) where
  abbrev L : RingLaws o
  L = F.laws.ring

  abbrev SL : RingLaws (series o)
  SL = S.series_laws o L

  open o use {zero as O, one as I}
  open series o use {zero as 𝟘, one as 𝟙, sum as ◌+◌, negative as -◌, product as ◌·◌}

  infixl 60 ◌+◌
  infixl 70 ◌·◌
  infix 80 -◌
  pub divided_row_exists : (n : ℕ) (a : ℕ → ℕ → M) (g : ℕ → M) → MonicGcd o n a g → (r : ℕ → ℕ → M) × DividedRow o n a g r
  divided_row_exists n a g p =
      let r = Rows.choose {A = ℕ → M} (λ i q. Polynomial o q × (g · q ≡ a i)) 𝟘 n (λ i h. ((p.divides i h).quotient, ((p.divides i h).polynomial, (p.divides i h).is))) in
      (r.0, record { polynomials = λ i h. (r.1 i h).0; is = λ i h. (r.1 i h).1 })

  gcd_nonzero : (n : ℕ) (a : ℕ → ℕ → M) (g : ℕ → M) → MonicGcd o n a g → g ≡ 𝟘 → ⊥
  gcd_nonzero n a g p = D.degree_nonzero o F g p.monic.degree (G.monic_degree o F g p.monic)

  gcd_polynomial : (n : ℕ) (a : ℕ → ℕ → M) (g : ℕ → M) → MonicGcd o n a g → Polynomial o g
  gcd_polynomial n a g p = (suc p.monic.degree, p.monic.below)

  pub divided_row_unique : (n : ℕ) (a : ℕ → ℕ → M) (g : ℕ → M) → MonicGcd o n a g → (r t : ℕ → ℕ → M)
      → DividedRow o n a g r → DividedRow o n a g t → (i : ℕ) → i < n → r i ≡ t i
  divided_row_unique n a g p r t d e i h = D.product_cancel o F g (r i) (t i) (gcd_polynomial n a g p) (d.polynomials i h) (e.polynomials i h) (gcd_nonzero n a g p) (d.is i h ∙ sym (e.is i h))

  -- the row times a vector is the gcd times the divided row times it
  pub dot_divided : (n : ℕ) (a : ℕ → ℕ → M) (g : ℕ → M) (r h : ℕ → ℕ → M) → DividedRow o n a g r → dot (series o) n a h ≡ g · dot (series o) n r h
  dot_divided n a g r h d =
      Sums.total_ext (series o) SL n (λ i. a i · h i) (λ i. g · (r i · h i)) (λ i l. ap (λ t. t · h i) (sym (d.is i l)) ∙ SL.product_assoc g (r i) (h i))
      ∙ Sums.total_scale (series o) SL n g (λ i. r i · h i)

  pub divided_polynomials : (n : ℕ) (a : ℕ → ℕ → M) (g : ℕ → M) (r : ℕ → ℕ → M) → MonicGcd o n a g
      → DividedRow o n a g r → (i : ℕ) → i < n → Polynomial o (a i)
  divided_polynomials n a g r p d i h = subst (Polynomial o) (d.is i h) (B.polynomial_product o L g (r i) (gcd_polynomial n a g p) (d.polynomials i h))

  pub one_is_combination : (n : ℕ) (a : ℕ → ℕ → M) (g : ℕ → M) (r : ℕ → ℕ → M) → MonicGcd o n a g → DividedRow o n a g r → Combination o n r 𝟙
  one_is_combination n a g r p d =
      let c = G.gcd_combination o F n a g (divided_polynomials n a g r p d) p in
      record {
        vector = c.vector;
        polynomials = c.polynomials;
        is = D.product_cancel o F g (dot (series o) n r c.vector) 𝟙 (gcd_polynomial n a g p) (G.combination_polynomial o F n r c.vector d.polynomials c.polynomials) (B.polynomial_constant o L I) (gcd_nonzero n a g p)
            (sym (dot_divided n a g r c.vector d) ∙ c.is ∙ sym (SL.product_one g));
      }

  -- the same vectors are sent to zero
  pub same_syzygies : (n : ℕ) (a : ℕ → ℕ → M) (g : ℕ → M) (r : ℕ → ℕ → M) → MonicGcd o n a g → DividedRow o n a g r
      → (h : ℕ → ℕ → M) → ((i : ℕ) → i < n → Polynomial o (h i)) → (dot (series o) n a h ≡ 𝟘) ↔ (dot (series o) n r h ≡ 𝟘)
  same_syzygies n a g r p d h q = (
    λ e. D.zero_of_product o F g (dot (series o) n r h) (gcd_polynomial n a g p) (G.combination_polynomial o F n r h d.polynomials q) (gcd_nonzero n a g p) (sym (dot_divided n a g r h d) ∙ e),
    λ e. dot_divided n a g r h d ∙ ap (λ t. g · t) e ∙ Sums.product_zero (series o) SL g,
  )

  -- a vector of polynomials is zero or has a degree
  pub vector_zero_or_degree : (n N : ℕ) (h : ℕ → ℕ → M) → Bounded o n N h → AllZero o n h ⊎ ((d : ℕ) × (d < N) × VectorDegree o n h d)
  vector_zero_or_degree n zero h b = inl (λ i l. B.zero_of_below o L (h i) (b i l))
  vector_zero_or_degree n (suc N) h b = go (E.all_zero_or_not o L All (E.domain_of_field o F) n (λ i. h i N) (λ i l. tt)) (vector_zero_or_degree n N h)
    where
      go : ((i : ℕ) → i < n → h i N ≡ O) ⊎ NotAllZero o n (λ i. h i N)
          → (Bounded o n N h → AllZero o n h ⊎ ((d : ℕ) × (d < N) × VectorDegree o n h d))
          → AllZero o n h ⊎ ((d : ℕ) × (d < suc N) × VectorDegree o n h d)
      go (inr x) rest = inr (N, le_refl (suc N), record { bounded = b; component = x.place; within = x.within; top = x.nonzero })
      go (inl z) rest = wider (rest (λ i l. B.below_top o L N (h i) (b i l) (z i l)))
        where
          wider : AllZero o n h ⊎ ((d : ℕ) × (d < N) × VectorDegree o n h d) → AllZero o n h ⊎ ((d : ℕ) × (d < suc N) × VectorDegree o n h d)
          wider (inl e) = inl e
          wider (inr (d, l, e)) = inr (d, omega arith, e)

  -- a row of which some combination is 1 has a degree
  pub vector_degree_exists : (n : ℕ) (r : ℕ → ℕ → M) → ((i : ℕ) → i < n → Polynomial o (r i)) → Combination o n r 𝟙 → (d : ℕ) × VectorDegree o n r d
  vector_degree_exists n r p c = go (vector_zero_or_degree n bound.0 r bound.1)
    where
      bound : (N : ℕ) × ((i : ℕ) → i < n → Below o N (r i))
      bound = B.common_bound o L n r p

      go : AllZero o n r ⊎ ((d : ℕ) × (d < bound.0) × VectorDegree o n r d) → (d : ℕ) × VectorDegree o n r d
      go (inl z) = absurd (D.one_nonzero o F (sym c.is ∙ Sums.total_zero (series o) SL n (λ i. r i · c.vector i) (λ i l. ap (λ t. t · c.vector i) (z i l) ∙ Sums.zero_product (series o) SL (c.vector i))))
      go (inr x) = (x.0, x.2)

  pub component_degree : (n : ℕ) (h : ℕ → ℕ → M) (d : ℕ) (v : VectorDegree o n h d) → Degree o (h v.component) d
  component_degree n h d v = record { top = v.top; below = v.bounded v.component v.within }

  -- f b_i = r_c q_i + rem_i at each i but c: the vector with rem_i there and f b_c + Σ q_i r_i at c has the same product with the row
  reduced_is : (n c : ℕ) (r b : ℕ → ℕ → M) (f : ℕ → M) (q rem : ℕ → ℕ → M) → c < suc n
      → ((j : ℕ) → j < n → f · b (Rows.skip c j) ≡ r c · q j + rem j)
      → dot (series o) (suc n) r (Rows.slot c (f · b c + total (series o) n (λ j. q j · r (Rows.skip c j))) rem) ≡ f · dot (series o) (suc n) r b
  reduced_is n c r b f q rem h e =
      Sums.total_skip (series o) SL n c (λ i. r i · Rows.slot c top rem i) h
      ∙ ap₂ ◌+◌
      (ap (λ t. r c · t) (Rows.slot_at c top rem))
      (Sums.total_ext (series o) SL n (λ j. r (Rows.skip c j) · Rows.slot c top rem (Rows.skip c j)) (λ j. f · (r (Rows.skip c j) · b (Rows.skip c j)) + r c · (- (q j · r (Rows.skip c j))))
      (λ j l. ap (λ t. r (Rows.skip c j) · t) (Rows.slot_skip c top rem j) ∙ term (r (Rows.skip c j)) (rem j) (b (Rows.skip c j)) (q j) (e j l))
      ∙ Sums.total_sum (series o) SL n (λ j. f · (r (Rows.skip c j) · b (Rows.skip c j))) (λ j. r c · (- (q j · r (Rows.skip c j))))
      ∙ ap₂ ◌+◌ (Sums.total_scale (series o) SL n f (λ j. r (Rows.skip c j) · b (Rows.skip c j))) (Sums.total_scale (series o) SL n (r c) (λ j. - (q j · r (Rows.skip c j))) ∙ ap (λ t. r c · t) (Sums.total_negative (series o) SL n (λ j. q j · r (Rows.skip c j)))))
      ∙ solve (series o) SL (r c ∷ f ∷ b c ∷ total (series o) n (λ j. q j · r (Rows.skip c j)) ∷ total (series o) n (λ j. r (Rows.skip c j) · b (Rows.skip c j)) ∷ []) (var 0 ⊠ (var 1 ⊠ var 2 ⊞ var 3) ⊞ (var 1 ⊠ var 4 ⊞ var 0 ⊠ neg (var 3))) (var 1 ⊠ (var 0 ⊠ var 2 ⊞ var 4)) refl
      ∙ ap (λ t. f · t) (sym (Sums.total_skip (series o) SL n c (λ i. r i · b i) h))
    where
      top : ℕ → M
      top = f · b c + total (series o) n (λ j. q j · r (Rows.skip c j))

      term : (x y z w : ℕ → M) → f · z ≡ r c · w + y → x · y ≡ f · (x · z) + r c · (- (w · x))
      term x y z w h =
          solve (series o) SL (x ∷ y ∷ r c ∷ w ∷ []) (var 0 ⊠ var 1) (var 0 ⊠ (var 2 ⊠ var 3 ⊞ var 1) ⊞ var 2 ⊠ neg (var 3 ⊠ var 0)) refl
          ∙ ap (λ t. x · t + r c · (- (w · x))) (sym h)
          ∙ solve (series o) SL (x ∷ z ∷ f ∷ r c ∷ w ∷ []) (var 0 ⊠ (var 2 ⊠ var 1) ⊞ var 3 ⊠ neg (var 4 ⊠ var 0)) (var 2 ⊠ (var 0 ⊠ var 1) ⊞ var 3 ⊠ neg (var 4 ⊠ var 0)) refl

  -- the factor at c is bounded by what its product has to be
  corner_below : (n d c : ℕ) (r rem : ℕ → ℕ → M) (f x : ℕ → M) → c < suc n → Bounded o (suc n) (suc d) r
      → Degree o (r c) d → ((j : ℕ) → j < n → Below o d (rem j)) → Polynomial o x → Below o (suc (d plus d)) f
      → dot (series o) (suc n) r (Rows.slot c x rem) ≡ f → Below o (suc d) x
  corner_below n d c r rem f x h b dc s p bf e =
      D.below_factor o F (r c) x d (suc d) (suc (d plus d)) dc p (omega arith)
      (subst (Below o (suc (d plus d))) (sym product_is)
      (B.below_sum o L (suc (d plus d)) f (- others) bf
      (B.below_negative o L (suc (d plus d)) others
      (B.below_total o L n (suc (d plus d)) (λ j. r (Rows.skip c j) · rem j) (λ j l. B.below_product o L (suc d) d (suc (d plus d)) (r (Rows.skip c j)) (rem j) (omega arith) (b (Rows.skip c j) (Rows.skip_lt c n j l)) (s j l))))))
    where
      others : ℕ → M
      others = total (series o) n (λ j. r (Rows.skip c j) · rem j)

      product_is : r c · x ≡ f + (- others)
      product_is =
          solve (series o) SL (r c · x ∷ others ∷ []) (var 0) (var 0 ⊞ var 1 ⊞ neg (var 1)) refl
          ∙ ap (λ t. t + (- others))
          (ap₂ ◌+◌
          (ap (λ t. r c · t) (sym (Rows.slot_at c x rem)))
          (Sums.total_ext (series o) SL n (λ j. r (Rows.skip c j) · rem j) (λ j. r (Rows.skip c j) · Rows.slot c x rem (Rows.skip c j)) (λ j l. ap (λ t. r (Rows.skip c j) · t) (sym (Rows.slot_skip c x rem j))))
          ∙ sym (Sums.total_skip (series o) SL n c (λ i. r i · Rows.slot c x rem i) h)
          ∙ e)

  -- a polynomial of degree at most 2d is the row times a vector of degree at most d
  pub small_combination : (n d : ℕ) (r : ℕ → ℕ → M) → ((i : ℕ) → i < n → Polynomial o (r i)) → Combination o n r 𝟙
      → VectorDegree o n r d → (f : ℕ → M) → Below o (suc (d plus d)) f → BoundedCombination o n (suc d) r f
  small_combination zero d r p b v f bf = absurd (not-suc-le-zero v.within)
  small_combination (suc n) d r p b v f bf =
      record {
        vector = Rows.slot c x rem;
        bounded = Rows.slot_all (Below o (suc d)) n c x rem v.within
            (corner_below n d c r rem f x v.within v.bounded (component_degree (suc n) r d v) (λ j l. (parts.1 j l).small) x_polynomial bf product)
            (λ j l. B.below_mono o L d (suc d) (rem j) (omega arith) (parts.1 j l).small);
        is = product;
      }
    where
      c : ℕ
      c = v.component

      parts : (z : ℕ → (ℕ → M) × (ℕ → M)) × ((j : ℕ) → j < n → record { is : f · b.vector (Rows.skip c j) ≡ r c · (z j).0 + (z j).1; small : Below o d (z j).1; polynomial : Polynomial o (z j).0 })
      parts = Rows.choose {A = (ℕ → M) × (ℕ → M)} (λ j z. record { is : f · b.vector (Rows.skip c j) ≡ r c · z.0 + z.1; small : Below o d z.1; polynomial : Polynomial o z.0 }) (𝟘, 𝟘) n
          (λ j l.
          let product = B.polynomial_product o L f (b.vector (Rows.skip c j)) (suc (d plus d), bf) (b.polynomials (Rows.skip c j) (Rows.skip_lt c n j l)) in
          let w = V.divide o F product.0 (f · b.vector (Rows.skip c j)) (r c) d (component_degree (suc n) r d v) product.1 in
          ((w.quotient, w.remainder), record { is = w.is; small = w.small; polynomial = w.polynomial }))

      q : ℕ → ℕ → M
      q j = (parts.0 j).0

      rem : ℕ → ℕ → M
      rem j = (parts.0 j).1

      x : ℕ → M
      x = f · b.vector c + total (series o) n (λ j. q j · r (Rows.skip c j))

      x_polynomial : Polynomial o x
      x_polynomial =
          B.polynomial_sum o L (f · b.vector c) (total (series o) n (λ j. q j · r (Rows.skip c j)))
          (B.polynomial_product o L f (b.vector c) (suc (d plus d), bf) (b.polynomials c v.within))
          (B.polynomial_total o L n (λ j. q j · r (Rows.skip c j)) (λ j l. B.polynomial_product o L (q j) (r (Rows.skip c j)) (parts.1 j l).polynomial (p (Rows.skip c j) (Rows.skip_lt c n j l))))

      product : dot (series o) (suc n) r (Rows.slot c x rem) ≡ f
      product = reduced_is n c r b.vector f q rem v.within (λ j l. (parts.1 j l).is) ∙ ap (λ t. f · t) b.is ∙ SL.product_one f

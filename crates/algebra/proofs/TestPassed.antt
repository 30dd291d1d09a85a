-- Columns that pass the test by degrees are degree-optimal. Main result: optimal_of_test.
use mathlib.Core.Path.{◌≡◌, refl, sym, ap, ap₂, ◌∙◌}
use mathlib.Core.Logic.{◌⊎◌, inl, inr}
use mathlib.Core.List.{[], ◌∷◌}
use Prim.Native.Nat.{ℕ, zero, suc, ◌≤◌, ◌<◌, ◌/◌, ◌-◌}
use native.Mathlib.Nat.{le_refl}
use native.Mathlib.Decide.{dec_lt}
use native.Mathlib.Omega.{arith}
use Rattle.algebra.specs.Rings.{RingOps, RingLaws, IsField}
use Rattle.algebra.specs.Series.{sum_below, total, dot, series, Below, Polynomial}
use Rattle.algebra.specs.Divisors.{Bounded, Combination, MonicGcd, AllZero, DividedRow, VectorDegree}
use Rattle.algebra.specs.Independence.{All, Domain, Spanned, Independent}
use Rattle.algebra.specs.Frames.{FrameColumns}
use Rattle.algebra.specs.Optimal.{PolynomialVector, DegreeAtMost, Syzygy, ExactlyOneSum, OrderedSyzygies, DegreeOptimal}
use Rattle.algebra.specs.DegreeTest.{PassesTest}
use Rattle.algebra.proofs.Rows as Rows
use Rattle.algebra.proofs.Sums as Sums
use Rattle.algebra.proofs.Solver.{solve, var, ◌⊞◌, neg}
use Rattle.algebra.proofs.Series as S
use Rattle.algebra.proofs.Bounds as B
use Rattle.algebra.proofs.Exchange as E
use Rattle.algebra.proofs.Spans as Spans
use Rattle.algebra.proofs.Naturals as Naturals
use Rattle.algebra.proofs.Counting as Counting
use Rattle.algebra.proofs.DividedRow as R
use Rattle.algebra.proofs.LeadingVectors as Leading
use Rattle.algebra.proofs.Frames as Frames
use Rattle.algebra.proofs.Optimal as Optimal
use Rattle.algebra.proofs.OptimalFrames as OptimalFrames

module _ {M : Type 0} (o : RingOps M) (F : IsField o) (n : ℕ) where
  abbrev L₀ : RingLaws o
  L₀ = F.laws.ring

  pub vector_degree_lt : (h : ℕ → ℕ → M) (e N : ℕ) → VectorDegree o n h e → Bounded o n N h → e < N
  vector_degree_lt h e N v b = elim (dec_lt e N) [ yes l ↦ l | no l ↦ absurd (v.top (b v.component v.within e (omega arith))) ]

  pub bounded_mono : (h : ℕ → ℕ → M) (K N : ℕ) → K ≤ N → Bounded o n K h → Bounded o n N h
  bounded_mono h K N l b i a = B.below_mono o L₀ K N (h i) l (b i a)

  pub at_most_of_le : (h w : ℕ → ℕ → M) (e b : ℕ) → Bounded o n (suc e) h → VectorDegree o n w b → e ≤ b → DegreeAtMost o n h w
  at_most_of_le h w e b x y l N c = let q = vector_degree_lt w b N y c in bounded_mono h (suc e) N (omega arith) x

  pub le_of_at_most : (h w : ℕ → ℕ → M) (e b : ℕ) → VectorDegree o n h e → Bounded o n (suc b) w → DegreeAtMost o n h w → e ≤ b
  le_of_at_most h w e b x y c = let q = vector_degree_lt h e (suc b) x (c (suc b) y) in omega arith

  -- the sum of multiples of syzygies is a syzygy
  pub combination_syzygy : (m : ℕ) (r : ℕ → ℕ → M) (w : ℕ → ℕ → ℕ → M) (x : ℕ → ℕ → M)
      → ((j : ℕ) → j < m → Syzygy o n r (w j))
      → Syzygy o n r (λ i. total (series o) m (λ j. (series o).product (x j) (w j i)))
  combination_syzygy m r w x s =
      Spans.dot_combination (series o) (S.series_laws o L₀) n m r x w
      ∙ Sums.total_zero (series o) (S.series_laws o L₀) m (λ j. (series o).product (x j) (dot (series o) n r (w j))) (λ j l. ap (λ t. (series o).product (x j) t) (s j l) ∙ Sums.product_zero (series o) (S.series_laws o L₀) (x j))

  pub combination_vector : (m : ℕ) (w : ℕ → ℕ → ℕ → M) (x : ℕ → ℕ → M) → ((j : ℕ) → j < m → Polynomial o (x j))
      → ((j : ℕ) → j < m → PolynomialVector o n (w j))
      → PolynomialVector o n (λ i. total (series o) m (λ j. (series o).product (x j) (w j i)))
  combination_vector m w x p q i a = B.polynomial_total o L₀ m (λ j. (series o).product (x j) (w j i)) (λ j l. B.polynomial_product o L₀ (x j) (w j i) (p j l) (q j l i a))

module _ {M : Type 0} (o : RingOps M) (F : IsField o) (m d : ℕ) (r : ℕ → ℕ → M) (v : VectorDegree o (suc m) r d) (one : Combination o (suc m) r (series o).one)
    (w : ℕ → ℕ → ℕ → M) (δ : ℕ → ℕ) (syzygies : (j : ℕ) → j < m → Syzygy o (suc m) r (w j)) (degrees : (j : ℕ) → j < m → VectorDegree o (suc m) (w j) (δ j))
    (never_fall : (j : ℕ) → suc j < m → δ j ≤ δ (suc j)) (degrees_sum : sum_below m δ ≡ d) (independent : Independent o All m (suc m) (λ j i. w j i (δ j))) where
  abbrev L : RingLaws o
  L = F.laws.ring

  abbrev SL : RingLaws (series o)
  SL = S.series_laws o L

  abbrev members : Domain o All
  members = E.domain_of_field o F

  abbrev n : ℕ
  n = suc m

  open o use {zero as O, one as I, product as ◌⊙◌, sum as ◌⊕◌, negative as minus}
  open series o use {zero as 𝟘, one as 𝟙, sum as ◌+◌, negative as -◌, product as ◌·◌}

  infixl 60 ◌+◌
  infixl 60 ◌⊕◌
  infixl 70 ◌·◌
  infixl 70 ◌⊙◌
  infix 80 -◌
  -- the frame to compare with
  abbrev p : ℕ → ℕ
  p = (Frames.frame_columns_exist o F m d r v one).0

  abbrev c : ℕ → ℕ → ℕ → M
  c = (Frames.frame_columns_exist o F m d r v one).1

  abbrev f : FrameColumns o m d r p c
  f = (Frames.frame_columns_exist o F m d r v one).2

  abbrev u : ℕ → ℕ → ℕ → M
  u j = c (suc j)

  abbrev k : ℕ → ℕ
  k j = p j / n

  w_bounded : (j : ℕ) → j < m → Bounded o n (suc (δ j)) (w j)
  w_bounded j l = (degrees j l).bounded

  w_polynomials : (j : ℕ) → j < m → PolynomialVector o n (w j)
  w_polynomials j l i a = (suc (δ j), w_bounded j l i a)

  ordered : OrderedSyzygies o n m r w
  ordered = record {
    polynomials = w_polynomials;
    syzygies = syzygies;
    independent = Leading.independent_over_polynomials o L n m w δ w_bounded independent;
    never_fall = λ j l. at_most_of_le o F n (w j) (w (suc j)) (δ j) (δ (suc j)) (w_bounded j (omega arith)) (degrees (suc j) l) (never_fall j l);
  }

  -- the degrees are those of the frame
  same_degrees : (j : ℕ) → j < m → k j ≡ δ j
  same_degrees = Counting.sum_le_same m k δ
      (λ j l. le_of_at_most o F n (u j) (w j) (k j) (δ j) (Optimal.check_degree o F m d r v p c f j l) (w_bounded j l) (Optimal.least_degrees o F m d r v p c f w ordered j l))
      (Optimal.check_degrees_sum o F m d r v p c f one ∙ sym degrees_sum)

  -- the coefficients of a syzygy at its top power are a combination of leading vectors of the w of no higher degree
  top_combination : (N : ℕ) (h : ℕ → ℕ → M) → PolynomialVector o n h → Syzygy o n r h → Bounded o n (suc N) h
      → (y : ℕ → M) × ((j : ℕ) → j < m → N < δ j → y j ≡ O) × ((i : ℕ) → i < n → h i N ≡ total o m (λ j. y j ⊙ w j i (δ j)))
  top_combination N h q s b = go (Naturals.prefix m N δ never_fall)
    where
      go : (t : ℕ) × (t ≤ m) × ((j : ℕ) → j < t → δ j ≤ N) × ((j : ℕ) → t ≤ j → j < m → N < δ j)
          → (y : ℕ → M) × ((j : ℕ) → j < m → N < δ j → y j ≡ O) × ((i : ℕ) → i < n → h i N ≡ total o m (λ j. y j ⊙ w j i (δ j)))
      go (t, t_le, low, high) = (Rows.cut o t spanned.factor, off, is)
        where
          higher : (K l : ℕ) → K ≤ N → t ≤ l → l < m → K < k l
          higher K l a b c = let x = high l b c in let e = same_degrees l c in omega arith

          w_spanned : (j : ℕ) → j < t → Spanned o All t n (λ l i. u l i (k l)) (λ i. w j i (δ j))
          w_spanned j a = Optimal.top_spanned o F m d r v p c f (δ j) t t_le (λ l b e. higher (δ j) l (low j a) b e) (w j) (w_polynomials j (omega arith)) (syzygies j (omega arith)) (w_bounded j (omega arith))

          spanned : Spanned o All t n (λ j i. w j i (δ j)) (λ i. h i N)
          spanned =
              Spans.spanned_trans o L All members t t n (λ j i. w j i (δ j)) (λ l i. u l i (k l)) (λ i. h i N)
              (E.spanned_of_independent_members o F t n (λ l i. u l i (k l)) (λ j i. w j i (δ j)) (Spans.independent_prefix o L All members t m n (λ j i. w j i (δ j)) t_le independent) w_spanned)
              (Optimal.top_spanned o F m d r v p c f N t t_le (λ l a e. higher N l (le_refl N) a e) h q s b)

          off : (j : ℕ) → j < m → N < δ j → Rows.cut o t spanned.factor j ≡ O
          off j a e = elim (dec_lt j t) [ yes x ↦ absurd (let y = low j x in omega arith) | no x ↦ Rows.cut_high o t spanned.factor j (omega arith) ]

          is : (i : ℕ) → i < n → h i N ≡ total o m (λ j. Rows.cut o t spanned.factor j ⊙ w j i (δ j))
          is i a =
              spanned.is i a
              ∙ Sums.total_ext o L t (λ j. spanned.factor j ⊙ w j i (δ j)) (λ j. Rows.cut o t spanned.factor j ⊙ w j i (δ j)) (λ j e. ap (λ z. z ⊙ w j i (δ j)) (sym (Rows.cut_low o t spanned.factor j e)))
              ∙ sym (Spans.total_truncate o L t m (λ j. Rows.cut o t spanned.factor j ⊙ w j i (δ j)) t_le (λ j e x. ap (λ z. z ⊙ w j i (δ j)) (Rows.cut_high o t spanned.factor j e) ∙ Sums.zero_product o L (w j i (δ j))))

  -- every syzygy is a sum of polynomial multiples of the w
  generated : (N : ℕ) (h : ℕ → ℕ → M) → Bounded o n N h → Syzygy o n r h
      → (x : ℕ → ℕ → M) × ((j : ℕ) → j < m → Polynomial o (x j)) × ((i : ℕ) → i < n → h i ≡ total (series o) m (λ j. x j · w j i))
  generated zero h b s = (λ j. 𝟘, λ j l. B.polynomial_zero o L, λ i a. B.zero_of_below o L (h i) (b i a) ∙ sym (Sums.total_zero (series o) SL m (λ j. 𝟘 · w j i) (λ j l. Sums.zero_product (series o) SL (w j i))))
  generated (suc N) h b s = go (top_combination N h (λ i a. (suc N, b i a)) s b) (generated N)
    where
      go : (y : ℕ → M) × ((j : ℕ) → j < m → N < δ j → y j ≡ O) × ((i : ℕ) → i < n → h i N ≡ total o m (λ j. y j ⊙ w j i (δ j)))
          → ((e : ℕ → ℕ → M) → Bounded o n N e → Syzygy o n r e → (x : ℕ → ℕ → M) × ((j : ℕ) → j < m → Polynomial o (x j)) × ((i : ℕ) → i < n → e i ≡ total (series o) m (λ j. x j · w j i)))
          → (x : ℕ → ℕ → M) × ((j : ℕ) → j < m → Polynomial o (x j)) × ((i : ℕ) → i < n → h i ≡ total (series o) m (λ j. x j · w j i))
      go (y, off, is) rest = done (rest lower lower_bounded lower_syzygy)
        where
          z : ℕ → ℕ → M
          z = Leading.lifted o L n m w δ w_bounded N y

          part : ℕ → ℕ → M
          part i = total (series o) m (λ j. z j · w j i)

          lower : ℕ → ℕ → M
          lower i = h i + (- part i)

          lower_bounded : Bounded o n N lower
          lower_bounded i a =
              B.below_top o L N (lower i)
              (B.below_sum o L (suc N) (h i) (- part i) (b i a) (B.below_negative o L (suc N) (part i) (Leading.lifted_sum_bounded o L n m w δ w_bounded N y off i a)))
              (ap₂ (λ s t. s ⊕ minus t) (is i a) (Leading.lifted_sum_top o L n m w δ w_bounded N y off i a) ∙ L.sum_negative (total o m (λ j. y j ⊙ w j i (δ j))))

          lower_syzygy : Syzygy o n r lower
          lower_syzygy =
              Spans.dot_sum (series o) SL n r h (λ i. - part i)
              ∙ ap₂ ◌+◌ s (Spans.dot_negative (series o) SL n r part ∙ ap -◌ (combination_syzygy o F n m r w z syzygies) ∙ Sums.negative_zero (series o) SL)
              ∙ SL.sum_zero 𝟘

          done : (x : ℕ → ℕ → M) × ((j : ℕ) → j < m → Polynomial o (x j)) × ((i : ℕ) → i < n → lower i ≡ total (series o) m (λ j. x j · w j i))
              → (x : ℕ → ℕ → M) × ((j : ℕ) → j < m → Polynomial o (x j)) × ((i : ℕ) → i < n → h i ≡ total (series o) m (λ j. x j · w j i))
          done (x, q, e) = (
            λ j. x j + z j,
            λ j l. B.polynomial_sum o L (x j) (z j) (q j l) (Leading.lifted_polynomial o L n m w δ w_bounded N y j),
            λ i a.
                solve (series o) SL (h i ∷ part i ∷ []) (var 0) (var 0 ⊞ neg (var 1) ⊞ var 1) refl
                ∙ ap (λ t. t + part i) (e i a)
                ∙ sym (Sums.total_sum (series o) SL m (λ j. x j · w j i) (λ j. z j · w j i))
                ∙ Sums.total_ext (series o) SL m (λ j. x j · w j i + z j · w j i) (λ j. (x j + z j) · w j i) (λ j l. sym (Sums.sum_product (series o) SL (x j) (z j) (w j i))),
          )

  pub basis : (h : ℕ → ℕ → M) → PolynomialVector o n h → Syzygy o n r h → ExactlyOneSum o n m w h
  basis h q s =
      let N = B.common_bound o L n h q in
      let x = generated N.0 h N.1 s in
      Leading.exactly_one_sum o L n m w δ w_bounded independent h x.0 x.1 x.2

  pub least : (z : ℕ → ℕ → ℕ → M) → OrderedSyzygies o n m r z → (j : ℕ) → j < m → DegreeAtMost o n (w j) (z j)
  least z s j l N b =
      let e = vector_degree_lt o F n (u j) (k j) N (Optimal.check_degree o F m d r v p c f j l) (Optimal.least_degrees o F m d r v p c f z s j l N b) in
      let q = same_degrees j l in
      bounded_mono o F n (w j) (suc (δ j)) N (omega arith) (w_bounded j l)

  -- a first column whose leading vector is no combination of leading vectors of no higher degree has least degree
  pub first_least : (t : ℕ → ℕ → M) → PolynomialVector o n t → dot (series o) n r t ≡ 𝟙
      → ((e : ℕ) → VectorDegree o n t e → (x : ℕ → M) → ((j : ℕ) → j < m → e < δ j → x j ≡ O) → ((i : ℕ) → i < n → t i e ≡ total o m (λ j. x j ⊙ w j i (δ j))) → ⊥)
      → (h : ℕ → ℕ → M) → PolynomialVector o n h → dot (series o) n r h ≡ 𝟙 → DegreeAtMost o n t h
  first_least t pt dt outside h ph dh N b = go (R.vector_zero_or_degree o F n bound.0 t bound.1)
    where
      bound : (K : ℕ) × ((i : ℕ) → i < n → Below o K (t i))
      bound = B.common_bound o L n t pt

      difference : ℕ → ℕ → M
      difference i = t i + (- h i)

      difference_syzygy : Syzygy o n r difference
      difference_syzygy = Spans.dot_sum (series o) SL n r t (λ i. - h i) ∙ ap₂ ◌+◌ dt (Spans.dot_negative (series o) SL n r h ∙ ap -◌ dh) ∙ SL.sum_negative 𝟙

      too_small : (e : ℕ) → VectorDegree o n t e → N ≤ e → ⊥
      too_small e x l =
          let bounded : Bounded o n (suc e) difference = λ i a. B.below_sum o L (suc e) (t i) (- h i) (x.bounded i a) (B.below_negative o L (suc e) (h i) (B.below_mono o L N (suc e) (h i) (omega arith) (b i a))) in
          let y = top_combination e difference (λ i a. (suc e, bounded i a)) difference_syzygy bounded in
          outside e x y.0 y.1 (λ i a. sym (ap (λ s. t i e ⊕ minus s) (b i a e l) ∙ ap (λ s. t i e ⊕ s) (Sums.negative_zero o L) ∙ L.sum_zero (t i e)) ∙ y.2 i a)

      go : AllZero o n t ⊎ ((e : ℕ) × (e < bound.0) × VectorDegree o n t e) → Bounded o n N t
      go (inl z) = (λ i a j l. ap (λ (g : ℕ → M). g j) (z i a))
      go (inr (e, l, x)) = elim (dec_lt e N) [ yes a ↦ bounded_mono o F n t (suc e) N a x.bounded | no a ↦ absurd (too_small e x (omega arith)) ]

-- columns that pass the test by degrees are degree-optimal
pub optimal_of_test : {M : Type 0} (o : RingOps M) (F : IsField o) (m : ℕ) (a : ℕ → ℕ → M) (g : ℕ → M) (r : ℕ → ℕ → M) (d : ℕ) (c : ℕ → ℕ → ℕ → M)
    → MonicGcd o (suc m) a g → DividedRow o (suc m) a g r → VectorDegree o (suc m) r d → PolynomialVector o (suc m) (c 0)
    → PassesTest o m a g d c → DegreeOptimal o m a g c
optimal_of_test {M} o F m a g r d c x y v q t = record {
  divisor = x;
  first = t.first;
  first_least = λ h p e. first_least o F m d r v one w t.degree syzygies t.degrees t.never_fall t.degrees_sum t.independent (c 0) q (OptimalFrames.one_of_gcd o F (suc m) a g r (c 0) x y q t.first) t.outside h p (OptimalFrames.one_of_gcd o F (suc m) a g r h x y p e);
  basis = λ h p s. basis o F m d r v one w t.degree syzygies t.degrees t.never_fall t.degrees_sum t.independent h p ((R.same_syzygies o F (suc m) a g r x y h p).0 s);
  least = λ z s. least o F m d r v one w t.degree syzygies t.degrees t.never_fall t.degrees_sum t.independent z (OptimalFrames.ordered_divided o F (suc m) m a g r z x y s);
}
  where
    w : ℕ → ℕ → ℕ → M
    w j = c (suc j)

    one : Combination o (suc m) r (series o).one
    one = R.one_is_combination o F (suc m) a g r x y

    syzygies : (j : ℕ) → j < m → Syzygy o (suc m) r (c (suc j))
    syzygies j l = (R.same_syzygies o F (suc m) a g r x y (c (suc j)) (λ i b. (suc (t.degree j), (t.degrees j l).bounded i b))).0 (t.check j l)

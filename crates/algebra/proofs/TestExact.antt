-- Degree-optimal columns pass the test by degrees. Main results: test_of_optimal, test_exact (the test is passed exactly by the degree-optimal columns).
use mathlib.Core.Path.{◌≡◌, refl, sym, ap, ap₂, ◌∙◌, subst}
use mathlib.Core.Logic.{◌⊎◌, inl, inr}
use Prim.Native.Nat.{ℕ, zero, suc, ◌≤◌, ◌<◌, zero-le, suc-le-suc, ◌/◌, ◌-◌}
use native.Mathlib.Nat.{le_of_suc-le-suc, not-suc-le-zero, le_refl, eq-or-lt_of_le}
use native.Mathlib.Decide.{dec_lt}
use native.Mathlib.Omega.{arith}
use Rattle.algebra.specs.Rings.{RingOps, RingLaws, IsField}
use Rattle.algebra.specs.Series.{sum_below, total, dot, series, Polynomial}
use Rattle.algebra.specs.Divisors.{Bounded, Combination, MonicGcd, AllZero, DividedRow, VectorDegree}
use Rattle.algebra.specs.Independence.{All, Domain, Solution, Spanned, Dependent, Independent}
use Rattle.algebra.specs.Frames.{FrameColumns}
use Rattle.algebra.specs.Optimal.{PolynomialVector, DegreeAtMost, Syzygy, ExactlyOneSum, OrderedSyzygies, DegreeOptimal}
use Rattle.algebra.specs.DegreeTest.{PassesTest}
use Rattle.algebra.specs.Theorems.{TestByDegrees}
use Rattle.algebra.proofs.Rows as Rows
use Rattle.algebra.proofs.Sums as Sums
use Rattle.algebra.proofs.Series as S
use Rattle.algebra.proofs.Fields as Fields
use Rattle.algebra.proofs.Bounds as B
use Rattle.algebra.proofs.Degrees as D
use Rattle.algebra.proofs.Gcd as G
use Rattle.algebra.proofs.Exchange as E
use Rattle.algebra.proofs.Spans as Spans
use Rattle.algebra.proofs.Naturals as Naturals
use Rattle.algebra.proofs.Counting as Counting
use Rattle.algebra.proofs.DividedRow as R
use Rattle.algebra.proofs.LeadingVectors as Leading
use Rattle.algebra.proofs.Frames as Frames
use Rattle.algebra.proofs.Optimal as Optimal
use Rattle.algebra.proofs.OptimalFrames as OptimalFrames
use Rattle.algebra.proofs.TestPassed as Passed

-- of m vectors w by which m independent syzygies can be expressed, each is a syzygy
syzygies_of_basis : {M : Type 0} (o : RingOps M) (F : IsField o) (n m : ℕ) (r : ℕ → ℕ → M) (u w : ℕ → ℕ → ℕ → M) (X : ℕ → ℕ → ℕ → M)
    → PolynomialVector o n r
    → ((j : ℕ) → j < m → PolynomialVector o n (w j))
    → ((l j : ℕ) → l < m → j < m → Polynomial o (X l j))
    → ((l i : ℕ) → l < m → i < n → u l i ≡ total (series o) m (λ j. (series o).product (X l j) (w j i)))
    → ((l : ℕ) → l < m → Syzygy o n r (u l))
    → Independent (series o) (Polynomial o) m n u
    → (p : ℕ) → p < m → Syzygy o n r (w p)
syzygies_of_basis o F n zero r u w X pr pw px is s independent p h = absurd (not-suc-le-zero h)
syzygies_of_basis {M} o F n (suc q) r u w X pr pw px is s independent p h = go (D.zero_decides o F (y p) (y_polynomial p h))
  where
    L : RingLaws o
    L = F.laws.ring

    SL : RingLaws (series o)
    SL = S.series_laws o L

    P : Domain (series o) (Polynomial o)
    P = E.domain_of_polynomials o F

    y : ℕ → ℕ → M
    y j = dot (series o) n r (w j)

    y_polynomial : (j : ℕ) → j < suc q → Polynomial o (y j)
    y_polynomial j l = G.combination_polynomial o F n r (w j) pr (pw j l)

    zeros : (l : ℕ) → l < suc q → total (series o) (suc q) (λ j. (series o).product (X l j) (y j)) ≡ (series o).zero
    zeros l b =
        sym (Spans.dot_combination (series o) SL n (suc q) r (X l) w)
        ∙ Spans.dot_ext (series o) SL n r (λ i. total (series o) (suc q) (λ j. (series o).product (X l j) (w j i))) (u l) (λ i a. sym (is l i b a))
        ∙ s l b

    go : Dec (y p ≡ (series o).zero) → y p ≡ (series o).zero
    go (yes e) = e
    go (no ne) = absurd (x.not_all_zero.nonzero (independent x.unknown x.inside relation x.not_all_zero.place x.not_all_zero.within))
      where
        x : Solution (series o) (Polynomial o) (suc q) (suc q) (λ j l. X l j)
        x = E.left_kernel (series o) SL (Polynomial o) P q p X y h px (y_polynomial p h) ne zeros

        relation : (i : ℕ) → i < n → total (series o) (suc q) (λ l. (series o).product (x.unknown l) (u l i)) ≡ (series o).zero
        relation i a =
            Sums.total_ext (series o) SL (suc q) (λ l. (series o).product (x.unknown l) (u l i)) (λ l. (series o).product (x.unknown l) (total (series o) (suc q) (λ j. (series o).product (X l j) (w j i)))) (λ l b. ap (λ t. (series o).product (x.unknown l) t) (is l i b a))
            ∙ E.total_compose (series o) SL (suc q) (suc q) x.unknown X (λ j. w j i)
            ∙ Sums.total_zero (series o) SL (suc q) (λ j. (series o).product (dot (series o) (suc q) (λ l. X l j) x.unknown) (w j i)) (λ j b. ap (λ t. (series o).product t (w j i)) (x.solves j b) ∙ Sums.zero_product (series o) SL (w j i))

module _ {M : Type 0} (o : RingOps M) (F : IsField o) (m d : ℕ) (r : ℕ → ℕ → M) (v : VectorDegree o (suc m) r d) (one : Combination o (suc m) r (series o).one)
    (w : ℕ → ℕ → ℕ → M) (w_polynomials : (j : ℕ) → j < m → PolynomialVector o (suc m) (w j))
    (basis : (h : ℕ → ℕ → M) → PolynomialVector o (suc m) h → Syzygy o (suc m) r h → ExactlyOneSum o (suc m) m w h)
    (least : (z : ℕ → ℕ → ℕ → M) → OrderedSyzygies o (suc m) m r z → (j : ℕ) → j < m → DegreeAtMost o (suc m) (w j) (z j)) where
  abbrev L : RingLaws o
  L = F.laws.ring

  abbrev SL : RingLaws (series o)
  SL = S.series_laws o L

  abbrev members : Domain o All
  members = E.domain_of_field o F

  abbrev n : ℕ
  n = suc m

  open o use {zero as O, one as I, product as ◌⊙◌, sum as ◌⊕◌, negative as minus}
  open series o use {zero as 𝟘, one as 𝟙, sum as ◌+◌, negative as -◌, product as ◌·◌}

  infixl 60 ◌+◌
  infixl 60 ◌⊕◌
  infixl 70 ◌·◌
  infixl 70 ◌⊙◌
  infix 80 -◌
  -- the frame to compare with
  abbrev p : ℕ → ℕ
  p = (Frames.frame_columns_exist o F m d r v one).0

  abbrev c : ℕ → ℕ → ℕ → M
  c = (Frames.frame_columns_exist o F m d r v one).1

  abbrev f : FrameColumns o m d r p c
  f = (Frames.frame_columns_exist o F m d r v one).2

  abbrev u : ℕ → ℕ → ℕ → M
  u j = c (suc j)

  abbrev k : ℕ → ℕ
  k j = p j / n

  u_degree : (j : ℕ) → j < m → VectorDegree o n (u j) (k j)
  u_degree = Optimal.check_degree o F m d r v p c f

  u_polynomials : (j : ℕ) → j < m → PolynomialVector o n (u j)
  u_polynomials j l i a = (suc (k j), (u_degree j l).bounded i a)

  u_independent : Independent (series o) (Polynomial o) m n u
  u_independent = Leading.independent_over_polynomials o L n m u k (λ j l. (u_degree j l).bounded) (Optimal.leading_independent o F m d r v p c f)

  -- the check columns are syzygies
  pub syzygies : (j : ℕ) → j < m → Syzygy o n r (w j)
  syzygies =
      let X = Rows.choose {A = ℕ → ℕ → M} (λ l x. record { inside : (j : ℕ) → j < m → Polynomial o (x j); is : (i : ℕ) → i < n → u l i ≡ total (series o) m (λ j. x j · w j i) }) (λ j. 𝟘) m (λ l b. let x = basis (u l) (u_polynomials l b) (f.check l b) in (x.factor, record { inside = x.polynomials; is = x.is })) in
      syzygies_of_basis o F n m r u w X.0 (λ i a. (suc d, v.bounded i a)) w_polynomials (λ l j a b. (X.1 l a).inside j b) (λ l i a b. (X.1 l a).is i b) f.check u_independent

  zero_syzygy : Syzygy o n r (λ i. 𝟘)
  zero_syzygy = Sums.total_zero (series o) SL n (λ i. r i · 𝟘) (λ i a. Sums.product_zero (series o) SL (r i))

  -- none of them is zero
  nonzero : (j : ℕ) → j < m → AllZero o n (w j) → ⊥
  nonzero j l z =
      let x = basis (λ i. 𝟘) (λ i a. B.polynomial_zero o L) zero_syzygy in
      let by_unit = x.unique (Rows.slot j 𝟙 (λ i. 𝟘)) (λ t b. Rows.slot_both (Polynomial o) j 𝟙 𝟘 t (B.polynomial_constant o L I) (B.polynomial_zero o L)) (λ i a. sym (Spans.total_slot (series o) SL m j 𝟙 (λ t. w t i) l ∙ ap (λ t. 𝟙 · t) (z i a) ∙ Sums.product_zero (series o) SL 𝟙)) j l in
      let by_zero = x.unique (λ t. 𝟘) (λ t b. B.polynomial_zero o L) (λ i a. sym (Sums.total_zero (series o) SL m (λ t. 𝟘 · w t i) (λ t b. Sums.zero_product (series o) SL (w t i)))) j l in
      D.one_nonzero o F (sym (Rows.slot_at j 𝟙 (λ i. 𝟘)) ∙ by_unit ∙ sym by_zero)

  degrees_chosen : (δ : ℕ → ℕ) × ((j : ℕ) → j < m → VectorDegree o n (w j) (δ j))
  degrees_chosen = Rows.choose {A = ℕ} (λ j e. VectorDegree o n (w j) e) 0 m (λ j l. degree j l (R.vector_zero_or_degree o F n (B.common_bound o L n (w j) (w_polynomials j l)).0 (w j) (B.common_bound o L n (w j) (w_polynomials j l)).1))
    where
      degree : (j : ℕ) (l : j < m)
          → AllZero o n (w j) ⊎ ((e : ℕ) × (e < (B.common_bound o L n (w j) (w_polynomials j l)).0) × VectorDegree o n (w j) e)
          → (e : ℕ) × VectorDegree o n (w j) e
      degree j l (inl z) = absurd (nonzero j l z)
      degree j l (inr (e, b, x)) = (e, x)

  pub δ : ℕ → ℕ
  δ = degrees_chosen.0

  pub degrees : (j : ℕ) → j < m → VectorDegree o n (w j) (δ j)
  unfolding δ
  degrees = degrees_chosen.1

  w_bounded : (j : ℕ) → j < m → Bounded o n (suc (δ j)) (w j)
  w_bounded j l = (degrees j l).bounded

  -- their leading vectors are independent
  pub independent : Independent o All m n (λ j i. w j i (δ j))
  independent x a z j l = nonzero_top (F.decides (x j) O)
    where
      top : (N : ℕ) × ((j : ℕ) → j < m → δ j ≤ N)
      top = Naturals.common_top m δ

      N : ℕ
      N = top.0

      no_higher : (t : ℕ) → t < m → N < δ t → x t ≡ O
      no_higher t b h = absurd (let e = top.1 t b in omega arith)

      y : ℕ → ℕ → M
      y = Leading.lifted o L n m w δ w_bounded N x

      h : ℕ → ℕ → M
      h i = total (series o) m (λ t. y t · w t i)

      h_bounded : Bounded o n N h
      h_bounded i b = B.below_top o L N (h i) (Leading.lifted_sum_bounded o L n m w δ w_bounded N x no_higher i b) (Leading.lifted_sum_top o L n m w δ w_bounded N x no_higher i b ∙ z i b)

      sum : ExactlyOneSum o n m w h
      sum = basis h (λ i b. (N, h_bounded i b)) (Passed.combination_syzygy o F n m r w y syzygies)

      same : y j ≡ sum.factor j
      same = sum.unique y (λ t b. Leading.lifted_polynomial o L n m w δ w_bounded N x t) (λ i b. refl) j l

      comp : ℕ
      comp = (degrees j l).component

      vanishes : x j ⊙ w j comp (δ j) ≡ O
      vanishes =
          ap (λ t. t ⊙ w j comp (δ j)) (sym (Leading.lifted_top o L n m w δ w_bounded N x j))
          ∙ sym (Leading.term_top o L n m w δ w_bounded N y (Leading.lifted_below o L n m w δ w_bounded N x no_higher) j comp l (degrees j l).within)
          ∙ ap (λ (t : ℕ → M). (t · w j comp) N) same
          ∙ sum.no_higher j l N h_bounded comp (degrees j l).within N (le_refl N)

      nonzero_top : Dec (x j ≡ O) → x j ≡ O
      nonzero_top (yes e) = e
      nonzero_top (no e) = absurd ((degrees j l).top (Fields.zero_of_product o F (x j) (w j comp (δ j)) e vanishes))

  ordered : OrderedSyzygies o n m r u
  ordered = record { polynomials = u_polynomials; syzygies = f.check; independent = u_independent; never_fall = λ j l. Passed.at_most_of_le o F n (u j) (u (suc j)) (k j) (k (suc j)) (u_degree j (omega arith)).bounded (u_degree (suc j) l) (Optimal.degrees_rise o F m d r v p c f j (suc j) (le_refl (suc j)) l) }

  degree_le : (j : ℕ) → j < m → δ j ≤ k j
  degree_le j l = Passed.le_of_at_most o F n (w j) (u j) (δ j) (k j) (degrees j l) (u_degree j l).bounded (least u ordered j l)

  -- the leading vectors of w 0 .. w (t - 1) and w j would be dependent
  not_smaller : (j : ℕ) → j < m → δ j < k j → ⊥
  not_smaller j l h = go (Naturals.prefix m (δ j) k (λ i b. Optimal.degrees_rise o F m d r v p c f i (suc i) (le_refl (suc i)) b))
    where
      go : (t : ℕ) × (t ≤ m) × ((i : ℕ) → i < t → k i ≤ δ j) × ((i : ℕ) → t ≤ i → i < m → δ j < k i) → ⊥
      go (t, t_le, low, high) = x.not_all_zero.nonzero (all_zero x.not_all_zero.place x.not_all_zero.within)
        where
          behind : t ≤ j
          behind = elim (dec_lt j t) [ yes b ↦ absurd (let e = low j b in omega arith) | no b ↦ omega arith ]

          lead : ℕ → ℕ → M
          lead i a = w i a (δ i)

          -- w 0 .. w (t - 1) and w j
          family : ℕ → ℕ → M
          family = Rows.slot t (lead j) lead

          w_spanned : (i : ℕ) → i < m → δ i ≤ δ j → Spanned o All t n (λ l a. u l a (k l)) (lead i)
          w_spanned i b e = Optimal.top_spanned o F m d r v p c f (δ i) t t_le (λ a y z. let q = high a y z in omega arith) (w i) (w_polynomials i b) (syzygies i b) (w_bounded i b)

          family_spanned : (i : ℕ) → i < suc t → Spanned o All t n (λ l a. u l a (k l)) (family i)
          family_spanned i b = elim (eq-or-lt_of_le (le_of_suc-le-suc b)) [
            | inl e ↦ subst (Spanned o All t n (λ l a. u l a (k l))) (sym (ap family e ∙ Rows.slot_at t (lead j) lead)) (w_spanned j l (le_refl (δ j)))
            | inr e ↦ subst (Spanned o All t n (λ l a. u l a (k l))) (sym (Rows.slot_low t (lead j) lead i e)) (w_spanned i (omega arith) (let y = degree_le i (omega arith) in let z = low i e in omega arith))
          ]

          x : Dependent o All (suc t) n family
          x = E.dependent_of_spanned o L All members t (suc t) n (λ l a. u l a (k l)) family (le_refl (suc t)) family_spanned

          -- the factors, at the places of all m vectors
          X : ℕ → M
          X i = Rows.cut o t x.factor i ⊕ Rows.slot j (x.factor t) (λ a. O) i

          family_sum : (a : ℕ) → total o (suc t) (λ i. x.factor i ⊙ family i a) ≡ total o t (λ i. x.factor i ⊙ lead i a) ⊕ x.factor t ⊙ lead j a
          family_sum a =
              Sums.total_last o L t (λ i. x.factor i ⊙ family i a)
              ∙ ap₂ ◌⊕◌
              (Sums.total_ext o L t (λ i. x.factor i ⊙ family i a) (λ i. x.factor i ⊙ lead i a) (λ i b. ap (λ (g : ℕ → M). x.factor i ⊙ g a) (Rows.slot_low t (lead j) lead i b)))
              (ap (λ (g : ℕ → M). x.factor t ⊙ g a) (Rows.slot_at t (lead j) lead))

          X_sum : (a : ℕ) → total o m (λ i. X i ⊙ lead i a) ≡ total o t (λ i. x.factor i ⊙ lead i a) ⊕ x.factor t ⊙ lead j a
          X_sum a =
              Sums.total_ext o L m (λ i. X i ⊙ lead i a) (λ i. Rows.cut o t x.factor i ⊙ lead i a ⊕ Rows.slot j (x.factor t) (λ b. O) i ⊙ lead i a) (λ i b. Sums.sum_product o L (Rows.cut o t x.factor i) (Rows.slot j (x.factor t) (λ b. O) i) (lead i a))
              ∙ Sums.total_sum o L m (λ i. Rows.cut o t x.factor i ⊙ lead i a) (λ i. Rows.slot j (x.factor t) (λ b. O) i ⊙ lead i a)
              ∙ ap₂ ◌⊕◌
              (Spans.total_truncate o L t m (λ i. Rows.cut o t x.factor i ⊙ lead i a) t_le (λ i b e. ap (λ z. z ⊙ lead i a) (Rows.cut_high o t x.factor i b) ∙ Sums.zero_product o L (lead i a))
              ∙ Sums.total_ext o L t (λ i. Rows.cut o t x.factor i ⊙ lead i a) (λ i. x.factor i ⊙ lead i a) (λ i b. ap (λ z. z ⊙ lead i a) (Rows.cut_low o t x.factor i b)))
              (Spans.total_slot o L m j (x.factor t) (λ i. lead i a) l)

          X_zero : (i : ℕ) → i < m → X i ≡ O
          X_zero = independent X (λ i b. tt) (λ a b. X_sum a ∙ sym (family_sum a) ∙ x.is a b)

          all_zero : (i : ℕ) → i < suc t → x.factor i ≡ O
          all_zero i b = elim (eq-or-lt_of_le (le_of_suc-le-suc b)) [
            | inl e ↦ ap x.factor e ∙ sym (ap₂ ◌⊕◌ (Rows.cut_high o t x.factor j behind) (Rows.slot_at j (x.factor t) (λ a. O)) ∙ Sums.zero_sum o L (x.factor t)) ∙ X_zero j l
            | inr e ↦ sym (ap₂ ◌⊕◌ (Rows.cut_low o t x.factor i e) (Rows.slot_off j (x.factor t) O i (λ q. omega arith)) ∙ L.sum_zero (x.factor i)) ∙ X_zero i (omega arith)
          ]

  pub same_degrees : (j : ℕ) → j < m → δ j ≡ k j
  same_degrees j l = elim (eq-or-lt_of_le (degree_le j l)) [ inl e ↦ e | inr h ↦ absurd (not_smaller j l h) ]

  pub never_fall : (j : ℕ) → suc j < m → δ j ≤ δ (suc j)
  never_fall j l =
      let a = same_degrees j (omega arith) in
      let b = same_degrees (suc j) l in
      let e = Optimal.degrees_rise o F m d r v p c f j (suc j) (le_refl (suc j)) l in
      omega arith

  pub degrees_sum : sum_below m δ ≡ d
  degrees_sum = Counting.sum_ext m δ k same_degrees ∙ Optimal.check_degrees_sum o F m d r v p c f one

  -- a first column of least degree has its leading vector outside
  pub outside : (t : ℕ → ℕ → M) → PolynomialVector o n t → dot (series o) n r t ≡ 𝟙
      → ((h : ℕ → ℕ → M) → PolynomialVector o n h → dot (series o) n r h ≡ 𝟙 → DegreeAtMost o n t h) → (e : ℕ)
      → VectorDegree o n t e → (x : ℕ → M) → ((j : ℕ) → j < m → e < δ j → x j ≡ O)
      → ((i : ℕ) → i < n → t i e ≡ total o m (λ j. x j ⊙ w j i (δ j))) → ⊥
  outside t q b first_least e y x off is = y.top (first_least lower (λ i a. (e, lower_bounded i a)) lower_one e lower_bounded y.component y.within e (le_refl e))
    where
      z : ℕ → ℕ → M
      z = Leading.lifted o L n m w δ w_bounded e x

      part : ℕ → ℕ → M
      part i = total (series o) m (λ j. z j · w j i)

      lower : ℕ → ℕ → M
      lower i = t i + (- part i)

      lower_bounded : Bounded o n e lower
      lower_bounded i a =
          B.below_top o L e (lower i)
          (B.below_sum o L (suc e) (t i) (- part i) (y.bounded i a) (B.below_negative o L (suc e) (part i) (Leading.lifted_sum_bounded o L n m w δ w_bounded e x off i a)))
          (ap₂ (λ s g. s ⊕ minus g) (is i a) (Leading.lifted_sum_top o L n m w δ w_bounded e x off i a) ∙ L.sum_negative (total o m (λ j. x j ⊙ w j i (δ j))))

      lower_one : dot (series o) n r lower ≡ 𝟙
      lower_one =
          Spans.dot_sum (series o) SL n r t (λ i. - part i)
          ∙ ap₂ ◌+◌ b (Spans.dot_negative (series o) SL n r part ∙ ap -◌ (Passed.combination_syzygy o F n m r w z syzygies) ∙ Sums.negative_zero (series o) SL)
          ∙ SL.sum_zero 𝟙

-- degree-optimal columns of polynomials pass the test by degrees
pub test_of_optimal : {M : Type 0} (o : RingOps M) (F : IsField o) (m : ℕ) (a : ℕ → ℕ → M) (g : ℕ → M) (r : ℕ → ℕ → M) (d : ℕ) (c : ℕ → ℕ → ℕ → M)
    → DividedRow o (suc m) a g r → VectorDegree o (suc m) r d → ((j : ℕ) → j < suc m → PolynomialVector o (suc m) (c j))
    → DegreeOptimal o m a g c → PassesTest o m a g d c
test_of_optimal {M} o F m a g r d c y v q t = record {
  first = t.first;
  check = λ j l. (R.same_syzygies o F (suc m) a g r x y (c (suc j)) (q (suc j) (suc-le-suc l))).1 (syzygies o F m d r v one w polynomials basis least j l);
  degree = δ o F m d r v one w polynomials basis least;
  degrees = degrees o F m d r v one w polynomials basis least;
  never_fall = never_fall o F m d r v one w polynomials basis least;
  degrees_sum = degrees_sum o F m d r v one w polynomials basis least;
  independent = independent o F m d r v one w polynomials basis least;
  outside = outside o F m d r v one w polynomials basis least (c 0) (q 0 (suc-le-suc zero-le)) (OptimalFrames.one_of_gcd o F (suc m) a g r (c 0) x y (q 0 (suc-le-suc zero-le)) t.first) (λ h p e. t.first_least h p (OptimalFrames.gcd_of_one o F (suc m) a g r h y e));
}
  where
    x : MonicGcd o (suc m) a g
    x = t.divisor

    w : ℕ → ℕ → ℕ → M
    w j = c (suc j)

    one : Combination o (suc m) r (series o).one
    one = R.one_is_combination o F (suc m) a g r x y

    polynomials : (j : ℕ) → j < m → PolynomialVector o (suc m) (w j)
    polynomials j l = q (suc j) (suc-le-suc l)

    basis : (h : ℕ → ℕ → M) → PolynomialVector o (suc m) h → Syzygy o (suc m) r h → ExactlyOneSum o (suc m) m w h
    basis h p s = t.basis h p ((R.same_syzygies o F (suc m) a g r x y h p).1 s)

    least : (z : ℕ → ℕ → ℕ → M) → OrderedSyzygies o (suc m) m r z → (j : ℕ) → j < m → DegreeAtMost o (suc m) (w j) (z j)
    least z s = t.least z (record { polynomials = s.polynomials; syzygies = λ j l. (R.same_syzygies o F (suc m) a g r x y (z j) (s.polynomials j l)).1 (s.syzygies j l); independent = s.independent; never_fall = s.never_fall })

-- columns of polynomials pass the test by degrees exactly when they are degree-optimal
pub test_exact : {M : Type 0} (o : RingOps M) (F : IsField o) → TestByDegrees o
test_exact o F = record { exact = λ m a g r d c x y v q. (Passed.optimal_of_test o F m a g r d c x y v (q 0 (suc-le-suc zero-le)), test_of_optimal o F m a g r d c y v q) }

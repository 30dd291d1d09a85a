-- The frame columns are degree-optimal. Main results: exactly_one_sum (the check columns are a basis with predictable degrees), least_degrees
-- (one by one), first_least (column 0 has least degree), check_degree and check_degrees_sum (the check degrees add up to d),
-- top_spanned (the top coefficients of a syzygy are a combination of leading vectors).
use mathlib.Core.Path.{◌≡◌, sym, ap, ap₂, ◌∙◌, subst, fun_ext}
use Prim.Native.Nat.{ℕ, zero, suc, ◌≤◌, ◌<◌, zero-le, suc-le-suc, ◌*◌, ◌/◌, ◌%◌, ◌-◌, ◌+◌ as ◌plus◌}
use native.Mathlib.Nat.{le_refl, mod-lt, div-add-mod, mul-add, mul-le-mul_left, add-zero}
use native.Mathlib.Decide.{dec_le, dec_lt}
use native.Mathlib.Omega.{arith}
use Rattle.algebra.specs.Rings.{RingOps, RingLaws, IsField}
use Rattle.algebra.specs.Series.{sum_below, total, dot, series, Below, Polynomial}
use Rattle.algebra.specs.Divisors.{Bounded, Combination, VectorDegree}
use Rattle.algebra.specs.Independence.{All, Domain, Spanned, Independent}
use Rattle.algebra.specs.Places.{place_list, NonPivotal}
use Rattle.algebra.specs.Frames.{FrameColumns}
use Rattle.algebra.specs.Optimal.{PolynomialVector, DegreeAtMost, Syzygy, ExactlyOneSum, OrderedSyzygies}
use Rattle.algebra.proofs.Rows as Rows
use Rattle.algebra.proofs.Sums as Sums
use Rattle.algebra.proofs.Series as S
use Rattle.algebra.proofs.Fields as Fields
use Rattle.algebra.proofs.Bounds as B
use Rattle.algebra.proofs.Exchange as E
use Rattle.algebra.proofs.Spans as Spans
use Rattle.algebra.proofs.Pivots as Pivots
use Rattle.algebra.proofs.Places as Places
use Rattle.algebra.proofs.Places.{at, spread, BelowPlace}
use Rattle.algebra.proofs.Reduction as Reduction
use Rattle.algebra.proofs.Syzygies as Syzygies
use Rattle.algebra.proofs.Syzygies.{SyzygyAt}
use Rattle.algebra.proofs.Classes as Classes
use Rattle.algebra.proofs.Classes.{FirstNonPivotal}
use Rattle.algebra.proofs.Counting as Counting
use Rattle.algebra.proofs.BasicPlaces as Basics
use Rattle.algebra.proofs.LeadingVectors as Leading
use Rattle.algebra.proofs.LeadingVectors.{TermsBelow}
use Rattle.algebra.proofs.Frames as Frames

module _ {M : Type 0} (o : RingOps M) (F : IsField o) (n : ℕ) where
  abbrev L₀ : RingLaws o
  L₀ = F.laws.ring

  -- degrees that never fall do not fall over any distance
  pub never_fall_far : (m : ℕ) (w : ℕ → ℕ → ℕ → M) → ((j : ℕ) → suc j < m → DegreeAtMost o n (w j) (w (suc j)))
      → (t l j : ℕ) → l plus t ≡ j → j < m → DegreeAtMost o n (w l) (w j)
  never_fall_far m w h zero l j e b = subst (λ (s : ℕ). DegreeAtMost o n (w l) (w s)) (let q : l ≡ j = omega arith in q) (λ N c. c)
  never_fall_far m w h (suc t) l j e b = λ N c. h l (omega arith) N (never_fall_far m w h t (suc l) j (omega arith) b N c)

module _ {M : Type 0} (o : RingOps M) (F : IsField o) (m d : ℕ) (r : ℕ → ℕ → M) (v : VectorDegree o (suc m) r d) (p : ℕ → ℕ) (c : ℕ → ℕ → ℕ → M) (f : FrameColumns o m d r p c) where
  abbrev L : RingLaws o
  L = F.laws.ring

  abbrev SL : RingLaws (series o)
  SL = S.series_laws o L

  abbrev polynomials : Domain (series o) (Polynomial o)
  polynomials = E.domain_of_polynomials o F

  abbrev n : ℕ
  n = suc m

  open o use {zero as O, one as I, product as ◌⊙◌, sum as ◌⊕◌, negative as minus}
  open series o use {zero as 𝟘, one as 𝟙, sum as ◌+◌, negative as -◌, product as ◌·◌}

  infixl 60 ◌+◌
  infixl 60 ◌⊕◌
  infixl 70 ◌·◌
  infixl 70 ◌⊙◌
  infix 80 -◌
  positive : zero < n
  positive = suc-le-suc zero-le

  abbrev u : ℕ → ℕ → ℕ → M
  u j = c (suc j)

  -- the degree of check column j
  abbrev k : ℕ → ℕ
  k j = p j / n

  u_below : (j : ℕ) → j < m → BelowPlace o n (suc (p j)) (u j)
  u_below = Frames.check_below o F m d r v p c f

  u_leading : (j : ℕ) → j < m → at n (u j) (p j) ≡ I
  u_leading = Frames.check_leading o F m d r v p c f

  pub u_bounded : (j : ℕ) → j < m → Bounded o n (suc (k j)) (u j)
  u_bounded = Leading.leading_bounded o L n positive m u p u_below u_leading

  -- smaller basic places have no higher powers
  pub degrees_rise : (i j : ℕ) → i < j → j < m → k i ≤ k j
  degrees_rise i j h l =
      let e = f.places.rising i j h l in
      let a = div-add-mod (p i) n in
      let b = div-add-mod (p j) n in
      Reduction.power_le o F n positive (k i) (k j) (p j % n) (mod-lt (p j) positive) (omega arith)

  no_two_in_class : (i j : ℕ) → i < j → j < m → p i % n ≡ p j % n → ⊥
  no_two_in_class i j h l e =
      let lt = f.places.rising i j h l in
      let a = div-add-mod (p i) n in
      let b = div-add-mod (p j) n in
      let le = degrees_rise i j h l in
      apart (k j - k i) (omega arith) a b lt
    where
      apart : (t : ℕ) → k j ≡ k i plus t → n * k i plus p i % n ≡ p i → n * k j plus p j % n ≡ p j → p i < p j → ⊥
      apart zero s a b lt = let z = ap (λ x. n * x) (s ∙ add-zero (k i)) in omega arith
      apart (suc t) s a b lt =
          let z = ap (λ x. n * x) s ∙ mul-add n (k i) (suc t) in
          (f.places.basic j l).first (p i) t (f.places.basic i (omega arith)).non_pivotal (omega arith)

  distinct_classes : (i j : ℕ) → i < m → j < m → p i % n ≡ p j % n → i ≡ j
  distinct_classes i j a b e = elim (dec_lt i j) [
    | yes h ↦ absurd (no_two_in_class i j h b e)
    | no h ↦ elim (dec_lt j i) [ yes l ↦ absurd (no_two_in_class j i l a (sym e)) | no l ↦ omega arith ]
  ]

  pub leading_independent : Independent o All m n (λ j i. u j i (k j))
  leading_independent = Leading.echelon_independent o L n positive m u p u_below u_leading distinct_classes

  pub check_degree : (j : ℕ) → j < m → VectorDegree o n (u j) (k j)
  check_degree j l = record { bounded = u_bounded j l; component = p j % n; within = mod-lt (p j) positive; top = λ z. Fields.one_nonzero o F (sym (u_leading j l) ∙ z) }

  -- the leading place of a syzygy is a basic place, shifted
  cover : (Q : ℕ) → 0 ≤ Q → (h : ℕ → ℕ → M) → Syzygy o n r h → BelowPlace o n (suc Q) h → (at n h Q ≡ O → ⊥)
      → (j : ℕ) × (j < m) × (e : ℕ) × (Q ≡ p j plus n * e)
  cover Q z h s b x = go (cl.first (Q % n) (mod-lt Q positive) (λ e. cl.free_none Q e syzygy))
    where
      cl : Classes.Classes o n d r
      cl = Classes.classes o F n positive d r v

      syzygy : SyzygyAt o n r Q
      syzygy = Syzygies.scaled_syzygy o F n positive r h Q s b x

      go : FirstNonPivotal o n d r (Q % n) → (j : ℕ) × (j < m) × (e : ℕ) × (Q ≡ p j plus n * e)
      go g =
          let j = f.places.every (n * g.power plus Q % n) (Classes.basic_of_first o F n positive d r v (Q % n) (mod-lt Q positive) g) in
          let le : g.power ≤ Q / n = not_before (dec_lt (Q / n) g.power) in
          let e = Q / n - g.power in
          let split : Q / n ≡ g.power plus e = omega arith in
          let places = ap (λ t. n * t) split ∙ mul-add n g.power e in
          let whole = div-add-mod Q n in
          let same = j.2 in
          (j.0, j.1, e, omega arith)
        where
          not_before : Dec (Q / n < g.power) → g.power ≤ Q / n
          not_before (no a) = omega arith
          not_before (yes a) = absurd (g.earlier (Q / n) a (subst (NonPivotal o n d r) (sym (div-add-mod Q n)) (Syzygies.nonpivotal_of_syzygy o F n positive d r v.bounded Q syzygy)))

  -- every syzygy is a sum of polynomial multiples of the check columns
  pub generated : (h : ℕ → ℕ → M) → PolynomialVector o n h → Syzygy o n r h
      → (x : ℕ → ℕ → M) × ((j : ℕ) → j < m → Polynomial o (x j)) × ((i : ℕ) → i < n → h i ≡ total (series o) m (λ j. x j · u j i))
  generated h q s =
      let N = B.common_bound o L n h q in
      let reduced = Reduction.reduce o F n positive m u p u_below u_leading (Syzygy o n r) step 0 cover (n * N.0) h s (Places.below_place_of_bounded n positive o N.0 h N.1) in
      (reduced.factor, reduced.polynomials, λ i a. reduced.is i ∙ ap (λ t. total (series o) m (λ j. reduced.factor j · u j i) + t) (fun_ext (λ l. reduced.below i l a zero-le)) ∙ SL.sum_zero (total (series o) m (λ j. reduced.factor j · u j i)))
    where
      step : (j : ℕ) → j < m → (x : ℕ → M) → Polynomial o x → (e : ℕ → ℕ → M) → Syzygy o n r e → Syzygy o n r (λ i. e i + (- (x · u j i)))
      step j l x b e z =
          Spans.dot_sum (series o) SL n r e (λ i. - (x · u j i))
          ∙ ap₂ ◌+◌ z (Spans.dot_negative (series o) SL n r (λ i. x · u j i) ∙ ap -◌ (Spans.dot_scale (series o) SL n r (u j) x ∙ ap (λ t. x · t) (f.check j l) ∙ Sums.product_zero (series o) SL x) ∙ Sums.negative_zero (series o) SL)
          ∙ SL.sum_zero 𝟘

  -- a sum of multiples below s^N has no term that is not
  pub terms_below : (N : ℕ) (x : ℕ → ℕ → M) (h : ℕ → ℕ → M) → ((j : ℕ) → j < m → Polynomial o (x j))
      → ((i : ℕ) → i < n → h i ≡ total (series o) m (λ j. x j · u j i)) → Bounded o n N h → TermsBelow o m k N x
  terms_below N x h q e b = Leading.predictable o L n m u k u_bounded leading_independent N x q (λ i a. subst (Below o N) (e i a) (b i a))

  pub exactly_one_sum : (h : ℕ → ℕ → M) → PolynomialVector o n h → Syzygy o n r h → ExactlyOneSum o n m u h
  exactly_one_sum h q s = let x = generated h q s in Leading.exactly_one_sum o L n m u k u_bounded leading_independent h x.0 x.1 x.2

  -- m independent syzygies in order of degree have at least the degrees of the check columns
  pub least_degrees : (w : ℕ → ℕ → ℕ → M) → OrderedSyzygies o n m r w → (j : ℕ) → j < m → DegreeAtMost o n (u j) (w j)
  least_degrees w s j l N b = elim (dec_lt (k j) N) [
    | yes h ↦ (λ i a. B.below_mono o L (suc (k j)) N (u j i) h (u_bounded j l i a))
    | no h ↦ absurd (E.not_independent (series o) SL (Polynomial o) polynomials (suc j) n w (E.dependent_of_spanned (series o) SL (Polynomial o) polynomials j (suc j) n u w (le_refl (suc j)) (λ t e. spanned t e (omega arith))) (Spans.independent_prefix (series o) SL (Polynomial o) polynomials (suc j) m n w l s.independent))
  ]
    where
      spanned : (t : ℕ) → t < suc j → N ≤ k j → Spanned (series o) (Polynomial o) j n u (w t)
      spanned t e h =
          let a : t < m = omega arith in
          let x = generated (w t) (s.polynomials t a) (s.syzygies t a) in
          let small = terms_below N x.0 (w t) x.1 x.2 (never_fall_far o F n m w s.never_fall (j - t) t j (omega arith) l N b) in
          record {
            factor = x.0;
            inside = λ i g. x.1 i (omega arith);
            is = λ i g. x.2 i g ∙ Spans.total_truncate (series o) SL j m (λ q. x.0 q · u q i) (omega arith) (λ q z y. ap (λ g. g · u q i) (fun_ext (λ e. small q e y (higher q e z y h))) ∙ Sums.zero_product (series o) SL (u q i));
          }
        where
          higher : (q e : ℕ) → j ≤ q → q < m → N ≤ k j → N ≤ k q plus e
          higher q e z y h = elim (dec_lt j q) [
            | yes g ↦ (let x = degrees_rise j q g y in omega arith)
            | no g ↦ (let x = ap k (let same : j ≡ q = omega arith in same) in omega arith)
          ]

  -- the coefficients of a syzygy at its top power are a combination of the leading vectors of the check columns of no higher degree
  pub top_spanned : (N t : ℕ) → t ≤ m → ((l : ℕ) → t ≤ l → l < m → N < k l) → (h : ℕ → ℕ → M) → PolynomialVector o n h
      → Syzygy o n r h → Bounded o n (suc N) h → Spanned o All t n (λ l i. u l i (k l)) (λ i. h i N)
  top_spanned N t a high h q s b =
      let x = generated h q s in
      let small = terms_below (suc N) x.0 h x.1 x.2 b in
      record {
        factor = λ l. x.0 l (N - k l);
        inside = λ l e. tt;
        is = λ i e.
            ap (λ (g : ℕ → M). g N) (x.2 i e)
            ∙ Leading.sum_top o L n m u k u_bounded N x.0 small i e
            ∙ Spans.total_truncate o L t m (λ l. x.0 l (N - k l) ⊙ u l i (k l)) a (λ l y z. ap (λ g. g ⊙ u l i (k l)) (small l (N - k l) z (let w = high l y z in omega arith)) ∙ Sums.zero_product o L (u l i (k l)));
      }

  -- column 0 has least degree
  pub first_least : (h : ℕ → ℕ → M) → dot (series o) n r h ≡ 𝟙 → DegreeAtMost o n (c 0) h
  first_least h e N b = elim (dec_le (suc d) N) [
    | yes l ↦ (λ i a. B.below_mono o L (suc d) N (c 0 i) l (f.first_off.bounded i a))
    | no l ↦ (λ i a. subst (Below o N) (sym (same (omega arith) i a)) (Places.bounded_of_below_place n positive o Q N shorter (le_refl Q) shorter_below i a))
  ]
    where
      Q : ℕ
      Q = n * N

      lists : Spanned o All Q (suc (d plus d)) (place_list o n r) 𝟙
      lists = record { factor = at n h; inside = λ q l. tt; is = λ t l. ap (λ (g : ℕ → M). g t) (sym e) ∙ Places.dot_places o L n Q r h t positive (Places.below_place_of_bounded n positive o N h b) }

      s : Pivots.PivotalSpan o (suc (d plus d)) (place_list o n r) Q 𝟙
      s = Pivots.pivotal_span o F (suc (d plus d)) (place_list o n r) Q 𝟙 lists

      shorter : ℕ → ℕ → M
      shorter = spread n (Rows.cut o Q s.factor)

      shorter_below : BelowPlace o n Q shorter
      shorter_below i t a g = Rows.cut_high o Q s.factor (n * t plus i) g

      same : (N < suc d) → (i : ℕ) → i < n → c 0 i ≡ shorter i
      same g =
          let fits = mul-le-mul_left n (let z : N ≤ suc d = omega arith in z) in
          Frames.difference_zero o F m d r v (c 0) shorter f.first_off.bounded
          (Places.bounded_of_below_place n positive o Q (suc d) shorter fits shorter_below)
          (λ i t a q z. f.first_off.zero_off i t a q z (λ x. x) ∙ sym (off (n * t plus i) z (dec_lt (n * t plus i) Q)))
          (f.first ∙ sym (Syzygies.vector_of_relation o F n positive d r v.bounded Q s.factor 𝟙 fits (B.below_mono o L 1 (suc (d plus d)) 𝟙 (omega arith) (B.below_constant o L I)) (λ t a. sym (s.is t a))))
        where
          off : (q : ℕ) → NonPivotal o n d r q → Dec (q < Q) → Rows.cut o Q s.factor q ≡ O
          off q z (yes a) = Rows.cut_low o Q s.factor q a ∙ s.off q a z
          off q z (no a) = Rows.cut_high o Q s.factor q (omega arith)

  -- the check degrees add up to d
  pub check_degrees_sum : Combination o n r 𝟙 → sum_below m k ≡ d
  check_degrees_sum one =
      Counting.sum_ext m k (λ j. Basics.basic_place o F m d r v j / n) (λ j l. ap (λ t. t / n) (Frames.places_unique o F m d r v p (Basics.basic_place o F m d r v) f.places (Basics.basic_places o F m d r v) j l))
      ∙ Basics.basic_powers_sum o F m d r v one

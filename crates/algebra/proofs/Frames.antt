-- The frame columns of a row of m + 1 polynomials of which some combination is 1. Main results: frame_columns_exist, frame_columns_unique,
-- check_below and check_leading (the j-th basic place is the leading place of check column j).
use mathlib.Core.Path.{◌≡◌, sym, ap, ap₂, ◌∙◌, subst, fun_ext}
use Prim.Native.Nat.{ℕ, zero, suc, ◌≤◌, ◌<◌, zero-le, suc-le-suc, ◌*◌, ◌/◌, ◌%◌, ◌-◌, ◌+◌ as ◌plus◌}
use native.Mathlib.Nat.{le_of_suc-le-suc, le_refl, le_antisymm, mod-lt, div-add-mod}
use native.Mathlib.Decide.{dec_lt, ℕ_discrete}
use native.Mathlib.Omega.{arith}
use Rattle.algebra.specs.Rings.{RingOps, RingLaws, IsField}
use Rattle.algebra.specs.Series.{dot, series}
use Rattle.algebra.specs.Divisors.{Bounded, Combination, VectorDegree}
use Rattle.algebra.specs.Independence.{All, Spanned}
use Rattle.algebra.specs.Places.{place_list, NonPivotal, Basic, BasicPlaces}
use Rattle.algebra.specs.Frames.{ZeroOffPivotal, FrameColumns}
use Rattle.algebra.proofs.Rows as Rows
use Rattle.algebra.proofs.Sums as Sums
use Rattle.algebra.proofs.Series as S
use Rattle.algebra.proofs.Bounds as B
use Rattle.algebra.proofs.Spans as Spans
use Rattle.algebra.proofs.Pivots as Pivots
use Rattle.algebra.proofs.DividedRow as R
use Rattle.algebra.proofs.Places as Places
use Rattle.algebra.proofs.Places.{at, spread, BelowPlace}
use Rattle.algebra.proofs.Syzygies as Syzygies
use Rattle.algebra.proofs.Classes as Classes
use Rattle.algebra.proofs.BasicPlaces as Basics

-- a strictly rising function is nowhere behind its argument
rising_ahead : (m : ℕ) (f : ℕ → ℕ) → ((i j : ℕ) → i < j → j < m → f i < f j) → (j : ℕ) → j < m → j ≤ f j
rising_ahead m f r zero l = zero-le
rising_ahead m f r (suc j) l = let h = rising_ahead m f r j (omega arith) in let e = r j (suc j) (le_refl (suc j)) l in omega arith

-- of two rising lists of m numbers, the first among the second, the first is nowhere behind
rising_le : (m : ℕ) (p t : ℕ → ℕ) → ((i j : ℕ) → i < j → j < m → p i < p j) → ((i j : ℕ) → i < j → j < m → t i < t j)
    → ((j : ℕ) → j < m → (k : ℕ) × (k < m) × (t k ≡ p j)) → (j : ℕ) → j < m → t j ≤ p j
rising_le m p t rp rt among j l = at_least j l (rising_ahead m f f_rising j l)
  where
    f : ℕ → ℕ
    f a = elim (dec_lt a m) [ yes h ↦ (among a h).0 | no h ↦ a ]

    f_props : (a : ℕ) → a < m → (f a < m) × (t (f a) ≡ p a)
    f_props a h = go (dec_lt a m)
      where
        go : (x : Dec (a < m))
            → ((elim x as (λ (y : Dec (a < m)). ℕ) [ yes b ↦ (among a b).0 | no b ↦ a ]) < m) × (t (elim x as (λ (y : Dec (a < m)). ℕ) [ yes b ↦ (among a b).0 | no b ↦ a ]) ≡ p a)
        go (yes b) = ((among a b).1, (among a b).2)
        go (no b) = absurd (b h)

    f_rising : (i j : ℕ) → i < j → j < m → f i < f j
    f_rising i j h b =
        let x = f_props i (omega arith) in
        let y = f_props j b in
        elim (dec_lt (f i) (f j)) [ yes e ↦ e | no e ↦ absurd (backwards i j h b x.1 y.1 x.0 (omega arith)) ]
      where
        backwards : (i j : ℕ) → i < j → j < m → t (f i) ≡ p i → t (f j) ≡ p j → f i < m → f j ≤ f i → ⊥
        backwards i j h b x y c le = elim (dec_lt (f j) (f i)) [
          | yes less ↦ (let q = rt (f j) (f i) less c in let s = rp i j h b in omega arith)
          | no same ↦ (let q : f j ≡ f i = omega arith in let s = rp i j h b in let z = ap t q in omega arith)
        ]

    at_least : (j : ℕ) → j < m → j ≤ f j → t j ≤ p j
    at_least j l h =
        let x = f_props j l in
        elim (dec_lt j (f j)) [
          | yes less ↦ (let q = rt j (f j) less x.0 in let s = x.1 in omega arith)
          | no same ↦ (let q : j ≡ f j = omega arith in let z = ap t q in let s = x.1 in omega arith)
        ]

-- what makes h the check column of the basic place p
record CheckColumn {M : Type 0} (o : RingOps M) (n d : ℕ) (r : ℕ → ℕ → M) (p : ℕ) (h : ℕ → ℕ → M) : Type 0 where
  off : ZeroOffPivotal o n d r (λ q. q ≡ p) h
  one : (i k : ℕ) → i < n → n * k plus i ≡ p → h i k ≡ o.one
  is : dot (series o) n r h ≡ (series o).zero

module _ {M : Type 0} (o : RingOps M) (F : IsField o) (m d : ℕ) (r : ℕ → ℕ → M) (v : VectorDegree o (suc m) r d) where
  abbrev L : RingLaws o
  L = F.laws.ring

  abbrev SL : RingLaws (series o)
  SL = S.series_laws o L

  abbrev n : ℕ
  n = suc m

  abbrev places : ℕ
  places = n * suc d

  abbrev width : ℕ
  width = suc (d plus d)

  open o use {zero as O, one as I, product as ◌⊙◌, sum as ◌⊕◌, negative as minus}
  open series o use {zero as 𝟘, one as 𝟙, sum as ◌+◌, negative as -◌, product as ◌·◌}

  infixl 60 ◌+◌
  infixl 60 ◌⊕◌
  infixl 70 ◌·◌
  infixl 70 ◌⊙◌
  infix 80 -◌
  positive : zero < n
  positive = suc-le-suc zero-le

  -- a vector that is zero off the pivotal places and whose product is zero is zero
  pivotal_vector_zero : (h : ℕ → ℕ → M) → Bounded o n (suc d) h
      → ((i k : ℕ) → i < n → k < suc d → NonPivotal o n d r (n * k plus i) → h i k ≡ O) → dot (series o) n r h ≡ 𝟘
      → (i : ℕ) → i < n → h i ≡ 𝟘
  pivotal_vector_zero h b off e i a = fun_ext (λ k. coefficient k (dec_lt k (suc d)))
    where
      at_zero : (q : ℕ) → q < places → at n h q ≡ O
      at_zero =
          Pivots.pivotal_unique o F width (place_list o n r) places (at n h)
          (λ q l s. off (q % n) (q / n) (mod-lt q positive) (Classes.power_within o F n positive d r v q l) (subst (NonPivotal o n d r) (sym (div-add-mod q n)) s))
          (λ k l. sym (Places.dot_places o L n places r h k positive (Places.below_place_of_bounded n positive o (suc d) h b)) ∙ ap (λ (f : ℕ → M). f k) e)

      coefficient : (k : ℕ) → Dec (k < suc d) → h i k ≡ O
      coefficient k (yes l) = sym (Places.at_place n positive h i k a) ∙ at_zero (n * k plus i) (Classes.place_within o F n positive d r v k i a l)
      coefficient k (no l) = b i a k (omega arith)

  pub difference_zero : (h e : ℕ → ℕ → M) → Bounded o n (suc d) h → Bounded o n (suc d) e
      → ((i k : ℕ) → i < n → k < suc d → NonPivotal o n d r (n * k plus i) → h i k ≡ e i k)
      → dot (series o) n r h ≡ dot (series o) n r e → (i : ℕ) → i < n → h i ≡ e i
  difference_zero h e b c off p i a =
      Sums.equal_of_difference (series o) SL (h i) (e i)
      (pivotal_vector_zero (λ j. h j + (- e j))
      (λ j l. B.below_sum o L (suc d) (h j) (- e j) (b j l) (B.below_negative o L (suc d) (e j) (c j l)))
      (λ j k l f s. ap (λ t. t ⊕ minus (e j k)) (off j k l f s) ∙ L.sum_negative (e j k))
      (Spans.dot_sum (series o) SL n r h (λ j. - e j) ∙ ap₂ ◌+◌ p (Spans.dot_negative (series o) SL n r e) ∙ SL.sum_negative (dot (series o) n r e))
      i a)

  check_unique : (p : ℕ) (h e : ℕ → ℕ → M) → CheckColumn o n d r p h → CheckColumn o n d r p e → (i : ℕ) → i < n → h i ≡ e i
  check_unique p h e x y = difference_zero h e x.off.bounded y.off.bounded (λ i k a l s. same i k a l s (ℕ_discrete (n * k plus i) p)) (x.is ∙ sym y.is)
    where
      same : (i k : ℕ) → i < n → k < suc d → NonPivotal o n d r (n * k plus i) → Dec (n * k plus i ≡ p) → h i k ≡ e i k
      same i k a l s (yes q) = x.one i k a q ∙ sym (y.one i k a q)
      same i k a l s (no q) = x.off.zero_off i k a l s q ∙ sym (y.off.zero_off i k a l s q)

  -- the check column of a basic place
  check_exists : (p : ℕ) → Basic o n d r p → (h : ℕ → ℕ → M) × CheckColumn o n d r p h × BelowPlace o n (suc p) h
  check_exists p b =
      let s = Pivots.pivotal_span o F width (place_list o n r) p (place_list o n r p) b.non_pivotal in
      let x = Rows.slot p I (λ j. minus (s.factor j)) in
      let below : BelowPlace o n (suc p) (spread n (Rows.cut o (suc p) x)) = λ i k a l. Rows.cut_high o (suc p) x (n * k plus i) l in (
        spread n (Rows.cut o (suc p) x),
        record {
          off = record {
            bounded = Places.bounded_of_below_place n positive o (suc p) (suc d) (spread n (Rows.cut o (suc p) x)) b.within below;
            zero_off = λ i k a l t ne. elim (dec_lt (n * k plus i) p) [
              | yes less ↦ Rows.cut_low o (suc p) x (n * k plus i) (omega arith) ∙ Rows.slot_low p I (λ j. minus (s.factor j)) (n * k plus i) less ∙ ap minus (s.off (n * k plus i) less t) ∙ Sums.negative_zero o L
              | no more ↦ Rows.cut_high o (suc p) x (n * k plus i) (above (n * k plus i) ne more)
            ];
          };
          one = λ i k a e. Rows.cut_low o (suc p) x (n * k plus i) (omega arith) ∙ ap x e ∙ Rows.slot_at p I (λ j. minus (s.factor j));
          is = Syzygies.relation_syzygy o F n positive d r v.bounded p s.factor b.within s.is;
        },
        below,
      )
    where
      above : (q : ℕ) → (q ≡ p → ⊥) → (q < p → ⊥) → suc p ≤ q
      above q ne more = elim (dec_lt p q) [ yes h ↦ h | no h ↦ absurd (ne (omega arith)) ]

  module _ (one : Combination o n r 𝟙) where
    -- column 0
    first_exists : (h : ℕ → ℕ → M) × ZeroOffPivotal o n d r (λ q. ⊥) h × (dot (series o) n r h ≡ 𝟙)
    first_exists =
        let b = R.small_combination o F n d r (λ i l. (suc d, v.bounded i l)) one v 𝟙 (B.below_mono o L 1 width 𝟙 (omega arith) (B.below_constant o L I)) in
        let lists : Spanned o All places width (place_list o n r) 𝟙 = record {
          factor = at n b.vector;
          inside = λ q l. tt;
          is = λ k l. ap (λ (f : ℕ → M). f k) (sym b.is) ∙ Places.dot_places o L n places r b.vector k positive (Places.below_place_of_bounded n positive o (suc d) b.vector b.bounded);
        } in
        let s = Pivots.pivotal_span o F width (place_list o n r) places 𝟙 lists in
        let x = s.factor in (
          spread n (Rows.cut o places x),
          record {
            bounded = Places.bounded_of_below_place n positive o places (suc d) (spread n (Rows.cut o places x)) (le_refl places) (λ i k a l. Rows.cut_high o places x (n * k plus i) l);
            zero_off = λ i k a l t ne. let w = Classes.place_within o F n positive d r v k i a l in Rows.cut_low o places x (n * k plus i) w ∙ s.off (n * k plus i) w t;
          },
          Syzygies.vector_of_relation o F n positive d r v.bounded places x 𝟙 (le_refl places) (B.below_mono o L 1 width 𝟙 (omega arith) (B.below_constant o L I)) (λ k l. sym (s.is k l)),
        )

    checks : (z : ℕ → ℕ → ℕ → M) × ((j : ℕ) → j < m → CheckColumn o n d r (Basics.basic_place o F m d r v j) (z j))
    checks = Rows.choose {A = ℕ → ℕ → M} (λ j h. CheckColumn o n d r (Basics.basic_place o F m d r v j) h) (λ i. 𝟘) m (λ j l. let x = check_exists (Basics.basic_place o F m d r v j) ((Basics.basic_places o F m d r v).basic j l) in (x.0, x.1))

    pub frame_columns_exist : (p : ℕ → ℕ) × (c : ℕ → ℕ → ℕ → M) × FrameColumns o m d r p c
    frame_columns_exist =
        let f = first_exists in
        let z = checks in (
          Basics.basic_place o F m d r v,
          Rows.slot 0 f.0 z.0,
          record {
            places = Basics.basic_places o F m d r v;
            first_off = f.1;
            first = f.2;
            check_off = λ j l. (z.1 j l).off;
            check_one = λ j i k l. (z.1 j l).one i k;
            check = λ j l. (z.1 j l).is;
          },
        )

  check_of : (p : ℕ → ℕ) (c : ℕ → ℕ → ℕ → M) → FrameColumns o m d r p c → (j : ℕ) → j < m → CheckColumn o n d r (p j) (c (suc j))
  check_of p c f j l = record { off = f.check_off j l; one = λ i k. f.check_one j i k l; is = f.check j l }

  -- the basic places in rising order are one list
  pub places_unique : (p t : ℕ → ℕ) → BasicPlaces o n d r m p → BasicPlaces o n d r m t → (j : ℕ) → j < m → p j ≡ t j
  places_unique p t x y j l =
      le_antisymm
      (rising_le m t p y.rising x.rising (λ k h. x.every (t k) (y.basic k h)) j l)
      (rising_le m p t x.rising y.rising (λ k h. y.every (p k) (x.basic k h)) j l)

  pub frame_columns_unique : (p t : ℕ → ℕ) (c e : ℕ → ℕ → ℕ → M) → FrameColumns o m d r p c → FrameColumns o m d r t e
      → (j i : ℕ) → j < suc m → i < n → c j i ≡ e j i
  frame_columns_unique p t c e x y zero i l a = difference_zero (c 0) (e 0) x.first_off.bounded y.first_off.bounded (λ b k f h s. x.first_off.zero_off b k f h s (λ z. z) ∙ sym (y.first_off.zero_off b k f h s (λ z. z))) (x.first ∙ sym y.first) i a
  frame_columns_unique p t c e x y (suc j) i l a =
      let h = le_of_suc-le-suc l in
      check_unique (p j) (c (suc j)) (e (suc j)) (check_of p c x j h) (subst (λ (q : ℕ). CheckColumn o n d r q (e (suc j))) (sym (places_unique p t x.places y.places j h)) (check_of t e y j h)) i a

  -- the leading place of check column j is the j-th basic place
  pub check_below : (p : ℕ → ℕ) (c : ℕ → ℕ → ℕ → M) → FrameColumns o m d r p c → (j : ℕ) → j < m → BelowPlace o n (suc (p j)) (c (suc j))
  check_below p c f j l i k a h =
      let x = check_exists (p j) (f.places.basic j l) in
      ap (λ (t : ℕ → M). t k) (check_unique (p j) (c (suc j)) x.0 (check_of p c f j l) x.1 i a) ∙ x.2 i k a h

  pub check_leading : (p : ℕ → ℕ) (c : ℕ → ℕ → ℕ → M) → FrameColumns o m d r p c → (j : ℕ) → j < m → at n (c (suc j)) (p j) ≡ I
  check_leading p c f j l = f.check_one j (p j % n) (p j / n) l (mod-lt (p j) positive) (div-add-mod (p j) n)

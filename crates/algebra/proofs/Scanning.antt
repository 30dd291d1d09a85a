-- Walking the places of a row in order. Main results: scanned_start, scanned_skip, scanned_pivot and scanned_basic (what is known, from one place to the
-- next), scanned_end (the m basic places are found), unit_spanned and rank_is (the 2d + 1 pivotal lists make the unit list), read_off (the columns read off are
-- the frame columns), read_off_is_frame, check_degree and first_degree.
use mathlib.Core.Bool.{Bool, true, false, true≢false}
use mathlib.Core.Path.{◌≡◌, refl, sym, ap, ap₂, ◌∙◌, subst, fun_ext}
use mathlib.Core.Logic.{◌⊎◌, inl, inr}
use Prim.Native.Nat.{ℕ, zero, suc, ◌≤◌, ◌<◌, zero-le, suc-le-suc, ◌*◌, ◌/◌, ◌%◌, ◌-◌, ◌+◌ as ◌plus◌}
use native.Mathlib.Nat.{le_of_suc-le-suc, not-suc-le-zero, le_refl, le_antisymm, eq-or-lt_of_le, mod-lt, div-add-mod, mul-add, mul-suc, mul-le-mul_left}
use native.Mathlib.Decide.{dec_lt, ℕ_discrete}
use native.Mathlib.Omega.{arith}
use Rattle.algebra.specs.Rings.{RingOps, RingLaws, IsField}
use Rattle.algebra.specs.Series.{total, dot, series, Below}
use Rattle.algebra.specs.Independence.{All, Domain, Spanned, Independent, Solution}
use Rattle.algebra.specs.Divisors.{Bounded, AllZero, Combination, DividedRow, MonicGcd, VectorDegree}
use Rattle.algebra.specs.Places.{place_list, NonPivotal, Pivotal, Basic, BasicPlaces}
use Rattle.algebra.specs.Frames.{ZeroOffPivotal, FrameColumns, IsFrame}
use Rattle.algebra.specs.Scanning.{InClass, Scanned, AtPivots, ReadOff}
use Rattle.algebra.proofs.Rows as Rows
use Rattle.algebra.proofs.Sums as Sums
use Rattle.algebra.proofs.Series as S
use Rattle.algebra.proofs.Bounds as Bounds
use Rattle.algebra.proofs.Degrees as Degrees
use Rattle.algebra.proofs.Exchange as Exchange
use Rattle.algebra.proofs.Spans as Spans
use Rattle.algebra.proofs.Pivots as Pivots
use Rattle.algebra.proofs.DividedRow as R
use Rattle.algebra.proofs.Places as Places
use Rattle.algebra.proofs.Places.{at}
use Rattle.algebra.proofs.Reduction as Reduction
use Rattle.algebra.proofs.Syzygies as Syzygies
use Rattle.algebra.proofs.Classes as Classes
use Rattle.algebra.proofs.BasicPlaces as Basics
use Rattle.algebra.proofs.Optimal as Optimal

-- what holds below k and at k holds below k + 1
up_to : (Q : ℕ → Type 0) (k : ℕ) → ((t : ℕ) → t < k → Q t) → Q k → (t : ℕ) → t < suc k → Q t
up_to Q k below here t l = elim (eq-or-lt_of_le (le_of_suc-le-suc l)) [ inl same ↦ subst Q (sym same) here | inr less ↦ below t less ]

-- rising numbers with a larger one behind them
rising_more : (k : ℕ) (f g : ℕ → ℕ) (x : ℕ) → ((i j : ℕ) → i < j → j < k → f i < f j) → ((j : ℕ) → j < k → f j < x)
    → ((j : ℕ) → j < k → g j ≡ f j) → g k ≡ x → (i j : ℕ) → i < j → j < suc k → g i < g j
rising_more k f g x rising less same here i j h l =
    up_to (λ j. i < j → g i < g j) k
    (λ t b a. let e = same i (omega arith) in let z = same t b in let w = rising i t a b in omega arith)
    (λ a. let e = same i a in let w = less i a in omega arith)
    j l h

-- of two rising lists of numbers, the first among the second, the first is nowhere behind
rising_nowhere_behind : (b m : ℕ) (f g : ℕ → ℕ) → ((i j : ℕ) → i < j → j < b → f i < f j) → ((i j : ℕ) → i < j → j < m → g i < g j)
    → ((j : ℕ) → j < b → (k : ℕ) × (k < m) × (g k ≡ f j)) → (j k : ℕ) → j < b → k < m → g k ≡ f j → j ≤ k
rising_nowhere_behind b m f g rising_f rising_g among zero k l a e = zero-le
rising_nowhere_behind b m f g rising_f rising_g among (suc j) k l a e =
    let x = among j (omega arith) in
    go x.0 x.1 x.2 (rising_nowhere_behind b m f g rising_f rising_g among j x.0 (omega arith) x.1 x.2) (rising_f j (suc j) (le_refl (suc j)) l)
  where
    go : (i : ℕ) → i < m → g i ≡ f j → j ≤ i → f j < f (suc j) → suc j ≤ k
    go i w same low less = elim (dec_lt i k) [
      | yes h ↦ omega arith
      | no h ↦ elim (dec_lt k i) [
        | yes h' ↦ absurd (let z = rising_g k i h' w in omega arith)
        | no h' ↦ absurd (let z : i ≡ k = omega arith in let y = ap g z in omega arith)
      ]
    ]

-- so it is no longer
rising_no_longer : (b m : ℕ) (f g : ℕ → ℕ) → ((i j : ℕ) → i < j → j < b → f i < f j) → ((i j : ℕ) → i < j → j < m → g i < g j)
    → ((j : ℕ) → j < b → (k : ℕ) × (k < m) × (g k ≡ f j)) → b ≤ m
rising_no_longer zero m f g rising_f rising_g among = zero-le
rising_no_longer (suc b) m f g rising_f rising_g among =
    let x = among b (le_refl (suc b)) in
    let low = rising_nowhere_behind (suc b) m f g rising_f rising_g among b x.0 (le_refl (suc b)) x.1 x.2 in
    let lt = x.1 in
    omega arith

-- zero where A holds, x elsewhere
abbrev cleared : {M : Type 0} {A : Type 0} → RingOps M → Dec A → M → M
cleared o (yes a) x = o.zero
cleared o (no a) x = x

cleared_yes : {M : Type 0} {A : Type 0} (o : RingOps M) (x : Dec A) (y : M) → A → cleared o x y ≡ o.zero
cleared_yes o (yes a) y h = refl
cleared_yes o (no a) y h = absurd (a h)

cleared_no : {M : Type 0} {A : Type 0} (o : RingOps M) (x : Dec A) (y : M) → (A → ⊥) → cleared o x y ≡ y
cleared_no o (yes a) y h = absurd (h a)
cleared_no o (no a) y h = refl

module _ {M : Type 0} (o : RingOps M) (L : RingLaws o) where
  open o use {zero as O, sum as ◌+◌}

  infixl 60 ◌+◌
  -- a sum whose terms are zero but at rising places is the sum over these
  pub total_at_places : (rank Q : ℕ) (P : ℕ → ℕ) (f : ℕ → M) → ((s t : ℕ) → s < t → t < rank → P s < P t) → ((t : ℕ) → t < rank → P t < Q)
      → ((q : ℕ) → q < Q → ((t : ℕ) → t < rank → P t ≡ q → ⊥) → f q ≡ O) → total o Q f ≡ total o rank (λ t. f (P t))
  total_at_places zero Q P f rising below off = Sums.total_zero o L Q f (λ q l. off q l (λ t a. absurd (not-suc-le-zero a)))
  total_at_places (suc T) Q P f rising below off =
      let last = below T (le_refl (suc T)) in
      Spans.total_truncate o L (suc (P T)) Q f last (λ q a l. off q l (λ t c e. let z = not_above t c in omega arith))
      ∙ Sums.total_last o L (P T) f
      ∙ ap (λ x. x + f (P T)) (total_at_places T (P T) P f (λ s t a l. rising s t a (omega arith)) (λ t l. rising t T l (le_refl (suc T))) (λ q l others. off q (omega arith) (up_to (λ t. P t ≡ q → ⊥) T others (λ e. omega arith))))
      ∙ sym (Sums.total_last o L T (λ t. f (P t)))
    where
      not_above : (t : ℕ) → t < suc T → P t ≤ P T
      not_above = up_to (λ t. P t ≤ P T) T (λ t l. let z = rising t T l (le_refl (suc T)) in omega arith) (le_refl (P T))

  -- a sum with one term set to zero
  pub total_apart : (Q p : ℕ) (f g : ℕ → M) → p < Q → ((q : ℕ) → q < Q → (q ≡ p → ⊥) → f q ≡ g q) → g p ≡ O → total o Q f ≡ f p + total o Q g
  total_apart zero p f g l same z = absurd (not-suc-le-zero l)
  total_apart (suc Q) p f g l same z =
      Sums.total_skip o L Q p f l
      ∙ ap (λ x. f p + x)
      (Sums.total_ext o L Q (λ j. f (Rows.skip p j)) (λ j. g (Rows.skip p j)) (λ j a. same (Rows.skip p j) (Rows.skip_lt p Q j a) (Rows.skip_ne p j))
      ∙ sym (Sums.zero_sum o L (total o Q (λ j. g (Rows.skip p j))))
      ∙ ap (λ x. x + total o Q (λ j. g (Rows.skip p j))) (sym z)
      ∙ sym (Sums.total_skip o L Q p g l))

module _ {M : Type 0} (o : RingOps M) (F : IsField o) (m d : ℕ) (r : ℕ → ℕ → M) (v : VectorDegree o (suc m) r d) where
  abbrev L : RingLaws o
  L = F.laws.ring

  abbrev members : Domain o All
  members = Exchange.domain_of_field o F

  abbrev n : ℕ
  n = suc m

  positive : zero < n
  positive = suc-le-suc zero-le

  abbrev places : ℕ
  places = n * suc d

  abbrev width : ℕ
  width = suc (d plus d)

  abbrev list : ℕ → ℕ → M
  list = place_list o n r

  abbrev lists : (ℕ → ℕ) → ℕ → ℕ → M
  lists P t = list (P t)

  -- a combination of lists below q is one of all lists below q
  spanned_below : (q rank : ℕ) (P : ℕ → ℕ) (y : ℕ → M) → ((t : ℕ) → t < rank → P t < q) → Spanned o All rank width (lists P) y → Spanned o All q width list y
  spanned_below q rank P y below = Spans.spanned_trans o L All members q rank width list (lists P) y (λ t l. Exchange.spanned_self o L All members q width list (P t) (below t l))

  -- rising pivotal places are at most 2d + 1
  pub pivots_at_most : (T : ℕ) (P : ℕ → ℕ) → ((t : ℕ) → t < T → Pivotal o n d r (P t)) → ((s t : ℕ) → s < t → t < T → P s < P t) → T ≤ width
  pivots_at_most T P pivotal rising = elim (dec_lt width T) [
    | yes l ↦ absurd (go (Exchange.exchange o L All members width T (λ k t. list (P t) k) l (λ i j a b. tt)))
    | no l ↦ omega arith
  ]
    where
      go : Solution o All width T (λ k t. list (P t) k) → ⊥
      go s =
          let x = s.unknown in
          s.not_all_zero.nonzero
          (Pivots.pivotal_unique o F width (lists P) T x (λ t l p. absurd (pivotal t l (spanned_below (P t) t P (list (P t)) (λ j a. rising j t a l) p)))
          (λ k b. Sums.total_ext o L T (λ t. o.product (x t) (list (P t) k)) (λ t. o.product (list (P t) k) (x t)) (λ t a. L.product_comm (x t) (list (P t) k)) ∙ s.solves k b)
          s.not_all_zero.place s.not_all_zero.within)

  -- rising basic places are at most m
  pub basics_at_most : (T : ℕ) (B : ℕ → ℕ) → ((j : ℕ) → j < T → Basic o n d r (B j)) → ((i j : ℕ) → i < j → j < T → B i < B j) → T ≤ m
  basics_at_most T B basic rising =
      let known = Basics.basic_places o F m d r v in
      rising_no_longer T m B (Basics.basic_place o F m d r v) rising known.rising (λ j l. known.every (B j) (basic j l))

  -- nothing has been walked
  pub scanned_start : (P B : ℕ → ℕ) (E : ℕ → ℕ → M) (found : ℕ → Bool) → ((i : ℕ) → i < n → found i ≡ false) → Scanned o n d r 0 0 P 0 B E found
  scanned_start P B E found none = record {
    pivotal = λ t l. absurd (not-suc-le-zero l);
    pivots_walked = λ t l. absurd (not-suc-le-zero l);
    pivots_rising = λ s t h l. absurd (not-suc-le-zero l);
    spanned = λ p l. absurd (not-suc-le-zero l);
    basic = λ j l. absurd (not-suc-le-zero l);
    basics_walked = λ j l. absurd (not-suc-le-zero l);
    basics_rising = λ i j h l. absurd (not-suc-le-zero l);
    every = λ p l. absurd (not-suc-le-zero l);
    made = λ j k l. absurd (not-suc-le-zero l);
    earlier = λ j t l. absurd (not-suc-le-zero l);
    has = λ i l e. absurd (true≢false (sym e ∙ none i l));
    has_not = λ i l e s. absurd (not-suc-le-zero s.1);
  }

  module _ (q rank : ℕ) (P : ℕ → ℕ) (b : ℕ) (B : ℕ → ℕ) (E : ℕ → ℕ → M) (found : ℕ → Bool) (s : Scanned o n d r q rank P b B E found) where
    -- the list of a non-pivotal place is a sum of multiples of the lists at the pivotal places found
    pub spanned_by_found : NonPivotal o n d r q → Spanned o All rank width (lists P) (list q)
    spanned_by_found = Spans.spanned_trans o L All members rank q width (lists P) list (list q) s.spanned

    -- no more than 2d + 1 are found
    pub rank_at_most : rank ≤ width
    rank_at_most = pivots_at_most rank P s.pivotal s.pivots_rising

    -- what is known depends on the places, multipliers and classes found only
    pub scanned_same : (P' B' : ℕ → ℕ) (E' : ℕ → ℕ → M) (found' : ℕ → Bool)
        → ((t : ℕ) → t < rank → P' t ≡ P t) → ((j : ℕ) → j < b → B' j ≡ B j)
        → ((j t : ℕ) → j < b → t < width → E' j t ≡ E j t) → ((i : ℕ) → i < n → found' i ≡ found i)
        → Scanned o n d r q rank P' b B' E' found'
    scanned_same P' B' E' found' P-same B-same E-same found_same = record {
      pivotal = λ t l. subst (Pivotal o n d r) (sym (P-same t l)) (s.pivotal t l);
      pivots_walked = λ t l. let e = P-same t l in let f = s.pivots_walked t l in omega arith;
      pivots_rising = λ i t h l. let e = P-same i (omega arith) in let f = P-same t l in let g = s.pivots_rising i t h l in omega arith;
      spanned = λ p l. let x = s.spanned p l in record {
        factor = x.factor;
        inside = λ t a. tt;
        is = λ k a. x.is k a ∙ Sums.total_ext o L rank (λ t. o.product (x.factor t) (list (P t) k)) (λ t. o.product (x.factor t) (list (P' t) k)) (λ t c. ap (λ z. o.product (x.factor t) (list z k)) (sym (P-same t c)));
      };
      basic = λ j l. subst (Basic o n d r) (sym (B-same j l)) (s.basic j l);
      basics_walked = λ j l. let e = B-same j l in let f = s.basics_walked j l in omega arith;
      basics_rising = λ i j h l. let e = B-same i (omega arith) in let f = B-same j l in let g = s.basics_rising i j h l in omega arith;
      every = λ p l c. let x = s.every p l c in (x.0, x.1, B-same x.0 x.1 ∙ x.2);
      made = λ j k l a.
          ap (λ z. list z k) (B-same j l)
          ∙ s.made j k l a
          ∙ Sums.total_ext o L rank (λ t. o.product (E j t) (list (P t) k)) (λ t. o.product (E' j t) (list (P' t) k)) (λ t c. let w = rank_at_most in ap₂ (λ y z. o.product y (list z k)) (sym (E-same j t l (omega arith))) (sym (P-same t c)));
      earlier = λ j t l a no_earlier. E-same j t l a ∙ s.earlier j t l a (λ c e. no_earlier c (let f = P-same t c in let g = B-same j l in omega arith));
      has = λ i l e. let x = s.has i l (sym (found_same i l) ∙ e) in (x.0, x.1, ap (λ z. z % n) (B-same x.0 x.1) ∙ x.2);
      has_not = λ i l e x. s.has_not i l (sym (found_same i l) ∙ e) (x.0, x.1, ap (λ z. z % n) (sym (B-same x.0 x.1)) ∙ x.2);
    }

    -- a place whose class has a basic place
    pub scanned_skip : found (q % n) ≡ true → Scanned o n d r (suc q) rank P b B E found
    scanned_skip known =
        let j = s.has (q % n) (mod-lt q positive) known in
        let p = B j.0 in
        let walked = s.basics_walked j.0 j.1 in
        let basic = s.basic j.0 j.1 in
        let k = p / n in
        let same_class = j.2 in
        let whole = div-add-mod q n in
        let whole_p = div-add-mod p n in
        let same : n * k plus q % n ≡ p = omega arith in
        let le : k ≤ q / n = Reduction.power_le o F n positive k (q / n) (q % n) (mod-lt q positive) (omega arith) in
        let non_pivotal : NonPivotal o n d r q = subst (NonPivotal o n d r) whole (Classes.nonpivotal_above o F n positive d r v (q % n) k (q / n) (mod-lt q positive) le (Classes.power_within o F n positive d r v p basic.within) (subst (NonPivotal o n d r) (sym same) basic.non_pivotal)) in
        record {
          pivotal = s.pivotal;
          pivots_walked = λ t l. let e = s.pivots_walked t l in omega arith;
          pivots_rising = s.pivots_rising;
          spanned = up_to (λ p. Spanned o All rank width (lists P) (list p)) q s.spanned (spanned_by_found non_pivotal);
          basic = s.basic;
          basics_walked = λ t l. let e = s.basics_walked t l in omega arith;
          basics_rising = s.basics_rising;
          every = up_to (λ p. Basic o n d r p → (j : ℕ) × (j < b) × (B j ≡ p)) q s.every (λ c. absurd (not_basic p k le same walked basic.non_pivotal c));
          made = s.made;
          earlier = s.earlier;
          has = s.has;
          has_not = s.has_not;
        }
      where
        not_basic : (p k : ℕ) → k ≤ q / n → n * k plus q % n ≡ p → p < q → NonPivotal o n d r p → Basic o n d r q → ⊥
        not_basic p k le same walked non_pivotal c =
            let whole = div-add-mod q n in
            let k_less : k < q / n = elim (eq-or-lt_of_le le) [ inl e ↦ absurd (let f = ap (λ t. n * t) e in omega arith) | inr e ↦ e ] in
            let e = q / n - suc k in
            let split : q / n ≡ k plus suc e = omega arith in
            let powers = ap (λ t. n * t) split ∙ mul-add n k (suc e) in
            c.first p e non_pivotal (omega arith)

    -- a place whose list is no sum of multiples of the lists at the pivotal places found
    pub scanned_pivot : (P' : ℕ → ℕ) → ((t : ℕ) → t < rank → P' t ≡ P t) → P' rank ≡ q
        → (Spanned o All rank width (lists P) (list q) → ⊥) → Scanned o n d r (suc q) (suc rank) P' b B E found
    scanned_pivot P' same here unspanned =
        record {
          pivotal = pivotal;
          pivots_walked = up_to (λ t. P' t < suc q) rank (λ t l. let e = s.pivots_walked t l in let f = same t l in omega arith) (omega arith);
          pivots_rising = rising;
          spanned = up_to (λ p. Spanned o All (suc rank) width (lists P') (list p)) q
              (λ p l. Spans.spanned_trans o L All members (suc rank) rank width (lists P') (lists P) (list p) (λ t a. subst (λ x. Spanned o All (suc rank) width (lists P') (list x)) (same t a) (itself t (omega arith))) (s.spanned p l))
              (subst (λ x. Spanned o All (suc rank) width (lists P') (list x)) here (itself rank (le_refl (suc rank))));
          basic = s.basic;
          basics_walked = λ j l. let e = s.basics_walked j l in omega arith;
          basics_rising = s.basics_rising;
          every = up_to (λ p. Basic o n d r p → (j : ℕ) × (j < b) × (B j ≡ p)) q s.every (λ c. absurd (new c.non_pivotal));
          made = λ j k l a.
              s.made j k l a
              ∙ sym (L.sum_zero (total o rank (λ t. o.product (E j t) (list (P t) k))))
              ∙ ap₂ o.sum
              (Sums.total_ext o L rank (λ t. o.product (E j t) (list (P t) k)) (λ t. o.product (E j t) (list (P' t) k)) (λ t c. ap (λ x. o.product (E j t) (list x k)) (sym (same t c))))
              (sym (ap (λ x. o.product x (list (P' rank) k)) (s.earlier j rank l room (λ c. absurd (omega arith))) ∙ Sums.zero_product o L (list (P' rank) k)))
              ∙ sym (Sums.total_last o L rank (λ t. o.product (E j t) (list (P' t) k)));
          earlier = λ j t l a no_earlier. s.earlier j t l a (λ c e. no_earlier (omega arith) (let f = same t c in omega arith));
          has = s.has;
          has_not = s.has_not;
        }
      where
        new : Pivotal o n d r q
        new non_pivotal = unspanned (spanned_by_found non_pivotal)

        pivotal : (t : ℕ) → t < suc rank → Pivotal o n d r (P' t)
        pivotal = up_to (λ t. Pivotal o n d r (P' t)) rank (λ t l. subst (Pivotal o n d r) (sym (same t l)) (s.pivotal t l)) (subst (Pivotal o n d r) (sym here) new)

        rising : (i j : ℕ) → i < j → j < suc rank → P' i < P' j
        rising = rising_more rank P P' q s.pivots_rising s.pivots_walked same here

        room : rank < width
        room = pivots_at_most (suc rank) P' pivotal rising

        itself : (t : ℕ) → t < suc rank → Spanned o All (suc rank) width (lists P') (list (P' t))
        itself = Exchange.spanned_self o L All members (suc rank) width (lists P')

    -- before q, a non-pivotal place in the class of q has been found to have a basic place in its class
    class_found : (p e : ℕ) → q < places → NonPivotal o n d r p → q ≡ p plus n * suc e → InClass n b B (q % n)
    class_found p e l non_pivotal further = go (ℕ_discrete (q % n) cl.free)
      where
        cl : Classes.Classes o n d r
        cl = Classes.classes o F n positive d r v

        before : p < q
        before = let x = mul-suc n e in omega arith

        same_class : p % n ≡ q % n
        same_class =
            let whole = div-add-mod p n in
            let powers = mul-add n (p / n) (suc e) in
            let split : q ≡ n * (p / n plus suc e) plus p % n = omega arith in
            sym (ap (λ t. t % n) split ∙ Places.place_mod n (p / n plus suc e) (p % n) (mod-lt p positive))

        whole : n * (p / n) plus q % n ≡ p
        whole = ap (λ t. n * (p / n) plus t) (sym same_class) ∙ div-add-mod p n

        go : Dec (q % n ≡ cl.free) → InClass n b B (q % n)
        go (yes free) = absurd (cl.free_none p (same_class ∙ free) (Syzygies.syzygy_of_nonpivotal o F n positive d r v.bounded p (omega arith) non_pivotal))
        go (no other) =
            let f = cl.first (q % n) (mod-lt q positive) other in
            let low : f.power ≤ p / n = elim (dec_lt (p / n) f.power) [ yes less ↦ absurd (f.earlier (p / n) less (subst (NonPivotal o n d r) (sym whole) non_pivotal)) | no more ↦ omega arith ] in
            let powers = mul-le-mul_left n low in
            let w = whole in
            let x = s.every (n * f.power plus q % n) (let y = before in omega arith) (Classes.basic_of_first o F n positive d r v (q % n) (mod-lt q positive) f) in
            (x.0, x.1, ap (λ t. t % n) x.2 ∙ Places.place_mod n f.power (q % n) (mod-lt q positive))

    -- a place is basic when its class has no basic place yet and its list is a sum of multiples of the lists at the pivotal places found
    pub basic_here : q < places → found (q % n) ≡ false → Spanned o All rank width (lists P) (list q) → Basic o n d r q
    basic_here within unknown of_found = record {
      within = within;
      non_pivotal = spanned_below q rank P (list q) s.pivots_walked of_found;
      first = λ p e non_pivotal further. s.has_not (q % n) (mod-lt q positive) unknown (class_found p e within non_pivotal further);
    }

    -- a place whose class has no basic place, and whose list is a sum of multiples of the lists at the pivotal places found
    pub scanned_basic : (B' : ℕ → ℕ) (E' : ℕ → ℕ → M) (found' : ℕ → Bool)
        → ((j : ℕ) → j < b → B' j ≡ B j) → B' b ≡ q
        → ((j t : ℕ) → j < b → t < width → E' j t ≡ E j t) → ((t : ℕ) → rank ≤ t → t < width → E' b t ≡ o.zero)
        → ((i : ℕ) → i < n → (i ≡ q % n → ⊥) → found' i ≡ found i) → found' (q % n) ≡ true
        → q < places → found (q % n) ≡ false
        → ((k : ℕ) → k < width → list q k ≡ total o rank (λ t. o.product (E' b t) (list (P t) k)))
        → Scanned o n d r (suc q) rank P (suc b) B' E' found'
    scanned_basic B' E' found' same here E-same E-zero found_same found_Here within unknown multiples = record {
      pivotal = s.pivotal;
      pivots_walked = λ t l. let e = s.pivots_walked t l in omega arith;
      pivots_rising = s.pivots_rising;
      spanned = up_to (λ p. Spanned o All rank width (lists P) (list p)) q s.spanned of_found;
      basic = up_to (λ j. Basic o n d r (B' j)) b (λ j l. subst (Basic o n d r) (sym (same j l)) (s.basic j l)) (subst (Basic o n d r) (sym here) new);
      basics_walked = up_to (λ j. B' j < suc q) b (λ j l. let e = s.basics_walked j l in let f = same j l in omega arith) (omega arith);
      basics_rising = rising_more b B B' q s.basics_rising s.basics_walked same here;
      every = up_to (λ p. Basic o n d r p → (j : ℕ) × (j < suc b) × (B' j ≡ p)) q
          (λ p l c. let x = s.every p l c in let lt = x.1 in (x.0, omega arith, same x.0 x.1 ∙ x.2))
          (λ c. (b, le_refl (suc b), here));
      made = λ j k l a. up_to (λ j. list (B' j) k ≡ total o rank (λ t. o.product (E' j t) (list (P t) k))) b
          (λ j c. ap (λ x. list x k) (same j c) ∙ s.made j k c a ∙ Sums.total_ext o L rank (λ t. o.product (E j t) (list (P t) k)) (λ t. o.product (E' j t) (list (P t) k)) (λ t e. let w = rank_at_most in ap (λ x. o.product x (list (P t) k)) (sym (E-same j t c (omega arith)))))
          (ap (λ x. list x k) here ∙ multiples k a) j l;
      earlier = λ j t l a. up_to (λ j. (t < rank → P t < B' j → ⊥) → E' j t ≡ o.zero) b
          (λ j c no_earlier. E-same j t c a ∙ s.earlier j t c a (λ e f. no_earlier e (let g = same j c in omega arith)))
          (λ no_earlier. elim (dec_lt t rank) [ yes e ↦ absurd (no_earlier e (let f = s.pivots_walked t e in omega arith)) | no e ↦ E-zero t (omega arith) a ]) j l;
      has = has;
      has_not = λ i l e x. has_not i l e (ℕ_discrete i (q % n)) x;
    }
      where
        of_found : Spanned o All rank width (lists P) (list q)
        of_found = record { factor = E' b; inside = λ t l. tt; is = multiples }

        new : Basic o n d r q
        new = basic_here within unknown of_found

        has : (i : ℕ) → i < n → found' i ≡ true → InClass n (suc b) B' i
        has i l e = go (ℕ_discrete i (q % n))
          where
            go : Dec (i ≡ q % n) → InClass n (suc b) B' i
            go (yes f) = (b, le_refl (suc b), ap (λ t. t % n) here ∙ sym f)
            go (no f) = let x = s.has i l (sym (found_same i l f) ∙ e) in let lt = x.1 in (x.0, omega arith, ap (λ t. t % n) (same x.0 x.1) ∙ x.2)

        has_not : (i : ℕ) → i < n → found' i ≡ false → Dec (i ≡ q % n) → InClass n (suc b) B' i → ⊥
        has_not i l e (yes f) x = true≢false (sym found_Here ∙ ap found' (sym f) ∙ e)
        has_not i l e (no f) x = up_to (λ j. B' j % n ≡ i → ⊥) b
            (λ j a y. s.has_not i l (sym (found_same i l f) ∙ e) (j, a, ap (λ t. t % n) (sym (same j a)) ∙ y))
            (λ y. f (sym y ∙ ap (λ t. t % n) here)) x.0 x.1 x.2

    -- one more pivotal place leaves them at most 2d + 1
    pub pivot_room : (Spanned o All rank width (lists P) (list q) → ⊥) → rank < width
    pivot_room unspanned =
        let x = scanned_pivot (Rows.slot rank q P) (λ t l. Rows.slot_low rank q P t l) (Rows.slot_at rank q P) unspanned in
        pivots_at_most (suc rank) (Rows.slot rank q P) x.pivotal x.pivots_rising

    -- one more basic place leaves them at most m
    pub basic_room : q < places → found (q % n) ≡ false → Spanned o All rank width (lists P) (list q) → b < m
    basic_room within unknown of_found =
        basics_at_most (suc b) (Rows.slot b q B)
        (up_to (λ j. Basic o n d r (Rows.slot b q B j)) b (λ j l. subst (Basic o n d r) (sym (Rows.slot_low b q B j l)) (s.basic j l)) (subst (Basic o n d r) (sym (Rows.slot_at b q B)) (basic_here within unknown of_found)))
        (rising_more b B (Rows.slot b q B) q s.basics_rising s.basics_walked (λ j l. Rows.slot_low b q B j l) (Rows.slot_at b q B))

  module _ (rank : ℕ) (P : ℕ → ℕ) (b : ℕ) (B : ℕ → ℕ) (E : ℕ → ℕ → M) (found : ℕ → Bool) (s : Scanned o n d r (n * suc d) rank P b B E found) where
    all_basics : BasicPlaces o n d r b B
    all_basics = record { basic = s.basic; rising = s.basics_rising; every = λ q c. s.every q c.within c }

    -- when all places have been walked, the m basic places are found
    pub scanned_end : (b ≡ m) × BasicPlaces o n d r m B
    scanned_end = (count, subst (λ t. BasicPlaces o n d r t B) count all_basics)
      where
        known : BasicPlaces o n d r m (Basics.basic_place o F m d r v)
        known = Basics.basic_places o F m d r v

        count : b ≡ m
        count =
            le_antisymm
            (basics_at_most b B s.basic s.basics_rising)
            (rising_no_longer m b (Basics.basic_place o F m d r v) B known.rising s.basics_rising (λ j l. all_basics.every (Basics.basic_place o F m d r v j) (known.basic j l)))

    module _ (combination : Combination o n r (series o).one) where
      -- every polynomial below s^(2d+1) is then a sum of multiples of the lists at the pivotal places
      pub small_spanned : (f : ℕ → M) → Below o width f → Spanned o All rank width (lists P) f
      small_spanned f small =
          let h = R.small_combination o F n d r (λ i l. (suc d, v.bounded i l)) combination v f small in
          Spans.spanned_trans o L All members rank places width (lists P) list f s.spanned (record {
            factor = Places.at n h.vector;
            inside = λ q l. tt;
            is = λ k l. ap (λ (t : ℕ → M). t k) (sym h.is) ∙ Places.dot_places o L n places r h.vector k positive (Places.below_place_of_bounded n positive o (suc d) h.vector h.bounded);
          })

      -- so is the unit list
      pub unit_spanned : Spanned o All rank width (lists P) (series o).one
      unit_spanned = small_spanned (series o).one (Bounds.below_mono o L 1 width (series o).one (omega arith) (Bounds.below_constant o L o.one))

      -- and 2d + 1 pivotal places are found
      pub rank_is : rank ≡ width
      rank_is = elim (dec_lt rank width) [
        | yes l ↦ absurd (Exchange.not_independent o L All members width width unit (Exchange.dependent_of_spanned o L All members rank width width (lists P) unit l (λ j a. small_spanned (unit j) (λ k c. Rows.slot_off k o.one o.zero j (λ e. omega arith)))) independent)
        | no l ↦ let h = rank_at_most (n * suc d) rank P b B E found s in omega arith
      ]
        where
          unit : ℕ → ℕ → M
          unit j k = Rows.slot k o.one (λ i. o.zero) j

          independent : Independent o All width width unit
          independent x i e k l =
              sym (Sums.total_ext o L width (λ j. o.product (x j) (unit j k)) (λ j. o.product (unit j k) (x j)) (λ j a. L.product_comm (x j) (unit j k)) ∙ Spans.total_slot o L width k o.one x l ∙ Sums.one_product o L (x k))
              ∙ e k l

    -- a sum over all places of terms that are zero but at the pivotal places
    at_pivots : (g x : ℕ → M) (k : ℕ) → ((t : ℕ) → t < rank → g (P t) ≡ x t) → ((q : ℕ) → q < places → ((t : ℕ) → t < rank → P t ≡ q → ⊥) → g q ≡ o.zero)
        → total o places (λ q. o.product (g q) (list q k)) ≡ total o rank (λ t. o.product (x t) (list (P t) k))
    at_pivots g x k here off =
        total_at_places o L rank places P (λ q. o.product (g q) (list q k)) s.pivots_rising s.pivots_walked (λ q l others. ap (λ t. o.product t (list q k)) (off q l others) ∙ Sums.zero_product o L (list q k))
        ∙ Sums.total_ext o L rank (λ t. o.product (g (P t)) (list (P t) k)) (λ t. o.product (x t) (list (P t) k)) (λ t l. ap (λ z. o.product z (list (P t) k)) (here t l))

    power_small : (q : ℕ) → q < places → q / n < suc d
    power_small = Classes.power_within o F n positive d r v

    -- the product of the row with a vector of degree at most d, from its coefficients below s^(2d+1)
    product_is : (h : ℕ → ℕ → M) (f : ℕ → M) → Bounded o n (suc d) h → Below o width f
        → ((k : ℕ) → k < width → total o places (λ q. o.product (at n h q) (list q k)) ≡ f k) → dot (series o) n r h ≡ f
    product_is h f bounded small e = fun_ext (λ k. elim (dec_lt k width) [
      | yes l ↦ Places.dot_places o L n places r h k positive (Places.below_place_of_bounded n positive o (suc d) h bounded) ∙ e k l
      | no l ↦ Syzygies.dot_below o F n positive (suc d) (suc d) width r h (omega arith) v.bounded bounded k (omega arith) ∙ sym (small k (omega arith))
    ])

    module _ (x : ℕ → M) (excepted : ℕ → Type 0) (h : ℕ → ℕ → M) (a : AtPivots o n d rank P x excepted h) where
      off_pivotal : ZeroOffPivotal o n d r excepted h
      off_pivotal = record {
        bounded = a.bounded;
        zero_off = λ i k l c non_pivotal. a.elsewhere i k l c (λ t b e. s.pivotal t b (subst (NonPivotal o n d r) (sym e) non_pivotal));
      }

      value_at_pivot : (t : ℕ) → t < rank → at n h (P t) ≡ x t
      value_at_pivot t l = a.at_pivot t (P t % n) (P t / n) l (mod-lt (P t) positive) (power_small (P t) (s.pivots_walked t l)) (sym (div-add-mod (P t) n))

      value_elsewhere : (q : ℕ) → q < places → ((t : ℕ) → t < rank → P t ≡ q → ⊥) → (excepted q → ⊥) → at n h q ≡ o.zero
      value_elsewhere q l others ne = a.elsewhere (q % n) (q / n) (mod-lt q positive) (power_small q l) (λ t b e. others t b (e ∙ div-add-mod q n)) (λ e. ne (subst excepted (div-add-mod q n) e))

    module _ (u : ℕ → M) (c : ℕ → ℕ → ℕ → M) (unit : (k : ℕ) → k < width → (series o).one k ≡ total o rank (λ t. o.product (u t) (list (P t) k))) (w : ReadOff o n d rank P b B E u c) where
      first_product : dot (series o) n r (c 0) ≡ (series o).one
      first_product =
          product_is (c 0) (series o).one w.first.bounded (Bounds.below_mono o L 1 width (series o).one (omega arith) (Bounds.below_constant o L o.one))
          (λ k l. at_pivots (at n (c 0)) u k (value_at_pivot u (λ q. ⊥) (c 0) w.first) (λ q b others. value_elsewhere u (λ q. ⊥) (c 0) w.first q b others (λ z. z)) ∙ sym (unit k l))

      check_product : (j : ℕ) → j < b → dot (series o) n r (c (suc j)) ≡ (series o).zero
      check_product j l = product_is h (series o).zero (w.check j l).bounded (Bounds.below_zero o L width) (λ k a.
          total_apart o L places p (λ q. o.product (at n h q) (list q k)) (λ q. o.product (g q) (list q k)) within (λ q b ne. ap (λ t. o.product t (list q k)) (sym (g_off q ne))) (ap (λ t. o.product t (list p k)) g_at ∙ Sums.zero_product o L (list p k))
          ∙ ap₂ o.sum
          (ap (λ t. o.product t (list p k)) one ∙ Sums.one_product o L (list p k))
          (at_pivots g (λ t. o.negative (E j t)) k (λ t b. g_off (P t) (apart t b) ∙ value_at_pivot (λ t. o.negative (E j t)) (λ q. q ≡ p) h (w.check j l) t b) (λ q b others. g_zero q b others (ℕ_discrete q p))
          ∙ Sums.total_ext o L rank (λ t. o.product (o.negative (E j t)) (list (P t) k)) (λ t. o.negative (o.product (E j t) (list (P t) k))) (λ t b. Sums.negative_product o L (E j t) (list (P t) k))
          ∙ Sums.total_negative o L rank (λ t. o.product (E j t) (list (P t) k))
          ∙ ap o.negative (sym (s.made j k l a)))
          ∙ L.sum_negative (list p k))
        where
          h : ℕ → ℕ → M
          h = c (suc j)

          p : ℕ
          p = B j

          within : p < places
          within = s.basics_walked j l

          one : at n h p ≡ o.one
          one = w.one j (p % n) (p / n) l (mod-lt p positive) (power_small p within) (div-add-mod p n)

          -- the column without its one at p
          g : ℕ → M
          g q = cleared o (ℕ_discrete q p) (at n h q)

          g_at : g p ≡ o.zero
          g_at = cleared_yes o (ℕ_discrete p p) (at n h p) refl

          g_off : (q : ℕ) → (q ≡ p → ⊥) → g q ≡ at n h q
          g_off q = cleared_no o (ℕ_discrete q p) (at n h q)

          apart : (t : ℕ) → t < rank → P t ≡ p → ⊥
          apart t b e = s.pivotal t b (subst (NonPivotal o n d r) (sym e) (s.basic j l).non_pivotal)

          g_zero : (q : ℕ) → q < places → ((t : ℕ) → t < rank → P t ≡ q → ⊥) → Dec (q ≡ p) → g q ≡ o.zero
          g_zero q b others (yes e) = ap g e ∙ g_at
          g_zero q b others (no e) = g_off q e ∙ value_elsewhere (λ t. o.negative (E j t)) (λ q. q ≡ p) h (w.check j l) q b others e

      -- the columns read off are the frame columns
      pub read_off : FrameColumns o m d r B c
      read_off =
          let count = scanned_end.0 in
          let inside : (j : ℕ) → j < m → j < b = λ j l. omega arith in
          record {
            places = scanned_end.1;
            first_off = off_pivotal u (λ q. ⊥) (c 0) w.first;
            first = first_product;
            check_off = λ j l. off_pivotal (λ t. o.negative (E j t)) (λ q. q ≡ B j) (c (suc j)) (w.check j (inside j l));
            check_one = λ j i k l a e. w.one j i k (inside j l) a (power_of_place j i k (inside j l) a e) e;
            check = λ j l. check_product j (inside j l);
          }
        where
          power_of_place : (j i k : ℕ) → j < b → i < n → n * k plus i ≡ B j → k < suc d
          power_of_place j i k l a e = subst (λ t. t < suc d) (Places.place_div n k i a) (power_small (n * k plus i) (let x = s.basics_walked j l in omega arith))

      -- with the divisor they are the frame
      pub read_off_is_frame : (a : ℕ → ℕ → M) (g : ℕ → M) → MonicGcd o n a g → DividedRow o n a g r → IsFrame o m a g d c
      read_off_is_frame a g divisor divided = record { divisor = divisor; row = r; divided = divided; degree = v; place = B; columns = read_off }

      -- the degree of check column j is the power of the j-th basic place
      pub check_degree : (j : ℕ) → j < m → VectorDegree o n (c (suc j)) (B j / n)
      check_degree = Optimal.check_degree o F m d r v B c read_off

      -- column 0 has a degree, at most d
      pub first_degree : (e : ℕ) × (e < suc d) × VectorDegree o n (c 0) e
      first_degree = go (R.vector_zero_or_degree o F n (suc d) (c 0) w.first.bounded)
        where
          SL : RingLaws (series o)
          SL = S.series_laws o L

          go : AllZero o n (c 0) ⊎ ((e : ℕ) × (e < suc d) × VectorDegree o n (c 0) e) → (e : ℕ) × (e < suc d) × VectorDegree o n (c 0) e
          go (inl z) = absurd (Degrees.one_nonzero o F (sym first_product ∙ Sums.total_zero (series o) SL n (λ i. (series o).product (r i) (c 0 i)) (λ i l. ap (λ t. (series o).product (r i) t) (z i l) ∙ Sums.product_zero (series o) SL (r i))))
          go (inr x) = x

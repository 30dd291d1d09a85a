-- The basic places of a row of m + 1 polynomials of which some combination is 1. Main results: basic_places (there are exactly m),
-- pivotal_count (there are exactly 2d + 1 pivotal places), basic_powers_sum (the powers of the basic places add up to d).
use mathlib.Core.Path.{◌≡◌, sym, ap, ap₂, ◌∙◌, subst}
use Prim.Native.Nat.{ℕ, zero, suc, ◌≤◌, ◌<◌, zero-le, suc-le-suc, ◌*◌, ◌/◌, ◌%◌, ◌-◌, ◌+◌ as ◌plus◌}
use native.Mathlib.Nat.{le_refl, mod-lt, div-add-mod, mul-one, zero-add}
use native.Mathlib.Decide.{dec_lt, ℕ_discrete}
use native.Mathlib.Bridge.{le_prop}
use native.Mathlib.Omega.{arith}
use Rattle.algebra.specs.Rings.{RingOps, RingLaws, IsField}
use Rattle.algebra.specs.Series.{sum_below, total, constant, series, shift, Polynomial}
use Rattle.algebra.specs.Divisors.{Combination, VectorDegree}
use Rattle.algebra.specs.Independence.{All, Domain, Spanned, Independent}
use Rattle.algebra.specs.Places.{place_list, NonPivotal, Pivotal, Basic, BasicPlaces}
use Rattle.algebra.proofs.Rows as Rows
use Rattle.algebra.proofs.Sums as Sums
use Rattle.algebra.proofs.Series as S
use Rattle.algebra.proofs.Bounds as B
use Rattle.algebra.proofs.Exchange as E
use Rattle.algebra.proofs.Spans as Spans
use Rattle.algebra.proofs.Pivots as Pivots
use Rattle.algebra.proofs.Pivots.{PivotalSpan}
use Rattle.algebra.proofs.DividedRow as R
use Rattle.algebra.proofs.Counting as C
use Rattle.algebra.proofs.Counting.{keep, Enumerated}
use Rattle.algebra.proofs.Places as Places
use Rattle.algebra.proofs.Syzygies as Syzygies
use Rattle.algebra.proofs.Classes as Classes
use Rattle.algebra.proofs.Classes.{FirstNonPivotal}

module _ {M : Type 0} (o : RingOps M) (F : IsField o) (m d : ℕ) (r : ℕ → ℕ → M) (v : VectorDegree o (suc m) r d) where
  abbrev L : RingLaws o
  L = F.laws.ring

  abbrev members : Domain o All
  members = E.domain_of_field o F

  abbrev n : ℕ
  n = suc m

  positive : zero < n
  positive = suc-le-suc zero-le

  abbrev places : ℕ
  places = n * suc d

  abbrev width : ℕ
  width = suc (d plus d)

  abbrev list : ℕ → ℕ → M
  list = place_list o n r

  abbrev cl : Classes.Classes o n d r
  cl = Classes.classes o F n positive d r v

  free_pivotal : (k : ℕ) → k < suc d → NonPivotal o n d r (n * k plus cl.free) → ⊥
  free_pivotal k l s =
      cl.free_none (n * k plus cl.free) (Places.place_mod n k cl.free cl.free_within)
      (Syzygies.syzygy_of_nonpivotal o F n positive d r v.bounded (n * k plus cl.free) (Classes.place_within o F n positive d r v k cl.free cl.free_within l) s)

  -- the other classes, in order
  abbrev class : ℕ → ℕ
  class j = Rows.skip cl.free j

  firsts : (j : ℕ) → j < m → FirstNonPivotal o n d r (class j)
  firsts j l = cl.first (class j) (Rows.skip_lt cl.free m j l) (Rows.skip_ne cl.free j)

  -- the powers of the first non-pivotal places of the other classes
  power : ℕ → ℕ
  power j = elim (dec_lt j m) [ yes l ↦ (firsts j l).power | no l ↦ 0 ]

  power_is : (j : ℕ) (l : j < m) → power j ≡ (firsts j l).power
  unfolding power
  power_is j l = go (dec_lt j m)
    where
      go : (x : Dec (j < m)) → (elim x as (λ (y : Dec (j < m)). ℕ) [ yes a ↦ (firsts j a).power | no a ↦ 0 ]) ≡ (firsts j l).power
      go (yes a) = ap (λ (b : j < m). (firsts j b).power) (le_prop a l)
      go (no a) = absurd (a l)

  basic_decides : (q : ℕ) → Dec (Basic o n d r q)
  basic_decides q = go (dec_lt q places) (ℕ_discrete (q % n) cl.free)
    where
      whole : n * (q / n) plus q % n ≡ q
      whole = div-add-mod q n

      other : (f : FirstNonPivotal o n d r (q % n)) → Dec (q / n ≡ f.power) → Dec (Basic o n d r q)
      other f (yes e) = yes (subst (Basic o n d r) (ap (λ t. n * t plus q % n) (sym e) ∙ whole) (Classes.basic_of_first o F n positive d r v (q % n) (mod-lt q positive) f))
      other f (no e) = no (λ b. e (Classes.first_of_basic o F n positive d r v (q % n) (q / n) f (subst (Basic o n d r) (sym whole) b)))

      go : Dec (q < places) → Dec (q % n ≡ cl.free) → Dec (Basic o n d r q)
      go (no l) x = no (λ b. l b.within)
      go (yes l) (yes e) = no (λ b. cl.free_none q e (Syzygies.syzygy_of_nonpivotal o F n positive d r v.bounded q l b.non_pivotal))
      go (yes l) (no e) = let f = cl.first (q % n) (mod-lt q positive) e in other f (ℕ_discrete (q / n) f.power)

  pub pivotal_decides : (q : ℕ) → Dec (Pivotal o n d r q)
  pivotal_decides q = elim (Classes.nonpivotal_decides o F n positive d r v q) [ yes s ↦ no (λ p. p s) | no s ↦ yes s ]

  abbrev basics : Enumerated places (Basic o n d r) basic_decides
  basics = C.enumerate places (Basic o n d r) basic_decides

  abbrev pivots : Enumerated places (Pivotal o n d r) pivotal_decides
  pivots = C.enumerate places (Pivotal o n d r) pivotal_decides

  -- a sum over the basic places, class by class
  basic_sum : (f : ℕ → ℕ) → sum_below places (λ q. keep (basic_decides q) (f q)) ≡ sum_below m (λ j. f (n * power j plus class j))
  basic_sum f =
      C.sum_grid n (suc d) (λ q. keep (basic_decides q) (f q))
      ∙ C.sum_skip m cl.free (λ i. sum_below (suc d) (λ k. keep (basic_decides (n * k plus i)) (f (n * k plus i)))) cl.free_within
      ∙ ap₂ ◌plus◌
      (C.sum_none (suc d) (λ k. keep (basic_decides (n * k plus cl.free)) (f (n * k plus cl.free))) (λ k l. C.keep_no (basic_decides (n * k plus cl.free)) (f (n * k plus cl.free)) (λ b. free_pivotal k l b.non_pivotal)))
      (C.sum_ext m (λ j. sum_below (suc d) (λ k. keep (basic_decides (n * k plus class j)) (f (n * k plus class j)))) (λ j. f (n * power j plus class j)) (λ j l. one_class j l))
      ∙ zero-add (sum_below m (λ j. f (n * power j plus class j)))
    where
      one_class : (j : ℕ) → j < m
          → sum_below (suc d) (λ k. keep (basic_decides (n * k plus class j)) (f (n * k plus class j))) ≡ f (n * power j plus class j)
      one_class j l =
          let x = firsts j l in
          C.sum_single (suc d) x.power (λ k. keep (basic_decides (n * k plus class j)) (f (n * k plus class j))) x.within (λ k a ne. C.keep_no (basic_decides (n * k plus class j)) (f (n * k plus class j)) (λ b. ne (Classes.first_of_basic o F n positive d r v (class j) k x b)))
          ∙ C.keep_yes (basic_decides (n * x.power plus class j)) (f (n * x.power plus class j)) (Classes.basic_of_first o F n positive d r v (class j) (Rows.skip_lt cl.free m j l) x)
          ∙ ap (λ t. f (n * t plus class j)) (sym (power_is j l))

  -- the pivotal places, class by class
  pivotal_sum : sum_below places (λ q. keep (pivotal_decides q) 1) ≡ suc d plus sum_below m power
  pivotal_sum =
      C.sum_grid n (suc d) (λ q. keep (pivotal_decides q) 1)
      ∙ C.sum_skip m cl.free (λ i. sum_below (suc d) (λ k. keep (pivotal_decides (n * k plus i)) 1)) cl.free_within
      ∙ ap₂ ◌plus◌
      (C.sum_threshold (suc d) (suc d) (λ k. Pivotal o n d r (n * k plus cl.free)) (λ k. pivotal_decides (n * k plus cl.free)) (le_refl (suc d)) (λ k l. free_pivotal k l) (λ k a b. absurd (omega arith)))
      (C.sum_ext m (λ j. sum_below (suc d) (λ k. keep (pivotal_decides (n * k plus class j)) 1)) power (λ j l. one_class j l))
    where
      one_class : (j : ℕ) → j < m → sum_below (suc d) (λ k. keep (pivotal_decides (n * k plus class j)) 1) ≡ power j
      one_class j l =
          let x = firsts j l in
          let small = x.within in
          C.sum_threshold (suc d) x.power (λ k. Pivotal o n d r (n * k plus class j)) (λ k. pivotal_decides (n * k plus class j)) (omega arith) x.earlier
          (λ k a b p. p (Classes.nonpivotal_above o F n positive d r v (class j) x.power k (Rows.skip_lt cl.free m j l) a x.within x.non_pivotal))
          ∙ sym (power_is j l)

  basic_count : basics.count ≡ m
  basic_count =
      sym (mul-one basics.count)
      ∙ sym (C.sum_constant basics.count 1)
      ∙ basics.sums (λ q. 1)
      ∙ basic_sum (λ q. 1)
      ∙ C.sum_constant m 1
      ∙ mul-one m

  -- the basic places in rising order
  pub basic_place : ℕ → ℕ
  basic_place j = basics.place j

  -- there are exactly m
  pub basic_places : BasicPlaces o n d r m basic_place
  unfolding basic_place
  basic_places =
      subst (λ (t : ℕ). BasicPlaces o n d r t (λ j. basics.place j)) basic_count
      (record { basic = basics.holds; rising = basics.rising; every = λ q b. basics.every q b.within b })

  basic_powers : sum_below m (λ j. basic_place j / n) ≡ sum_below m power
  unfolding basic_place
  basic_powers =
      subst (λ (t : ℕ). sum_below t (λ j. basics.place j / n) ≡ sum_below places (λ q. keep (basic_decides q) (q / n))) basic_count (basics.sums (λ q. q / n))
      ∙ basic_sum (λ q. q / n)
      ∙ C.sum_ext m (λ j. (n * power j plus class j) / n) power (λ j l. Places.place_div n (power j) (class j) (Rows.skip_lt cl.free m j l))

  abbrev pivot_list : ℕ → ℕ → M
  pivot_list t = list (pivots.place t)

  pivots_independent : Independent o All pivots.count width pivot_list
  pivots_independent x i e = go pivots.count (le_refl pivots.count) e
    where
      off : (t : ℕ) → t < pivots.count → Spanned o All t width pivot_list (pivot_list t) → ⊥
      off t l s = pivots.holds t l (Spans.spanned_trans o L All members (pivots.place t) t width list pivot_list (pivot_list t) (λ j a. E.spanned_self o L All members (pivots.place t) width list (pivots.place j) (pivots.rising j t a l)) s)

      go : (T : ℕ) → T ≤ pivots.count
          → ((k : ℕ) → k < width → total o T (λ j. o.product (x j) (pivot_list j k)) ≡ o.zero) → (j : ℕ) → j < T
          → x j ≡ o.zero
      go T h z = Pivots.pivotal_unique o F width pivot_list T x (λ t l s. absurd (off t (omega arith) s)) z

  -- the unit lists s^j
  abbrev unit : ℕ → ℕ → M
  unit j = shift o j (constant o o.one)

  unit_same : (j : ℕ) → unit j j ≡ o.one
  unit_same j = S.shift_at o L j j 0 (constant o o.one) (omega arith)

  unit_other : (j k : ℕ) → (j ≡ k → ⊥) → unit j k ≡ o.zero
  unit_other j k ne = elim (dec_lt k j) [
    | yes l ↦ S.shift_low o L j k (constant o o.one) l
    | no l ↦ let e = k - suc j in S.shift_at o L j k (suc e) (constant o o.one) (omega arith)
  ]

  total_units : (x : ℕ → M) (k : ℕ) → k < width → total o width (λ j. o.product (x j) (unit j k)) ≡ x k
  total_units x k l =
      Sums.total_one o L width k (λ j. o.product (x j) (unit j k)) l (λ j a ne. ap (λ t. o.product (x j) t) (unit_other j k ne) ∙ Sums.product_zero o L (x j))
      ∙ ap (λ t. o.product (x k) t) (unit_same k)
      ∙ L.product_one (x k)

  units_independent : Independent o All width width unit
  units_independent x i e j l = sym (total_units x j l) ∙ e j l

  spanned_by_units : (y : ℕ → M) → Spanned o All width width unit y
  spanned_by_units y = record { factor = y; inside = λ j l. tt; is = λ k l. sym (total_units y k l) }

  -- a combination of lists is one of pivotal lists
  spanned_by_pivots : (y : ℕ → M) → Spanned o All places width list y → Spanned o All pivots.count width pivot_list y
  spanned_by_pivots y s =
      let x = Pivots.pivotal_span o F width list places y s in
      Spans.spanned_ext o L All members pivots.count width pivot_list (λ k. total o places (λ q. o.product o.one (o.product (x.factor q) (list q k)))) y
      (λ k l. Sums.total_ext o L places (λ q. o.product o.one (o.product (x.factor q) (list q k))) (λ q. o.product (x.factor q) (list q k)) (λ q a. Sums.one_product o L (o.product (x.factor q) (list q k))) ∙ sym (x.is k l))
      (Spans.spanned_total o L All members pivots.count width places pivot_list (λ q. o.one) (λ q k. o.product (x.factor q) (list q k)) (λ q a. tt) (λ q a. term x q a (pivotal_decides q)))
    where
      term : (x : PivotalSpan o width list places y) (q : ℕ) → q < places → Dec (Pivotal o n d r q)
          → Spanned o All pivots.count width pivot_list (λ k. o.product (x.factor q) (list q k))
      term x q a (yes p) =
          let j = pivots.every q a p in
          Spans.spanned_scale o L All members pivots.count width pivot_list (x.factor q) (list q) tt
          (subst (λ (t : ℕ). Spanned o All pivots.count width pivot_list (list t)) j.2 (E.spanned_self o L All members pivots.count width pivot_list j.0 j.1))
      term x q a (no p) =
          Spans.spanned_ext o L All members pivots.count width pivot_list (λ k. o.zero) (λ k. o.product (x.factor q) (list q k))
          (λ k l. sym (ap (λ t. o.product t (list q k)) (zero_factor (Classes.nonpivotal_decides o F n positive d r v q)) ∙ Sums.zero_product o L (list q k)))
          (Spans.spanned_zero o L All members pivots.count width pivot_list)
        where
          zero_factor : Dec (NonPivotal o n d r q) → x.factor q ≡ o.zero
          zero_factor (yes s) = x.off q a s
          zero_factor (no s) = absurd (p s)

  module _ (one : Combination o n r (series o).one) where
    row_polynomials : (i : ℕ) → i < n → Polynomial o (r i)
    row_polynomials i l = (suc d, v.bounded i l)

    unit_spanned : (j : ℕ) → j < width → Spanned o All pivots.count width pivot_list (unit j)
    unit_spanned j l =
        let h = R.small_combination o F n d r row_polynomials one v (unit j) (B.below_shift o L j 1 width (constant o o.one) (omega arith) (B.below_constant o L o.one)) in
        spanned_by_pivots (unit j) (record {
          factor = λ q. Places.at n h.vector q;
          inside = λ q a. tt;
          is = λ k a. ap (λ (f : ℕ → M). f k) (sym h.is) ∙ Places.dot_places o L n places r h.vector k positive (Places.below_place_of_bounded n positive o (suc d) h.vector h.bounded);
        })

    -- there are exactly 2d + 1 pivotal places
    pub pivotal_count : pivots.count ≡ width
    pivotal_count = elim (dec_lt width pivots.count) [
      | yes l ↦ absurd (E.not_independent o L All members pivots.count width pivot_list (E.dependent_of_spanned o L All members width pivots.count width unit pivot_list l (λ j a. spanned_by_units (pivot_list j))) pivots_independent)
      | no l ↦ elim (dec_lt pivots.count width) [
        | yes a ↦ absurd (E.not_independent o L All members width width unit (E.dependent_of_spanned o L All members pivots.count width width pivot_list unit a unit_spanned) units_independent)
        | no a ↦ omega arith
      ]
    ]

    -- the powers of the basic places add up to d
    pub basic_powers_sum : sum_below m (λ j. basic_place j / n) ≡ d
    basic_powers_sum =
        let a = pivotal_sum in
        let b = pivots.sums (λ q. 1) in
        let c = C.sum_constant pivots.count 1 in
        let e = mul-one pivots.count in
        let f = pivotal_count in
        let g = basic_powers in
        omega arith

-- The classes of places, by component. Main results: classes (exactly one class has no non-pivotal place, and no syzygy has its leading place
-- in it), basic_of_first and first_of_basic (the basic places are the first non-pivotal ones of the other classes).
use mathlib.Core.Path.{◌≡◌, refl, sym, ap, ◌∙◌, subst}
use mathlib.Core.Logic.{◌⊎◌, inl, inr}
use Prim.Native.Nat.{ℕ, zero, suc, ◌≤◌, ◌<◌, ◌*◌, ◌/◌, ◌%◌, ◌-◌, ◌+◌ as ◌plus◌}
use native.Mathlib.Nat.{div-add-mod, mul-suc, mul-le-mul_left, mul-add}
use native.Mathlib.Decide.{dec_lt, ℕ_discrete}
use native.Mathlib.Omega.{arith}
use Rattle.algebra.specs.Rings.{RingOps, RingLaws, IsField}
use Rattle.algebra.specs.Series.{constant, series, shift}
use Rattle.algebra.specs.Divisors.{VectorDegree}
use Rattle.algebra.specs.Places.{place_list, NonPivotal, Basic}
use Rattle.algebra.proofs.Sums as Sums
use Rattle.algebra.proofs.Series as S
use Rattle.algebra.proofs.Spans as Spans
use Rattle.algebra.proofs.Naturals as N
use Rattle.algebra.proofs.Places as Places
use Rattle.algebra.proofs.Reduction as Reduction
use Rattle.algebra.proofs.Syzygies as Syzygies
use Rattle.algebra.proofs.Syzygies.{SyzygyAt}

-- the first non-pivotal place of class i
pub record FirstNonPivotal {M : Type 0} (o : RingOps M) (n d : ℕ) (r : ℕ → ℕ → M) (i : ℕ) : Type 0 where
  pub power : ℕ
  pub within : power < suc d
  pub non_pivotal : NonPivotal o n d r (n * power plus i)
  pub earlier : (k : ℕ) → k < power → NonPivotal o n d r (n * k plus i) → ⊥

-- one class is free of syzygies, and each other has a first non-pivotal place
pub record Classes {M : Type 0} (o : RingOps M) (n d : ℕ) (r : ℕ → ℕ → M) : Type 0 where
  pub free : ℕ
  pub free_within : free < n
  pub free_none : (q : ℕ) → q % n ≡ free → SyzygyAt o n r q → ⊥
  pub first : (i : ℕ) → i < n → (i ≡ free → ⊥) → FirstNonPivotal o n d r i

module _ {M : Type 0} (o : RingOps M) (F : IsField o) (n : ℕ) (positive : zero < n) (d : ℕ) (r : ℕ → ℕ → M) (v : VectorDegree o n r d) where
  abbrev L : RingLaws o
  L = F.laws.ring

  pub nonpivotal_decides : (q : ℕ) → Dec (NonPivotal o n d r q)
  nonpivotal_decides q = Spans.spanned_decides o F (suc (d plus d)) q (place_list o n r) (place_list o n r q)

  pub place_within : (k i : ℕ) → i < n → k < suc d → n * k plus i < n * suc d
  place_within k i a l =
      let s = mul-le-mul_left n l in
      let t = mul-suc n k in
      omega arith

  pub power_within : (q : ℕ) → q < n * suc d → q / n < suc d
  power_within q l = elim (dec_lt (q / n) (suc d)) [
    | yes h ↦ h
    | no h ↦
        let g : suc d ≤ q / n = omega arith in
        let s = mul-le-mul_left n g in
        let e = div-add-mod q n in
        absurd (omega arith)
  ]

  nonpivotal_place : (q : ℕ) → NonPivotal o n d r q → NonPivotal o n d r (n * (q / n) plus q % n)
  nonpivotal_place q s = subst (NonPivotal o n d r) (sym (div-add-mod q n)) s

  search_class : (i : ℕ) → FirstNonPivotal o n d r i ⊎ ((k : ℕ) → k < suc d → NonPivotal o n d r (n * k plus i) → ⊥)
  search_class i = go (N.first_below (suc d) (λ k. NonPivotal o n d r (n * k plus i)) (λ k. nonpivotal_decides (n * k plus i)))
    where
      go : ((k : ℕ) → k < suc d → NonPivotal o n d r (n * k plus i) → ⊥) ⊎ ((k : ℕ) × (k < suc d) × NonPivotal o n d r (n * k plus i) × ((l : ℕ) → l < k → NonPivotal o n d r (n * l plus i) → ⊥))
          → FirstNonPivotal o n d r i ⊎ ((k : ℕ) → k < suc d → NonPivotal o n d r (n * k plus i) → ⊥)
      go (inl none) = inr none
      go (inr (k, l, s, e)) = inl (record { power = k; within = l; non_pivotal = s; earlier = e })

  first_syzygy : (i : ℕ) → i < n → FirstNonPivotal o n d r i → (q : ℕ) × (q % n ≡ i) × SyzygyAt o n r q
  first_syzygy i a f = (n * f.power plus i, Places.place_mod n f.power i a, Syzygies.syzygy_of_nonpivotal o F n positive d r v.bounded (n * f.power plus i) (place_within f.power i a f.within) f.non_pivotal)

  pub classes : Classes o n d r
  classes = go (N.all_or_not n (FirstNonPivotal o n d r) (λ i. (k : ℕ) → k < suc d → NonPivotal o n d r (n * k plus i) → ⊥) (λ i a. search_class i))
    where
      go : ((i : ℕ) → i < n → FirstNonPivotal o n d r i) ⊎ ((i : ℕ) × (i < n) × ((k : ℕ) → k < suc d → NonPivotal o n d r (n * k plus i) → ⊥))
          → Classes o n d r
      go (inl all) = absurd (Syzygies.not_every_class o F n positive d r v.bounded v (λ i a. first_syzygy i a (all i a)))
      go (inr (free, within, none)) = record { free = free; free_within = within; free_none = free_none; first = first }
        where
          not_here : (i : ℕ) → ((k : ℕ) → k < suc d → NonPivotal o n d r (n * k plus i) → ⊥) → (q : ℕ) → q < n * suc d
              → SyzygyAt o n r q → q % n ≡ i → ⊥
          not_here i x q l s e = x (q / n) (power_within q l) (subst (λ t. NonPivotal o n d r (n * (q / n) plus t)) e (nonpivotal_place q (Syzygies.nonpivotal_of_syzygy o F n positive d r v.bounded q s)))

          first : (i : ℕ) → i < n → (i ≡ free → ⊥) → FirstNonPivotal o n d r i
          first i a ne = pick (search_class i) (Syzygies.one_of_two_classes o F n positive d r v.bounded i free a within ne)
            where
              pick : FirstNonPivotal o n d r i ⊎ ((k : ℕ) → k < suc d → NonPivotal o n d r (n * k plus i) → ⊥)
                  → (q : ℕ) × (q < n * suc d) × SyzygyAt o n r q × ((q % n ≡ i) ⊎ (q % n ≡ free))
                  → FirstNonPivotal o n d r i
              pick (inl f) s = f
              pick (inr x) (q, l, s, inl e) = absurd (not_here i x q l s e)
              pick (inr x) (q, l, s, inr e) = absurd (not_here free none q l s e)

          free_none : (q : ℕ) → q % n ≡ free → SyzygyAt o n r q → ⊥
          free_none q e s = Syzygies.not_every_class o F n positive d r v.bounded v all
            where
              choice : (i : ℕ) → i < n → Dec (i ≡ free) → (q : ℕ) × (q % n ≡ i) × SyzygyAt o n r q
              choice i a (yes same) = (q, e ∙ sym same, s)
              choice i a (no ne) = first_syzygy i a (first i a ne)

              all : (i : ℕ) → i < n → (q : ℕ) × (q % n ≡ i) × SyzygyAt o n r q
              all i a = choice i a (ℕ_discrete i free)

  -- s^e times a syzygy
  pub shifted_syzygy : (q e : ℕ) → SyzygyAt o n r q → SyzygyAt o n r (q plus n * e)
  shifted_syzygy q e s = record {
    vector = λ i. (series o).product (shift o e (constant o o.one)) (s.vector i);
    below = λ i k a l. Reduction.multiple_below o F n positive (suc q) e o.one s.vector s.below i k a (omega arith);
    leading = Reduction.multiple_leading o F n positive q e (q plus n * e) o.one s.vector refl s.leading;
    syzygy = Spans.dot_scale (series o) (S.series_laws o L) n r s.vector (shift o e (constant o o.one)) ∙ ap (λ t. (series o).product (shift o e (constant o o.one)) t) s.syzygy ∙ Sums.product_zero (series o) (S.series_laws o L) (shift o e (constant o o.one));
  }

  -- non-pivotal places are closed under adding multiples of n
  pub nonpivotal_above : (i k l : ℕ) → i < n → k ≤ l → k < suc d → NonPivotal o n d r (n * k plus i) → NonPivotal o n d r (n * l plus i)
  nonpivotal_above i k l a h b s =
      let e = l - k in
      let split : l ≡ k plus e = omega arith in
      let places = ap (λ t. n * t) split ∙ mul-add n k e in
      let same : (n * k plus i) plus n * e ≡ n * l plus i = omega arith in
      Syzygies.nonpivotal_of_syzygy o F n positive d r v.bounded (n * l plus i) (subst (SyzygyAt o n r) same (shifted_syzygy (n * k plus i) e (Syzygies.syzygy_of_nonpivotal o F n positive d r v.bounded (n * k plus i) (place_within k i a b) s)))

  pub basic_of_first : (i : ℕ) → i < n → (f : FirstNonPivotal o n d r i) → Basic o n d r (n * f.power plus i)
  basic_of_first i a f = record { within = place_within f.power i a f.within; non_pivotal = f.non_pivotal; first = no_smaller }
    where
      no_smaller : (p j : ℕ) → NonPivotal o n d r p → n * f.power plus i ≡ p plus n * suc j → ⊥
      no_smaller p j s e =
          let h : suc j ≤ f.power = Reduction.power_le o F n positive (suc j) f.power i a (omega arith) in
          let k = f.power - suc j in
          let split : f.power ≡ k plus suc j = omega arith in
          let places = ap (λ t. n * t) split ∙ mul-add n k (suc j) in
          let same : p ≡ n * k plus i = omega arith in
          f.earlier k (omega arith) (subst (NonPivotal o n d r) same s)

  pub first_of_basic : (i k : ℕ) → (f : FirstNonPivotal o n d r i) → Basic o n d r (n * k plus i) → k ≡ f.power
  first_of_basic i k f b = elim (dec_lt k f.power) [
    | yes h ↦ absurd (f.earlier k h b.non_pivotal)
    | no h ↦ elim (dec_lt f.power k) [
      | yes l ↦
          let j = k - suc f.power in
          let split : k ≡ f.power plus suc j = omega arith in
          let places = ap (λ t. n * t) split ∙ mul-add n f.power (suc j) in
          absurd (b.first (n * f.power plus i) j f.non_pivotal (omega arith))
      | no l ↦ omega arith
    ]
  ]

-- Vectors of polynomials by their places. Main results: place_div and place_mod (the power and the component of a place), dot_places (the
-- product of a row with a vector is the combination of the lists by the vector's coefficients).
use mathlib.Core.Path.{◌≡◌, refl, sym, ap, ap₂, ◌∙◌}
use mathlib.Core.Logic.{inl, inr}
use Prim.Native.Nat.{ℕ, zero, suc, ◌≤◌, ◌<◌, zero-le, suc-le-suc, ◌*◌, ◌/◌, ◌%◌, ◌+◌ as ◌plus◌}
use native.Mathlib.Nat.{eq-or-lt_of_le, mul-add-div, div-eq_of_lt, mul-add-mod_self_left, mod-eq_of_lt, mod-lt, div-add-mod, mul-suc, mul-zero, mul-le-mul_left, mul-le-mul_right, one-mul}
use native.Mathlib.Decide.{dec_le}
use native.Mathlib.Omega.{arith}
use Rattle.algebra.specs.Rings.{RingOps, RingLaws}
use Rattle.algebra.specs.Series.{total, dot, coefficient, series, shift, Below}
use Rattle.algebra.specs.Divisors.{Bounded}
use Rattle.algebra.specs.Places.{place_list}
use Rattle.algebra.proofs.Rows as Rows
use Rattle.algebra.proofs.Sums as Sums
use Rattle.algebra.proofs.Series as S
use Rattle.algebra.proofs.Spans as Spans

pub place_div : (n k i : ℕ) → i < n → (n * k plus i) / n ≡ k
place_div n k i h = mul-add-div (omega arith) k i ∙ ap (λ t. k plus t) (div-eq_of_lt h) ∙ (omega arith)

pub place_mod : (n k i : ℕ) → i < n → (n * k plus i) % n ≡ i
place_mod n k i h = mul-add-mod_self_left n k i ∙ mod-eq_of_lt h

-- a product with n ≥ 1 is no smaller
pub le_times : (n k : ℕ) → zero < n → k ≤ n * k
le_times n k h = let e = mul-le-mul_right k h in let z = one-mul k in omega arith

-- the coefficient of a vector at a place
abbrev pub at : {M : Type 0} → ℕ → (ℕ → ℕ → M) → ℕ → M
at n h q = h (q % n) (q / n)

-- the vector with given coefficients at its places
abbrev pub spread : {M : Type 0} → ℕ → (ℕ → M) → ℕ → ℕ → M
spread n x i k = x (n * k plus i)

-- the coefficients of h at the places from Q on are zero
abbrev pub BelowPlace : {M : Type 0} → RingOps M → ℕ → ℕ → (ℕ → ℕ → M) → Type 0
BelowPlace o n Q h = (i k : ℕ) → i < n → Q ≤ n * k plus i → h i k ≡ o.zero

module _ {M : Type 0} (n : ℕ) (positive : zero < n) where
  pub at_place : (h : ℕ → ℕ → M) (i k : ℕ) → i < n → at n h (n * k plus i) ≡ h i k
  at_place h i k l = ap₂ (λ a b. h a b) (place_mod n k i l) (place_div n k i l)

  pub at_spread : (x : ℕ → M) (q : ℕ) → at n (spread n x) q ≡ x q
  at_spread x q = ap x (div-add-mod q n)

  module _ (o : RingOps M) where
    pub bounded_of_below_place : (Q N : ℕ) (h : ℕ → ℕ → M) → Q ≤ n * N → BelowPlace o n Q h → Bounded o n N h
    bounded_of_below_place Q N h l b i a k c = b i k a (let e = mul-le-mul_left n c in omega arith)

    pub below_place_of_bounded : (N : ℕ) (h : ℕ → ℕ → M) → Bounded o n N h → BelowPlace o n (n * N) h
    below_place_of_bounded N h b i k a l = b i a k (power_large N k i a l)
      where
        power_large : (N k i : ℕ) → i < n → n * N ≤ n * k plus i → N ≤ k
        power_large N k i a l =
            let p = place_div n k i a in
            let q = div_mono N (n * k plus i) l in
            omega arith
          where
            div_mono : (N q : ℕ) → n * N ≤ q → N ≤ q / n
            div_mono N q l = elim (dec_le N (q / n)) [
              | yes h ↦ h
              | no h ↦
                  let e = div-add-mod q n in
                  let f = mod-lt q positive in
                  let g : q / n < N = omega arith in
                  let s = mul-le-mul_left n g in
                  let t = mul-suc n (q / n) in
                  omega arith
            ]

    pub below_place_at : (Q : ℕ) (h : ℕ → ℕ → M) → BelowPlace o n Q h → (q : ℕ) → Q ≤ q → at n h q ≡ o.zero
    below_place_at Q h b q l = b (q % n) (q / n) (mod-lt q positive) (let e = div-add-mod q n in omega arith)

    pub below_place_mono : (Q T : ℕ) (h : ℕ → ℕ → M) → Q ≤ T → BelowPlace o n Q h → BelowPlace o n T h
    below_place_mono Q T h l b i k a c = b i k a (omega arith)

    -- the bound falls where the coefficient under it is zero
    pub below_place_top : (Q : ℕ) (h : ℕ → ℕ → M) → BelowPlace o n (suc Q) h → at n h Q ≡ o.zero → BelowPlace o n Q h
    below_place_top Q h b e i k a l = elim (eq-or-lt_of_le l) [ inl q ↦ sym (at_place h i k a) ∙ ap (at n h) (sym q) ∙ e | inr q ↦ b i k a q ]

module _ {M : Type 0} (o : RingOps M) (L : RingLaws o) where
  open o use {zero as O, one as I, sum as ◌+◌, negative as -◌, product as ◌·◌}

  infixl 60 ◌+◌
  infixl 70 ◌·◌
  infix 80 -◌
  -- a product, by the coefficients of a bounded factor
  pub product_as_shifts : (K : ℕ) (f g : ℕ → M) (c : ℕ) → Below o K g → (series o).product f g c ≡ total o K (λ k. g k · shift o k f c)
  product_as_shifts zero f g c b = S.coefficient_zero o L f g c (λ i j e. ap (λ t. f i · t) (b j zero-le) ∙ Sums.product_zero o L (f i))
  product_as_shifts (suc K) f g c b =
      ap (λ (t : ℕ → M). t c) ((S.series_laws o L).product_comm f g)
      ∙ first_apart c
      ∙ ap (λ t. g 0 · f c + t) (rest (λ e. product_as_shifts K f (λ k. g (suc k)) e (λ k l. b (suc k) (suc-le-suc l))) c)
    where
      tail : ℕ → M
      tail k = g (suc k)

      first_apart : (c : ℕ) → coefficient o g f c ≡ g 0 · f c + shift o 1 (coefficient o tail f) c
      first_apart zero = sym (L.sum_zero (g 0 · f 0))
      first_apart (suc c) = refl

      rest : ((e : ℕ) → coefficient o f tail e ≡ total o K (λ k. g (suc k) · shift o k f e)) → (c : ℕ)
          → shift o 1 (coefficient o tail f) c ≡ total o K (λ k. g (suc k) · shift o (suc k) f c)
      rest r zero = sym (Sums.total_zero o L K (λ k. g (suc k) · O) (λ k l. Sums.product_zero o L (g (suc k))))
      rest r (suc c) = ap (λ (t : ℕ → M). t c) ((S.series_laws o L).product_comm tail f) ∙ r c

  -- a sum over the places is a sum over powers and components
  pub total_grid : (n K : ℕ) (G : ℕ → ℕ → M) → total o (n * K) (λ q. G (q % n) (q / n)) ≡ total o K (λ k. total o n (λ i. G i k))
  total_grid n zero G = ap (λ t. total o t (λ q. G (q % n) (q / n))) (mul-zero n)
  total_grid n (suc K) G =
      ap (λ t. total o t (λ q. G (q % n) (q / n))) (mul-suc n K)
      ∙ Sums.total_split o L (n * K) n (λ q. G (q % n) (q / n))
      ∙ ap₂ ◌+◌ (total_grid n K G) (Sums.total_ext o L n (λ i. G ((n * K plus i) % n) ((n * K plus i) / n)) (λ i. G i K) (λ i l. ap₂ (λ a b. G a b) (place_mod n K i l) (place_div n K i l)))
      ∙ sym (Sums.total_last o L K (λ k. total o n (λ i. G i k)))

  dot_grid : (n K : ℕ) (r h : ℕ → ℕ → M) (c : ℕ) → Bounded o n K h → dot (series o) n r h c ≡ total o (n * K) (λ q. at n h q · place_list o n r q c)
  dot_grid n K r h c b =
      S.total_at o L n (λ i. (series o).product (r i) (h i)) c
      ∙ Sums.total_ext o L n (λ i. (series o).product (r i) (h i) c) (λ i. total o K (λ k. h i k · shift o k (r i) c)) (λ i l. product_as_shifts K (r i) (h i) c (b i l))
      ∙ Sums.total_swap o L n K (λ i k. h i k · shift o k (r i) c)
      ∙ sym (total_grid n K (λ i k. h i k · shift o k (r i) c))

  -- the product of the row with a vector, as a combination of the lists at the places below Q
  pub dot_places : (n Q : ℕ) (r h : ℕ → ℕ → M) (c : ℕ) → zero < n → BelowPlace o n Q h
      → dot (series o) n r h c ≡ total o Q (λ q. at n h q · place_list o n r q c)
  dot_places n Q r h c p b =
      dot_grid n Q r h c (bounded_of_below_place n p o Q Q h (le_times n Q p) b)
      ∙ Spans.total_truncate o L Q (n * Q) (λ q. at n h q · place_list o n r q c) (le_times n Q p) (λ q l a. ap (λ t. t · place_list o n r q c) (below_place_at n p o Q h b q l) ∙ Sums.zero_product o L (place_list o n r q c))

  -- a combination of the lists below Q is the product of the row with a vector
  pub dot_spread : (n Q : ℕ) (r : ℕ → ℕ → M) (x : ℕ → M) (c : ℕ) → zero < n
      → dot (series o) n r (spread n (Rows.cut o Q x)) c ≡ total o Q (λ q. x q · place_list o n r q c)
  dot_spread n Q r x c p =
      dot_places n Q r (spread n (Rows.cut o Q x)) c p (λ i k a l. Rows.cut_high o Q x (n * k plus i) l)
      ∙ Sums.total_ext o L Q (λ q. at n (spread n (Rows.cut o Q x)) q · place_list o n r q c) (λ q. x q · place_list o n r q c) (λ q l. ap (λ t. t · place_list o n r q c) (at_spread n p (Rows.cut o Q x) q ∙ Rows.cut_low o Q x q l))

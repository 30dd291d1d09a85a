-- A coefficient of a product, one term at a time. Main results: terms_none (where the terms begin), terms_more,
-- terms_all (where they end), streams_more and streams_all (the sum over the streams).
use Rattle.std.proofs.Common.{◌≡◌, ℕ, suc, ◌+◌ as ◌plus◌, ◌-◌, ◌<◌, ◌≤◌, sym, ap, ◌∙◌, ap₂, add-one, arith}
use Rattle.algebra.specs.Rings.{RingOps, RingLaws}
use Rattle.algebra.specs.Series.{total, dot, series}
use Rattle.algebra.proofs.Sums as Sums
use Rattle.algebra.proofs.Series as S

-- the first k terms of coefficient t of the product of x and y
abbrev pub terms : {M : Type 0} → RingOps M → (ℕ → M) → (ℕ → M) → ℕ → ℕ → M
terms o x y t k = total o k (λ j. o.product (y j) (x (t - j)))

-- coefficient t of the products of the first k streams with their polynomials
abbrev pub streams : {M : Type 0} → RingOps M → (ℕ → ℕ → M) → (ℕ → ℕ → M) → ℕ → ℕ → M
streams o v u t k = total o k (λ i. (series o).product (v i) (u i) t)

module _ {M : Type 0} (o : RingOps M) (L : RingLaws o) where
  open o use {zero as O, sum as ◌+◌, product as ◌·◌}

  infixl 60 ◌+◌
  infixl 70 ◌·◌
  pub terms_none : (x y : ℕ → M) (t k : ℕ) → ((j : ℕ) → j < k → x (t - j) ≡ O) → terms o x y t k ≡ O
  terms_none x y t k e = Sums.total_zero o L k (λ j. y j · x (t - j)) (λ j h. ap (λ z. y j · z) (e j h) ∙ Sums.product_zero o L (y j))

  pub terms_more : (x y : ℕ → M) (t k : ℕ) (s a b : M) → s ≡ terms o x y t k → b ≡ y k → a ≡ x (t - k) → s + b · a ≡ terms o x y t (k plus 1)
  terms_more x y t k s a b e f g =
      ap₂ ◌+◌ e (ap₂ ◌·◌ f g)
      ∙ sym (Sums.total_last o L k (λ j. y j · x (t - j)))
      ∙ ap (terms o x y t) (sym (add-one k))

  pub terms_all : (x y : ℕ → M) (t k : ℕ) → k ≤ suc t → ((j : ℕ) → k ≤ j → j ≤ t → y j ≡ O) → terms o x y t k ≡ (series o).product x y t
  terms_all x y t k h e =
      sym (Sums.total_split o L k (suc t - k) f
      ∙ ap (λ z. total o k f + z) (Sums.total_zero o L (suc t - k) (λ j. f (k plus j)) (λ j l. ap (λ z. z · x (t - (k plus j))) (e (k plus j) (omega arith) (omega arith)) ∙ Sums.zero_product o L (x (t - (k plus j)))))
      ∙ L.sum_zero (total o k f))
      ∙ ap (λ n. total o n f) (let n : k plus (suc t - k) ≡ suc t = omega arith in n)
      ∙ sym (S.coefficient_is_sum o L y x t)
      ∙ ap (λ (z : ℕ → M). z t) ((S.series_laws o L).product_comm y x)
    where
      f : ℕ → M
      f j = y j · x (t - j)

  pub streams_more : (v u : ℕ → ℕ → M) (t k : ℕ) (s a : M) → s ≡ streams o v u t k → a ≡ (series o).product (v k) (u k) t → s + a ≡ streams o v u t (k plus 1)
  streams_more v u t k s a e f =
      ap₂ ◌+◌ e f
      ∙ sym (Sums.total_last o L k (λ i. (series o).product (v i) (u i) t))
      ∙ ap (streams o v u t) (sym (add-one k))

  pub streams_all : (v u : ℕ → ℕ → M) (t k n : ℕ) → k ≡ n → streams o v u t k ≡ dot (series o) n v u t
  streams_all v u t k n e = ap (streams o v u t) e ∙ sym (S.total_at o L n (λ i. (series o).product (v i) (u i)) t)

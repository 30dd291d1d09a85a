-- Finite sums in a commutative ring. Main results: total_sum and total_scale (linearity), total_swap, total_split, total_one (one nonzero
-- term), total_skip (one term taken out).
use mathlib.Core.Path.{◌≡◌, refl, sym, ap, ap₂, ◌∙◌}
use Prim.Native.Nat.{ℕ, zero, suc, ◌<◌, zero-le, suc-le-suc, ◌+◌ as ◌plus◌}
use native.Mathlib.Nat.{suc-add, zero-add, le_of_suc-le-suc, not-suc-le-zero, suc-ne-zero, suc_inj}
use Rattle.algebra.specs.Rings.{RingOps, RingLaws}
use Rattle.algebra.proofs.Rows.{skip}
use Rattle.algebra.specs.Series.{total}

module _ {R : Type 0} (o : RingOps R) (L : RingLaws o) where
  open o use {zero as 𝟘, one as 𝟙, sum as ◌+◌, negative as -◌, product as ◌·◌}

  infixl 60 ◌+◌
  infixl 70 ◌·◌
  infix 80 -◌
  pub zero_sum : (x : R) → 𝟘 + x ≡ x
  zero_sum x = L.sum_comm 𝟘 x ∙ L.sum_zero x

  pub one_product : (x : R) → 𝟙 · x ≡ x
  one_product x = L.product_comm 𝟙 x ∙ L.product_one x

  pub sum_product : (x y z : R) → (x + y) · z ≡ x · z + y · z
  sum_product x y z = L.product_comm (x + y) z ∙ L.product_sum z x y ∙ ap₂ ◌+◌ (L.product_comm z x) (L.product_comm z y)

  pub sum_left_comm : (x y z : R) → x + (y + z) ≡ y + (x + z)
  sum_left_comm x y z = sym (L.sum_assoc x y z) ∙ ap (λ t. t + z) (L.sum_comm x y) ∙ L.sum_assoc y x z

  pub product_left_comm : (x y z : R) → x · (y · z) ≡ y · (x · z)
  product_left_comm x y z = sym (L.product_assoc x y z) ∙ ap (λ t. t · z) (L.product_comm x y) ∙ L.product_assoc y x z

  pub sum_interchange : (a b c d : R) → (a + b) + (c + d) ≡ (a + c) + (b + d)
  sum_interchange a b c d = L.sum_assoc a b (c + d) ∙ ap (λ t. a + t) (sum_left_comm b c d) ∙ sym (L.sum_assoc a c (b + d))

  pub sum_cancel : (x y z : R) → x + y ≡ x + z → y ≡ z
  sum_cancel x y z e = sym (back y) ∙ ap (λ t. (- x) + t) e ∙ back z
    where
      back : (t : R) → (- x) + (x + t) ≡ t
      back t = sym (L.sum_assoc (- x) x t) ∙ ap (λ w. w + t) (L.sum_comm (- x) x ∙ L.sum_negative x) ∙ zero_sum t

  pub product_zero : (x : R) → x · 𝟘 ≡ 𝟘
  product_zero x = sum_cancel (x · 𝟘) (x · 𝟘) 𝟘 (sym (L.product_sum x 𝟘 𝟘) ∙ ap (λ t. x · t) (L.sum_zero 𝟘) ∙ sym (L.sum_zero (x · 𝟘)))

  pub zero_product : (x : R) → 𝟘 · x ≡ 𝟘
  zero_product x = L.product_comm 𝟘 x ∙ product_zero x

  -- a negative is found by its sum
  pub negative_of : (x y : R) → x + y ≡ 𝟘 → y ≡ - x
  negative_of x y e = sum_cancel x y (- x) (e ∙ sym (L.sum_negative x))

  pub negative_zero : - 𝟘 ≡ 𝟘
  negative_zero = sym (negative_of 𝟘 𝟘 (L.sum_zero 𝟘))

  pub negative_negative : (x : R) → - (- x) ≡ x
  negative_negative x = sym (negative_of (- x) x (L.sum_comm (- x) x ∙ L.sum_negative x))

  pub negative_sum : (x y : R) → - (x + y) ≡ (- x) + (- y)
  negative_sum x y = sym (negative_of (x + y) ((- x) + (- y)) (sum_interchange x y (- x) (- y) ∙ ap₂ ◌+◌ (L.sum_negative x) (L.sum_negative y) ∙ L.sum_zero 𝟘))

  pub product_negative : (x y : R) → x · (- y) ≡ - (x · y)
  product_negative x y = negative_of (x · y) (x · (- y)) (sym (L.product_sum x y (- y)) ∙ ap (λ t. x · t) (L.sum_negative y) ∙ product_zero x)

  pub negative_product : (x y : R) → (- x) · y ≡ - (x · y)
  negative_product x y = L.product_comm (- x) y ∙ product_negative y x ∙ ap -◌ (L.product_comm y x)

  -- x = y when x - y is zero
  pub equal_of_difference : (x y : R) → x + (- y) ≡ 𝟘 → x ≡ y
  equal_of_difference x y e = sym (L.sum_zero x) ∙ ap (λ t. x + t) (sym (L.sum_comm (- y) y ∙ L.sum_negative y)) ∙ sym (L.sum_assoc x (- y) y) ∙ ap (λ t. t + y) e ∙ zero_sum y

  pub total_ext : (n : ℕ) (f g : ℕ → R) → ((k : ℕ) → k < n → f k ≡ g k) → total o n f ≡ total o n g
  total_ext zero f g e = refl
  total_ext (suc n) f g e = ap₂ ◌+◌ (e 0 (suc-le-suc zero-le)) (total_ext n (λ k. f (suc k)) (λ k. g (suc k)) (λ k h. e (suc k) (suc-le-suc h)))

  pub total_zero : (n : ℕ) (f : ℕ → R) → ((k : ℕ) → k < n → f k ≡ 𝟘) → total o n f ≡ 𝟘
  total_zero zero f e = refl
  total_zero (suc n) f e = ap₂ ◌+◌ (e 0 (suc-le-suc zero-le)) (total_zero n (λ k. f (suc k)) (λ k h. e (suc k) (suc-le-suc h))) ∙ L.sum_zero 𝟘

  pub total_sum : (n : ℕ) (f g : ℕ → R) → total o n (λ k. f k + g k) ≡ total o n f + total o n g
  total_sum zero f g = sym (L.sum_zero 𝟘)
  total_sum (suc n) f g = ap (λ t. (f 0 + g 0) + t) (total_sum n (λ k. f (suc k)) (λ k. g (suc k))) ∙ sum_interchange (f 0) (g 0) (total o n (λ k. f (suc k))) (total o n (λ k. g (suc k)))

  pub total_scale : (n : ℕ) (c : R) (f : ℕ → R) → total o n (λ k. c · f k) ≡ c · total o n f
  total_scale zero c f = sym (product_zero c)
  total_scale (suc n) c f = ap (λ t. c · f 0 + t) (total_scale n c (λ k. f (suc k))) ∙ sym (L.product_sum c (f 0) (total o n (λ k. f (suc k))))

  pub total_scale_right : (n : ℕ) (f : ℕ → R) (c : R) → total o n (λ k. f k · c) ≡ total o n f · c
  total_scale_right n f c = total_ext n (λ k. f k · c) (λ k. c · f k) (λ k h. L.product_comm (f k) c) ∙ total_scale n c f ∙ L.product_comm c (total o n f)

  pub total_negative : (n : ℕ) (f : ℕ → R) → total o n (λ k. - f k) ≡ - total o n f
  total_negative zero f = sym negative_zero
  total_negative (suc n) f = ap (λ t. (- f 0) + t) (total_negative n (λ k. f (suc k))) ∙ sym (negative_sum (f 0) (total o n (λ k. f (suc k))))

  pub total_swap : (n m : ℕ) (f : ℕ → ℕ → R) → total o n (λ i. total o m (λ j. f i j)) ≡ total o m (λ j. total o n (λ i. f i j))
  total_swap zero m f = sym (total_zero m (λ j. 𝟘) (λ k h. refl))
  total_swap (suc n) m f = ap (λ t. total o m (λ j. f 0 j) + t) (total_swap n m (λ i. f (suc i))) ∙ sym (total_sum m (λ j. f 0 j) (λ j. total o n (λ i. f (suc i) j)))

  -- the first n terms and the m behind them
  pub total_split : (n m : ℕ) (f : ℕ → R) → total o (n plus m) f ≡ total o n f + total o m (λ k. f (n plus k))
  total_split zero m f = rw (zero-add m) (sym (zero_sum (total o m (λ k. f (zero plus k))) ∙ total_ext m (λ k. f (zero plus k)) f (λ k h. ap f (zero-add k))))
  total_split (suc n) m f = rw (suc-add n m) (ap (λ t. f 0 + t) (total_split n m (λ k. f (suc k))) ∙ sym (L.sum_assoc (f 0) (total o n (λ k. f (suc k))) (total o m (λ k. f (suc (n plus k))))) ∙ ap (λ t. (f 0 + total o n (λ k. f (suc k))) + t) (total_ext m (λ k. f (suc (n plus k))) (λ k. f (suc n plus k)) (λ k h. ap f (sym (suc-add n k)))))

  pub total_last : (n : ℕ) (f : ℕ → R) → total o (suc n) f ≡ total o n f + f n
  total_last zero f = L.sum_comm (f 0) 𝟘
  total_last (suc n) f = ap (λ t. f 0 + t) (total_last n (λ k. f (suc k))) ∙ sym (L.sum_assoc (f 0) (total o n (λ k. f (suc k))) (f (suc n)))

  -- a sum with one nonzero term is that term
  pub total_one : (n p : ℕ) (f : ℕ → R) → p < n → ((k : ℕ) → k < n → (k ≡ p → ⊥) → f k ≡ 𝟘) → total o n f ≡ f p
  total_one zero p f h e = absurd (not-suc-le-zero h)
  total_one (suc n) zero f h e = ap (λ t. f 0 + t) (total_zero n (λ k. f (suc k)) (λ k b. e (suc k) (suc-le-suc b) (suc-ne-zero k))) ∙ L.sum_zero (f 0)
  total_one (suc n) (suc p) f h e = ap₂ ◌+◌ (e 0 (suc-le-suc zero-le) (λ z. suc-ne-zero p (sym z))) (total_one n p (λ k. f (suc k)) (le_of_suc-le-suc h) (λ k b q. e (suc k) (suc-le-suc b) (λ z. q (suc_inj z)))) ∙ zero_sum (f (suc p))

  -- one term taken out of a sum
  pub total_skip : (n p : ℕ) (f : ℕ → R) → p < suc n → total o (suc n) f ≡ f p + total o n (λ j. f (skip p j))
  total_skip n zero f h = refl
  total_skip zero (suc p) f h = absurd (not-suc-le-zero (le_of_suc-le-suc h))
  total_skip (suc n) (suc p) f h =
      ap (λ t. f 0 + t) (total_skip n p (λ k. f (suc k)) (le_of_suc-le-suc h))
      ∙ sum_left_comm (f 0) (f (suc p)) (total o n (λ j. f (suc (skip p j))))

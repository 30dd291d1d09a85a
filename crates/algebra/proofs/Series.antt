-- Series over a commutative ring are a commutative ring. Main results: series_laws, coefficient_is_sum (a coefficient of a product as the
-- plain sum), shift_at and shift_low (the coefficients of s^n f), shift_product, constant_product.
use mathlib.Core.Path.{◌≡◌, refl, sym, ap, ap₂, ◌∙◌, fun_ext}
use mathlib.Core.List.{[], ◌∷◌}
use Prim.Native.Nat.{ℕ, zero, suc, ◌<◌, ◌-◌, ◌+◌ as ◌plus◌}
use native.Mathlib.Nat.{suc-add, zero-add, sub-zero, suc-sub-suc, le_of_suc-le-suc, not-suc-le-zero}
use native.Mathlib.Omega.{arith}
use Rattle.algebra.specs.Rings.{RingOps, RingLaws}
use Rattle.algebra.specs.Series.{total, coefficient, constant, series, shift, scale}
use Rattle.algebra.proofs.Sums as Sums
use Rattle.algebra.proofs.Solver.{solve, var, ◌⊞◌, ◌⊠◌}

module _ {M : Type 0} (o : RingOps M) (L : RingLaws o) where
  open o use {zero as O, one as I, sum as ◌+◌, negative as -◌, product as ◌·◌}

  infixl 60 ◌+◌
  infixl 70 ◌·◌
  infix 80 -◌
  abbrev tail : (ℕ → M) → ℕ → M
  tail f k = f (suc k)

  coefficient_sum : (f g h : ℕ → M) (k : ℕ) → coefficient o f (λ i. g i + h i) k ≡ coefficient o f g k + coefficient o f h k
  coefficient_sum f g h zero = L.product_sum (f 0) (g 0) (h 0)
  coefficient_sum f g h (suc k) =
      ap₂ ◌+◌ (L.product_sum (f 0) (g (suc k)) (h (suc k))) (coefficient_sum (tail f) g h k)
      ∙ Sums.sum_interchange o L (f 0 · g (suc k)) (f 0 · h (suc k)) (coefficient o (tail f) g k) (coefficient o (tail f) h k)

  sum_coefficient : (f g h : ℕ → M) (k : ℕ) → coefficient o (λ i. f i + g i) h k ≡ coefficient o f h k + coefficient o g h k
  sum_coefficient f g h zero = Sums.sum_product o L (f 0) (g 0) (h 0)
  sum_coefficient f g h (suc k) =
      ap₂ ◌+◌ (Sums.sum_product o L (f 0) (g 0) (h (suc k))) (sum_coefficient (tail f) (tail g) h k)
      ∙ Sums.sum_interchange o L (f 0 · h (suc k)) (g 0 · h (suc k)) (coefficient o (tail f) h k) (coefficient o (tail g) h k)

  scale_coefficient : (x : M) (f g : ℕ → M) (k : ℕ) → coefficient o (λ i. x · f i) g k ≡ x · coefficient o f g k
  scale_coefficient x f g zero = L.product_assoc x (f 0) (g 0)
  scale_coefficient x f g (suc k) =
      ap₂ ◌+◌ (L.product_assoc x (f 0) (g (suc k))) (scale_coefficient x (tail f) g k)
      ∙ sym (L.product_sum x (f 0 · g (suc k)) (coefficient o (tail f) g k))

  -- the sum taken from the other end
  coefficient_last : (f g : ℕ → M) (k : ℕ) → coefficient o f g (suc k) ≡ coefficient o f (tail g) k + f (suc k) · g 0
  coefficient_last f g zero = refl
  coefficient_last f g (suc k) =
      ap (λ t. f 0 · g (suc (suc k)) + t) (coefficient_last (tail f) g k)
      ∙ sym (L.sum_assoc (f 0 · g (suc (suc k))) (coefficient o (tail f) (tail g) k) (f (suc (suc k)) · g 0))

  coefficient_comm : (f g : ℕ → M) (k : ℕ) → coefficient o f g k ≡ coefficient o g f k
  coefficient_comm f g zero = L.product_comm (f 0) (g 0)
  coefficient_comm f g (suc k) =
      ap₂ ◌+◌ (L.product_comm (f 0) (g (suc k))) (coefficient_comm (tail f) g k)
      ∙ L.sum_comm (g (suc k) · f 0) (coefficient o g (tail f) k)
      ∙ sym (coefficient_last g f k)

  coefficient_assoc : (f g h : ℕ → M) (k : ℕ) → coefficient o (coefficient o f g) h k ≡ coefficient o f (coefficient o g h) k
  coefficient_assoc f g h zero = L.product_assoc (f 0) (g 0) (h 0)
  coefficient_assoc f g h (suc k) =
      ap (λ t. f 0 · g 0 · h (suc k) + t) (sum_coefficient (λ i. f 0 · g (suc i)) (coefficient o (tail f) g) h k ∙ ap₂ ◌+◌ (scale_coefficient (f 0) (tail g) h k) (coefficient_assoc (tail f) g h k))
      ∙ solve o L (f 0 ∷ g 0 ∷ h (suc k) ∷ coefficient o (tail g) h k ∷ coefficient o (tail f) (coefficient o g h) k ∷ []) (var 0 ⊠ var 1 ⊠ var 2 ⊞ (var 0 ⊠ var 3 ⊞ var 4)) (var 0 ⊠ (var 1 ⊠ var 2 ⊞ var 3) ⊞ var 4) refl

  coefficient_one : (f : ℕ → M) (k : ℕ) → coefficient o f (constant o I) k ≡ f k
  coefficient_one f zero = L.product_one (f 0)
  coefficient_one f (suc k) = ap₂ ◌+◌ (Sums.product_zero o L (f 0)) (coefficient_one (tail f) k) ∙ Sums.zero_sum o L (f (suc k))

  pub series_laws : RingLaws (series o)
  series_laws = record {
    sum_assoc = λ f g h. fun_ext (λ k. L.sum_assoc (f k) (g k) (h k));
    sum_comm = λ f g. fun_ext (λ k. L.sum_comm (f k) (g k));
    sum_zero = λ f. fun_ext (λ k. L.sum_zero (f k));
    sum_negative = λ f. fun_ext (λ k. L.sum_negative (f k));
    product_assoc = λ f g h. fun_ext (coefficient_assoc f g h);
    product_comm = λ f g. fun_ext (coefficient_comm f g);
    product_one = λ f. fun_ext (coefficient_one f);
    product_sum = λ f g h. fun_ext (coefficient_sum f g h);
  }

  pub coefficient_is_sum : (f g : ℕ → M) (k : ℕ) → coefficient o f g k ≡ total o (suc k) (λ i. f i · g (k - i))
  coefficient_is_sum f g zero = sym (L.sum_zero (f 0 · g 0))
  coefficient_is_sum f g (suc k) =
      ap₂ ◌+◌
      (ap (λ t. f 0 · g t) (sym (sub-zero (suc k))))
      (coefficient_is_sum (tail f) g k ∙ Sums.total_ext o L (suc k) (λ i. f (suc i) · g (k - i)) (λ i. f (suc i) · g (suc k - suc i)) (λ i h. ap (λ t. f (suc i) · g t) (sym (suc-sub-suc k i))))

  -- a coefficient vanishes with its terms
  pub coefficient_zero : (f g : ℕ → M) (k : ℕ) → ((i j : ℕ) → i plus j ≡ k → f i · g j ≡ O) → coefficient o f g k ≡ O
  coefficient_zero f g zero h = h 0 0 refl
  coefficient_zero f g (suc k) h = ap₂ ◌+◌ (h 0 (suc k) (zero-add (suc k))) (coefficient_zero (tail f) g k (λ i j e. h (suc i) j (suc-add i j ∙ ap suc e))) ∙ L.sum_zero O

  -- a coefficient with one nonzero term is that term
  pub coefficient_one_term : (f g : ℕ → M) (k i j : ℕ) → i plus j ≡ k
      → ((p q : ℕ) → p plus q ≡ k → (p ≡ i → ⊥) → f p · g q ≡ O) → coefficient o f g k ≡ f i · g j
  coefficient_one_term f g zero zero j e h = ap (λ t. f 0 · g t) (sym (sym (zero-add j) ∙ e))
  coefficient_one_term f g zero (suc i) j e h = absurd (omega arith)
  coefficient_one_term f g (suc k) zero j e h =
      ap₂ ◌+◌ (ap (λ t. f 0 · g t) (sym (sym (zero-add j) ∙ e))) (coefficient_zero (tail f) g k (λ p q d. h (suc p) q (suc-add p q ∙ ap suc d) (λ z. omega arith)))
      ∙ L.sum_zero (f 0 · g j)
  coefficient_one_term f g (suc k) (suc i) j e h =
      ap₂ ◌+◌ (h 0 (suc k) (zero-add (suc k)) (λ z. omega arith)) (coefficient_one_term (tail f) g k i j (omega arith) (λ p q d n. h (suc p) q (suc-add p q ∙ ap suc d) (λ z. n (omega arith))))
      ∙ Sums.zero_sum o L (f (suc i) · g j)

  pub shift_at : (n k j : ℕ) (f : ℕ → M) → k ≡ n plus j → shift o n f k ≡ f j
  shift_at zero k j f e = ap f (e ∙ zero-add j)
  shift_at (suc n) zero j f e = absurd (omega arith)
  shift_at (suc n) (suc k) j f e = shift_at n k j f (omega arith)

  pub shift_low : (n k : ℕ) (f : ℕ → M) → k < n → shift o n f k ≡ O
  shift_low zero k f h = absurd (not-suc-le-zero h)
  shift_low (suc n) zero f h = refl
  shift_low (suc n) (suc k) f h = shift_low n k f (le_of_suc-le-suc h)

  shift_coefficient : (n : ℕ) (f g : ℕ → M) (k : ℕ) → coefficient o (shift o n f) g k ≡ shift o n (coefficient o f g) k
  shift_coefficient zero f g k = refl
  shift_coefficient (suc n) f g zero = Sums.zero_product o L (g 0)
  shift_coefficient (suc n) f g (suc k) = ap₂ ◌+◌ (Sums.zero_product o L (g (suc k))) (shift_coefficient n f g k) ∙ Sums.zero_sum o L (shift o n (coefficient o f g) k)

  -- (s^n f) g = s^n (f g)
  pub shift_product : (n : ℕ) (f g : ℕ → M) → (series o).product (shift o n f) g ≡ shift o n ((series o).product f g)
  shift_product n f g = fun_ext (shift_coefficient n f g)

  pub product_shift : (n : ℕ) (f g : ℕ → M) → (series o).product f (shift o n g) ≡ shift o n ((series o).product f g)
  product_shift n f g = series_laws.product_comm f (shift o n g) ∙ shift_product n g f ∙ ap (shift o n) (series_laws.product_comm g f)

  shift_sum_at : (n : ℕ) (f g : ℕ → M) (k : ℕ) → shift o n (λ i. f i + g i) k ≡ shift o n f k + shift o n g k
  shift_sum_at zero f g k = refl
  shift_sum_at (suc n) f g zero = sym (L.sum_zero O)
  shift_sum_at (suc n) f g (suc k) = shift_sum_at n f g k

  pub shift_sum : (n : ℕ) (f g : ℕ → M) → shift o n ((series o).sum f g) ≡ (series o).sum (shift o n f) (shift o n g)
  shift_sum n f g = fun_ext (shift_sum_at n f g)

  shift_zero_at : (n k : ℕ) → shift o n (λ i. O) k ≡ O
  shift_zero_at zero k = refl
  shift_zero_at (suc n) zero = refl
  shift_zero_at (suc n) (suc k) = shift_zero_at n k

  pub shift_zero : (n : ℕ) → shift o n (series o).zero ≡ (series o).zero
  shift_zero n = fun_ext (shift_zero_at n)

  shift_shift_at : (n m : ℕ) (f : ℕ → M) (k : ℕ) → shift o n (shift o m f) k ≡ shift o (n plus m) f k
  shift_shift_at zero m f k = ap (λ t. shift o t f k) (sym (zero-add m))
  shift_shift_at (suc n) m f zero = ap (λ t. shift o t f 0) (sym (suc-add n m))
  shift_shift_at (suc n) m f (suc k) = shift_shift_at n m f k ∙ ap (λ t. shift o t f (suc k)) (sym (suc-add n m))

  pub shift_shift : (n m : ℕ) (f : ℕ → M) → shift o n (shift o m f) ≡ shift o (n plus m) f
  shift_shift n m f = fun_ext (shift_shift_at n m f)

  constant_coefficient : (x : M) (f : ℕ → M) (k : ℕ) → coefficient o (constant o x) f k ≡ x · f k
  constant_coefficient x f zero = refl
  constant_coefficient x f (suc k) = ap (λ t. x · f (suc k) + t) (coefficient_zero (λ i. O) f k (λ i j e. Sums.zero_product o L (f j))) ∙ L.sum_zero (x · f (suc k))

  -- the product by a constant is the multiple by its member
  pub constant_product : (x : M) (f : ℕ → M) → (series o).product (constant o x) f ≡ scale o x f
  constant_product x f = fun_ext (constant_coefficient x f)

  -- s^n (x f) as a product
  pub shift_constant_product : (n : ℕ) (x : M) (f : ℕ → M) → (series o).product (shift o n (constant o x)) f ≡ shift o n (scale o x f)
  shift_constant_product n x f = shift_product n (constant o x) f ∙ ap (shift o n) (constant_product x f)

  -- the coefficients of a sum of series
  pub total_at : (n : ℕ) (f : ℕ → ℕ → M) (k : ℕ) → total (series o) n f k ≡ total o n (λ i. f i k)
  total_at zero f k = refl
  total_at (suc n) f k = ap (λ t. f 0 k + t) (total_at n (λ i. f (suc i)) k)

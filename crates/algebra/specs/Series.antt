-- Finite sums, series of members with their product, polynomials as bounded series, exact degrees. Every crate's clauses on polynomials cite it.
use Rattle.std.specs.Prelude.{◌≡◌, ℕ, zero, suc, ◌≤◌, ◌+◌}
use Rattle.algebra.specs.Rings.{RingOps}

-- f 0 + f 1 + .. + f (n - 1)
abbrev pub total : {R : Type 0} → RingOps R → ℕ → (ℕ → R) → R
total o zero f = o.zero
total o (suc n) f = o.sum (f 0) (total o n (λ k. f (suc k)))

-- x 0 · y 0 + .. + x (n - 1) · y (n - 1)
abbrev pub dot : {R : Type 0} → RingOps R → ℕ → (ℕ → R) → (ℕ → R) → R
dot o n x y = total o n (λ i. o.product (x i) (y i))

-- k 0 + k 1 + .. + k (n - 1), of numbers
abbrev pub sum_below : ℕ → (ℕ → ℕ) → ℕ
sum_below zero k = 0
sum_below (suc n) k = k 0 + sum_below n (λ j. k (suc j))

-- A series gives the coefficient of each power of s. Coefficient k of a product: the sum of f i · g j over i + j = k.
abbrev pub coefficient : {M : Type 0} → RingOps M → (ℕ → M) → (ℕ → M) → ℕ → M
coefficient o f g zero = o.product (f 0) (g 0)
coefficient o f g (suc k) = o.sum (o.product (f 0) (g (suc k))) (coefficient o (λ i. f (suc i)) g k)

-- x as a series: x s^0
abbrev pub constant : {M : Type 0} → RingOps M → M → ℕ → M
constant o x zero = x
constant o x (suc k) = o.zero

-- the operations on series
abbrev pub series : {M : Type 0} → RingOps M → RingOps (ℕ → M)
series o = record {
  zero = λ k. o.zero;
  one = constant o o.one;
  sum = λ f g k. o.sum (f k) (g k);
  negative = λ f k. o.negative (f k);
  product = coefficient o;
}

-- s^n f
abbrev pub shift : {M : Type 0} → RingOps M → ℕ → (ℕ → M) → ℕ → M
shift o zero f k = f k
shift o (suc n) f zero = o.zero
shift o (suc n) f (suc k) = shift o n f k

-- x f, for a member x
abbrev pub scale : {M : Type 0} → RingOps M → M → (ℕ → M) → ℕ → M
scale o x f k = o.product x (f k)

-- f is a polynomial whose coefficients from s^N on are zero
abbrev pub Below : {M : Type 0} → RingOps M → ℕ → (ℕ → M) → Type 0
Below o N f = (k : ℕ) → N ≤ k → f k ≡ o.zero

-- f is a polynomial of degree e: its coefficient of s^e is not zero, and those above are
pub record Degree {M : Type 0} (o : RingOps M) (f : ℕ → M) (e : ℕ) : Type 0 where
  pub top : f e ≡ o.zero → ⊥
  pub below : Below o (suc e) f

-- f is a polynomial
abbrev pub Polynomial : {M : Type 0} → RingOps M → (ℕ → M) → Type 0
Polynomial o f = (N : ℕ) × Below o N f

-- Rows of values, indexed by numbers. Main results: skip (all numbers but one) and slot (a value put at one place) with their laws, cut (the first values of a
-- row, and zeros behind them), choose (what exists at each place is the value of one row).
use mathlib.Core.Path.{◌≡◌, refl, ap}
use Prim.Native.Nat.{ℕ, zero, suc, ◌≤◌, ◌<◌, zero-le, suc-le-suc}
use native.Mathlib.Nat.{le_of_suc-le-suc, not-suc-le-zero}
use native.Mathlib.Omega.{arith}
use Rattle.algebra.specs.Rings.{RingOps}

-- all numbers but p, in rising order
abbrev pub skip : ℕ → ℕ → ℕ
skip zero j = suc j
skip (suc p) zero = zero
skip (suc p) (suc j) = suc (skip p j)

-- v at p, and y in order at the other places
abbrev pub slot : {R : Type 0} → ℕ → R → (ℕ → R) → ℕ → R
slot zero v y zero = v
slot zero v y (suc k) = y k
slot (suc p) v y zero = y 0
slot (suc p) v y (suc k) = slot p v (λ j. y (suc j)) k

pub skip_lt : (p n j : ℕ) → j < n → skip p j < suc n
skip_lt zero n j h = suc-le-suc h
skip_lt (suc p) zero j h = absurd (not-suc-le-zero h)
skip_lt (suc p) (suc n) zero h = suc-le-suc zero-le
skip_lt (suc p) (suc n) (suc j) h = suc-le-suc (skip_lt p n j (le_of_suc-le-suc h))

pub skip_ne : (p j : ℕ) → skip p j ≡ p → ⊥
skip_ne zero j e = omega arith
skip_ne (suc p) zero e = omega arith
skip_ne (suc p) (suc j) e = skip_ne p j (omega arith)

-- every number but p is skipped to
pub unskip : (q p j : ℕ) → p < suc q → j < suc q → (j ≡ p → ⊥) → (i : ℕ) × (i < q) × (skip p i ≡ j)
unskip q zero zero b h n = absurd (n refl)
unskip q zero (suc j) b h n = (j, le_of_suc-le-suc h, refl)
unskip zero (suc p) j b h n = absurd (not-suc-le-zero (le_of_suc-le-suc b))
unskip (suc q) (suc p) zero b h n = (0, suc-le-suc zero-le, refl)
unskip (suc q) (suc p) (suc j) b h n = let x = unskip q p j (le_of_suc-le-suc b) (le_of_suc-le-suc h) (λ e. n (ap suc e)) in (suc x.0, suc-le-suc x.1, ap suc x.2)

pub slot_at : {R : Type 0} (p : ℕ) (v : R) (y : ℕ → R) → slot p v y p ≡ v
slot_at zero v y = refl
slot_at (suc p) v y = slot_at p v (λ j. y (suc j))

pub slot_skip : {R : Type 0} (p : ℕ) (v : R) (y : ℕ → R) (j : ℕ) → slot p v y (skip p j) ≡ y j
slot_skip zero v y j = refl
slot_skip (suc p) v y zero = refl
slot_skip (suc p) v y (suc j) = slot_skip p v (λ i. y (suc i)) j

-- x everywhere but at p
pub slot_off : {R : Type 0} (p : ℕ) (v x : R) (q : ℕ) → (q ≡ p → ⊥) → slot p v (λ j. x) q ≡ x
slot_off zero v x zero n = absurd (n refl)
slot_off zero v x (suc q) n = refl
slot_off (suc p) v x zero n = refl
slot_off (suc p) v x (suc q) n = slot_off p v x q (λ e. n (ap suc e))

pub slot_both : {R : Type 0} (P : R → Type 0) (p : ℕ) (v x : R) (q : ℕ) → P v → P x → P (slot p v (λ j. x) q)
slot_both P zero v x zero a b = a
slot_both P zero v x (suc q) a b = b
slot_both P (suc p) v x zero a b = b
slot_both P (suc p) v x (suc q) a b = slot_both P p v x q a b

pub slot_all : {R : Type 0} (P : R → Type 0) (n p : ℕ) (v : R) (y : ℕ → R) → p < suc n → P v
    → ((j : ℕ) → j < n → P (y j)) → (k : ℕ) → k < suc n → P (slot p v y k)
slot_all P n zero v y h a b zero l = a
slot_all P n zero v y h a b (suc k) l = b k (le_of_suc-le-suc l)
slot_all P zero (suc p) v y h a b k l = absurd (not-suc-le-zero (le_of_suc-le-suc h))
slot_all P (suc n) (suc p) v y h a b zero l = b 0 (suc-le-suc zero-le)
slot_all P (suc n) (suc p) v y h a b (suc k) l = slot_all P n p v (λ j. y (suc j)) (le_of_suc-le-suc h) a (λ j i. b (suc j) (suc-le-suc i)) k (le_of_suc-le-suc l)

-- what exists at each place below q is the value of one function
pub choose : {A : Type 0} (B : ℕ → A → Type 0) (default : A) (q : ℕ) → ((j : ℕ) → j < q → (x : A) × B j x)
    → (f : ℕ → A) × ((j : ℕ) → j < q → B j (f j))
choose B default zero h = (λ j. default, λ j l. absurd (not-suc-le-zero l))
choose {A} B default (suc q) h = go (h 0 (suc-le-suc zero-le)) (choose (λ j. B (suc j)) default q (λ j l. h (suc j) (suc-le-suc l)))
  where
    holds : (x : A) (f : ℕ → A) → B 0 x → ((j : ℕ) → j < q → B (suc j) (f j)) → (j : ℕ) → j < suc q → B j (slot 0 x f j)
    holds x f b c zero l = b
    holds x f b c (suc j) l = c j (le_of_suc-le-suc l)

    go : (x : A) × B 0 x → (f : ℕ → A) × ((j : ℕ) → j < q → B (suc j) (f j)) → (f : ℕ → A) × ((j : ℕ) → j < suc q → B j (f j))
    go x f = (slot 0 x.0 f.0, holds x.0 f.0 x.1 f.1)

pub slot_low : {R : Type 0} (p : ℕ) (v : R) (x : ℕ → R) (q : ℕ) → q < p → slot p v x q ≡ x q
slot_low zero v x q h = absurd (not-suc-le-zero h)
slot_low (suc p) v x zero h = refl
slot_low (suc p) v x (suc q) h = slot_low p v (λ i. x (suc i)) q (le_of_suc-le-suc h)

-- the first N of the members x, and zeros behind them
abbrev pub cut : {R : Type 0} → RingOps R → ℕ → (ℕ → R) → ℕ → R
cut o zero x j = o.zero
cut o (suc N) x zero = x 0
cut o (suc N) x (suc j) = cut o N (λ i. x (suc i)) j

module _ {R : Type 0} (o : RingOps R) where
  pub cut_low : (N : ℕ) (x : ℕ → R) (j : ℕ) → j < N → cut o N x j ≡ x j
  cut_low zero x j l = absurd (not-suc-le-zero l)
  cut_low (suc N) x zero l = refl
  cut_low (suc N) x (suc j) l = cut_low N (λ a. x (suc a)) j (le_of_suc-le-suc l)

  pub cut_high : (N : ℕ) (x : ℕ → R) (j : ℕ) → N ≤ j → cut o N x j ≡ o.zero
  cut_high zero x j l = refl
  cut_high (suc N) x zero l = absurd (not-suc-le-zero l)
  cut_high (suc N) x (suc j) l = cut_high N (λ a. x (suc a)) j (le_of_suc-le-suc l)

  pub cut_in : (P : R → Type 0) (N : ℕ) (x : ℕ → R) → P o.zero → ((a : ℕ) → a < N → P (x a)) → (j : ℕ) → P (cut o N x j)
  cut_in P zero x z q j = z
  cut_in P (suc N) x z q zero = q 0 (suc-le-suc zero-le)
  cut_in P (suc N) x z q (suc j) = cut_in P N (λ a. x (suc a)) z (λ a l. q (suc a) (suc-le-suc l)) j

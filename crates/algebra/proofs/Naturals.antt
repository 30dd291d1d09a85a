-- Bounded searches among numbers. Main results: first_below (the first number with a decidable property), all_or_not, prefix (of numbers that
-- never fall, those up to N come first), common_top (a bound of finitely many numbers).
use mathlib.Core.Path.{◌≡◌, ap}
use mathlib.Core.Logic.{◌⊎◌, inl, inr}
use Prim.Native.Nat.{ℕ, zero, suc, ◌≤◌, ◌<◌, zero-le, suc-le-suc, max, ◌+◌, ◌-◌}
use native.Mathlib.Nat.{le_of_suc-le-suc, not-suc-le-zero, le-max_left, le-max_right, le_trans, le_refl}
use native.Mathlib.Decide.{dec_lt}
use native.Mathlib.Omega.{arith}

-- the first number below K with a property, or none
pub first_below : (K : ℕ) (Q : ℕ → Type 0) → ((k : ℕ) → Dec (Q k))
    → ((k : ℕ) → k < K → Q k → ⊥) ⊎ ((k : ℕ) × (k < K) × Q k × ((l : ℕ) → l < k → Q l → ⊥))
first_below zero Q dec = inl (λ k h. absurd (not-suc-le-zero h))
first_below (suc K) Q dec = go (dec 0) (first_below K (λ k. Q (suc k)) (λ k. dec (suc k)))
  where
    none : (Q 0 → ⊥) → ((k : ℕ) → k < K → Q (suc k) → ⊥) → (k : ℕ) → k < suc K → Q k → ⊥
    none n r zero h = n
    none n r (suc k) h = r k (le_of_suc-le-suc h)

    earlier : (Q 0 → ⊥) → (k : ℕ) → ((l : ℕ) → l < k → Q (suc l) → ⊥) → (l : ℕ) → l < suc k → Q l → ⊥
    earlier n k r zero h = n
    earlier n k r (suc l) h = r l (le_of_suc-le-suc h)

    go : Dec (Q 0)
        → ((k : ℕ) → k < K → Q (suc k) → ⊥) ⊎ ((k : ℕ) × (k < K) × Q (suc k) × ((l : ℕ) → l < k → Q (suc l) → ⊥))
        → ((k : ℕ) → k < suc K → Q k → ⊥) ⊎ ((k : ℕ) × (k < suc K) × Q k × ((l : ℕ) → l < k → Q l → ⊥))
    go (yes q) r = inr (0, suc-le-suc zero-le, q, λ l h. absurd (not-suc-le-zero h))
    go (no n) (inl r) = inl (none n r)
    go (no n) (inr (k, h, q, f)) = inr (suc k, suc-le-suc h, q, earlier n k f)

-- a property holds of all numbers below n, or fails at one
pub all_or_not : (n : ℕ) (A B : ℕ → Type 0) → ((i : ℕ) → i < n → A i ⊎ B i) → ((i : ℕ) → i < n → A i) ⊎ ((i : ℕ) × (i < n) × B i)
all_or_not zero A B d = inl (λ i h. absurd (not-suc-le-zero h))
all_or_not (suc n) A B d = go (d 0 (suc-le-suc zero-le)) (all_or_not n (λ i. A (suc i)) (λ i. B (suc i)) (λ i h. d (suc i) (suc-le-suc h)))
  where
    all : A 0 → ((i : ℕ) → i < n → A (suc i)) → (i : ℕ) → i < suc n → A i
    all a r zero h = a
    all a r (suc i) h = r i (le_of_suc-le-suc h)

    go : A 0 ⊎ B 0 → ((i : ℕ) → i < n → A (suc i)) ⊎ ((i : ℕ) × (i < n) × B (suc i)) → ((i : ℕ) → i < suc n → A i) ⊎ ((i : ℕ) × (i < suc n) × B i)
    go (inr b) r = inr (0, suc-le-suc zero-le, b)
    go (inl a) (inl r) = inl (all a r)
    go (inl a) (inr (i, h, b)) = inr (suc i, suc-le-suc h, b)

-- numbers that never fall from one to the next do not fall over any distance
pub never_fall_far : (m : ℕ) (δ : ℕ → ℕ) → ((j : ℕ) → suc j < m → δ j ≤ δ (suc j)) → (t i j : ℕ) → i + t ≡ j → j < m → δ i ≤ δ j
never_fall_far m δ h zero i j e l = let q = ap δ (let same : i ≡ j = omega arith in same) in omega arith
never_fall_far m δ h (suc t) i j e l = let a = never_fall_far m δ h t (suc i) j (omega arith) l in let b = h i (omega arith) in omega arith

-- of numbers that never fall, those up to N come first
pub prefix : (m N : ℕ) (δ : ℕ → ℕ) → ((j : ℕ) → suc j < m → δ j ≤ δ (suc j))
    → (t : ℕ) × (t ≤ m) × ((j : ℕ) → j < t → δ j ≤ N) × ((j : ℕ) → t ≤ j → j < m → N < δ j)
prefix m N δ h = go (first_below m (λ j. N < δ j) (λ j. dec_lt N (δ j)))
  where
    go : ((j : ℕ) → j < m → N < δ j → ⊥) ⊎ ((j : ℕ) × (j < m) × (N < δ j) × ((l : ℕ) → l < j → N < δ l → ⊥))
        → (t : ℕ) × (t ≤ m) × ((j : ℕ) → j < t → δ j ≤ N) × ((j : ℕ) → t ≤ j → j < m → N < δ j)
    go (inl none) = (m, le_refl m, λ j l. not_more j (none j l), λ j a b. absurd (omega arith))
      where
        not_more : (j : ℕ) → (N < δ j → ⊥) → δ j ≤ N
        not_more j n = elim (dec_lt N (δ j)) [ yes x ↦ absurd (n x) | no x ↦ omega arith ]
    go (inr (t, l, x, before)) = (t, omega arith, λ j a. not_more j (before j a), λ j a b. let q = never_fall_far m δ h (j - t) t j (omega arith) b in omega arith)
      where
        not_more : (j : ℕ) → (N < δ j → ⊥) → δ j ≤ N
        not_more j n = elim (dec_lt N (δ j)) [ yes y ↦ absurd (n y) | no y ↦ omega arith ]

-- finitely many numbers have a bound
pub common_top : (n : ℕ) (p : ℕ → ℕ) → (B : ℕ) × ((i : ℕ) → i < n → p i ≤ B)
common_top zero p = (0, λ i h. absurd (not-suc-le-zero h))
common_top (suc n) p = go (common_top n (λ i. p (suc i)))
  where
    go : (B : ℕ) × ((i : ℕ) → i < n → p (suc i) ≤ B) → (B : ℕ) × ((i : ℕ) → i < suc n → p i ≤ B)
    go (B, f) = (max (p 0) B, all)
      where
        all : (i : ℕ) → i < suc n → p i ≤ max (p 0) B
        all zero h = le-max_left (p 0) B
        all (suc i) h = le_trans (f i (le_of_suc-le-suc h)) (le-max_right (p 0) B)

-- A fact of every number below a bound, by one test that antt computes. Assumes nothing.
use Rattle.std.proofs.Common.{◌≡◌, ℕ, zero, suc, ◌<◌, Bool, true, false, T, not-suc-le-zero, arith}
use mathlib.Core.Path.{subst⁻¹}
use native.Mathlib.Decide.{ℕ_discrete}

abbrev pub both : Bool → Bool → Bool
both true b = b
both false b = false

pub both_left : (a b : Bool) → T (both a b) → T a
both_left true b t = tt
both_left false b t = t

pub both_right : (a b : Bool) → T (both a b) → T b
both_right true b t = t
both_right false b t = absurd t

-- the test passes at each number below n
abbrev pub every : (ℕ → Bool) → ℕ → Bool
every f zero = true
every f (suc n) = both (f n) (every f n)

pub every_below : (f : ℕ → Bool) (n : ℕ) → T (every f n) → (k : ℕ) → k < n → T (f k)
every_below f zero t k h = absurd (not-suc-le-zero h)
every_below f (suc n) t k h = at (ℕ_discrete k n) (every_below f n (both_right (f n) (every f n) t) k)
  where
    at : Dec (k ≡ n) → (k < n → T (f k)) → T (f k)
    at (yes e) below = subst⁻¹ (λ (m : ℕ). T (f m)) e (both_left (f n) (every f n) t)
    at (no d) below = below (omega arith)

-- the test passes at all pairs below n
pub every_pair : (f : ℕ → ℕ → Bool) (n : ℕ) → T (every (λ a. every (f a) n) n) → (a b : ℕ) → a < n → b < n → T (f a b)
every_pair f n t a b ha hb = every_below (f a) n (every_below (λ a. every (f a) n) n t a ha) b hb

-- the test passes at all triples below n
pub every_triple : (f : ℕ → ℕ → ℕ → Bool) (n : ℕ) → T (every (λ a. every (λ b. every (f a b) n) n) n) → (a b c : ℕ) → a < n → b < n → c < n → T (f a b c)
every_triple f n t a b c ha hb hc = every_below (f a b) n (every_pair (λ a b. every (f a b) n) n t a b ha hb) c hc

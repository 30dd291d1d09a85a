-- The link: a message is sent as a block of n streams. Stream i of a block v is the polynomial v i, its symbol at time t the coefficient of s^t.
use Rattle.std.specs.Prelude.{◌≡◌, ℕ, suc, ◌<◌}
use Rattle.algebra.specs.Rings.{RingOps}
use Rattle.algebra.specs.Series.{dot, series, Below}

-- the block v encodes the message of L symbols by the row a: stream i is the message times a i
pub record Encodes {M : Type 0} (o : RingOps M) (n : ℕ) (a : ℕ → ℕ → M) (L : ℕ) (message : ℕ → M) (v : ℕ → ℕ → M) : Type 0 where
  pub length : Below o L message
  pub is : (i : ℕ) → i < n → v i ≡ (series o).product message (a i)

-- the block of m + 1 streams is clean: for each check column u the sum of v i times u i is zero
abbrev pub Clean : {M : Type 0} → RingOps M → ℕ → (ℕ → ℕ → ℕ → M) → (ℕ → ℕ → M) → Type 0
Clean o m c v = (j : ℕ) → j < m → dot (series o) (suc m) v (c (suc j)) ≡ (series o).zero

-- what inverting gives: the sum of v i times component i of column 0
abbrev pub inverted : {M : Type 0} → RingOps M → ℕ → (ℕ → ℕ → ℕ → M) → (ℕ → ℕ → M) → ℕ → M
inverted o m c v = dot (series o) (suc m) v (c 0)

-- the blocks differ at most in the symbol of stream i at time t
abbrev pub OneChanged : {M : Type 0} → ℕ → ℕ → ℕ → (ℕ → ℕ → M) → (ℕ → ℕ → M) → Type 0
OneChanged n i t v w = (l k : ℕ) → l < n → ((l ≡ i) × (k ≡ t) → ⊥) → v l k ≡ w l k

-- f and g differ at no more than N places
pub record DifferAtMost {M : Type 0} (N : ℕ) (f g : ℕ → M) : Type 0 where
  pub place : ℕ → ℕ
  pub elsewhere : (k : ℕ) → ((j : ℕ) → j < N → k ≡ place j → ⊥) → f k ≡ g k

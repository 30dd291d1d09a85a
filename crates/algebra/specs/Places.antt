-- The places of a row r of n polynomials of degree at most d: pivotal, non-pivotal and basic.
use Rattle.std.specs.Prelude.{◌≡◌, ℕ, suc, ◌<◌, ◌+◌, ◌*◌, ◌/◌, ◌%◌}
use Rattle.algebra.specs.Rings.{RingOps}
use Rattle.algebra.specs.Series.{shift}
use Rattle.algebra.specs.Independence.{All, Spanned}

-- Place n k + i stands for s^k in component i. Its list: the coefficients of s^k times component i of the row.
abbrev pub place_list : {M : Type 0} → RingOps M → ℕ → (ℕ → ℕ → M) → ℕ → ℕ → M
place_list o n r q = shift o (q / n) (r (q % n))

-- the list at q, from s^0 to s^(2d), is a sum of multiples of the lists at smaller places
abbrev pub NonPivotal : {M : Type 0} → RingOps M → ℕ → ℕ → (ℕ → ℕ → M) → ℕ → Type 0
NonPivotal o n d r q = Spanned o All q (suc (d + d)) (place_list o n r) (place_list o n r q)

-- it is no such sum
abbrev pub Pivotal : {M : Type 0} → RingOps M → ℕ → ℕ → (ℕ → ℕ → M) → ℕ → Type 0
Pivotal o n d r q = NonPivotal o n d r q → ⊥

-- a non-pivotal place, of a power up to s^d, from which no smaller non-pivotal place differs by a multiple of n
pub record Basic {M : Type 0} (o : RingOps M) (n d : ℕ) (r : ℕ → ℕ → M) (q : ℕ) : Type 0 where
  pub within : q < n * suc d
  pub non_pivotal : NonPivotal o n d r q
  pub first : (p j : ℕ) → NonPivotal o n d r p → q ≡ p + n * suc j → ⊥

-- p 0 < p 1 < .. < p (m - 1) are the basic places
pub record BasicPlaces {M : Type 0} (o : RingOps M) (n d : ℕ) (r : ℕ → ℕ → M) (m : ℕ) (p : ℕ → ℕ) : Type 0 where
  pub basic : (j : ℕ) → j < m → Basic o n d r (p j)
  pub rising : (i j : ℕ) → i < j → j < m → p i < p j
  pub every : (q : ℕ) → Basic o n d r q → (j : ℕ) × (j < m) × (p j ≡ q)

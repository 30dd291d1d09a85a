-- Columns of a frame, where they stand in the frame table. The clauses of every call of this crate cite it; it assumes nothing.
use Rattle.std.specs.Prelude.{Bool, false, List, ◌≡◌, ℕ, ◌<◌, ◌+◌, ◌*◌, ◌/◌, ◌%◌, get_or}
use Rattle.algebra.specs.Rings.{RingOps}
use Rattle.tables.specs.Places.{at}

-- where the place q of column j stands: that of s^(q / n) in component q % n
abbrev pub cell : ℕ → ℕ → ℕ → ℕ
cell n j q = 136 * j + 17 * (q % n) + q / n

-- every place of the columns that is in none of the first n columns, or in none of the first n components, holds zero
abbrev pub ZeroPast : {F M : Type 0} → RingOps M → (F → M) → ℕ → List F → Type 0
ZeroPast o member n frame = (j i k : ℕ) → j < 8 → i < 8 → k < 17 → (j < n → i < n → ⊥) → at o member frame (136 * j + 17 * i + k) ≡ o.zero

-- whether a class is marked
abbrev pub mark_at : List Bool → ℕ → Bool
mark_at found i = get_or found i false

-- column j has x t at the place P t, for each t below rank, and everything else is as it was
pub record AtPlaces {F M : Type 0} (o : RingOps M) (member : F → M) (n j rank : ℕ) (P : ℕ → ℕ) (x : ℕ → M) (before after : List F) : Type 0 where
  pub here : (t : ℕ) → t < rank → at o member after (cell n j (P t)) ≡ x t
  pub others : (k : ℕ) → ((t : ℕ) → t < rank → k ≡ cell n j (P t) → ⊥) → at o member after k ≡ at o member before k

-- column j has x t at the place P t, for each t below rank, and one at q, and everything else is as it was
pub record CheckAt {F M : Type 0} (o : RingOps M) (member : F → M) (n j q rank : ℕ) (P : ℕ → ℕ) (x : ℕ → M) (before after : List F) : Type 0 where
  pub here : (t : ℕ) → t < rank → at o member after (cell n j (P t)) ≡ x t
  pub one : at o member after (cell n j q) ≡ o.one
  pub others : (k : ℕ) → ((t : ℕ) → t < rank → k ≡ cell n j (P t) → ⊥) → (k ≡ cell n j q → ⊥) → at o member after k ≡ at o member before k

-- the places P 0 < P 1 < .. < P (rank - 1) are among the first 17 n
pub record Rising (n rank : ℕ) (P : ℕ → ℕ) : Type 0 where
  pub within : (t : ℕ) → t < rank → P t < n * 17
  pub rising : (s t : ℕ) → s < t → t < rank → P s < P t

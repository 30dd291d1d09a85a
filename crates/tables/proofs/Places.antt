-- How the member at a place follows a read and a write. Assumes nothing.
use mathlib.Core.List.{List, [], ◌∷◌}
use mathlib.Core.Path.{◌≡◌, refl, ap}
use Prim.Native.Nat.{ℕ, zero, suc, ◌<◌, ◌≤◌}
use native.Mathlib.Decide.{dec_lt}
use native.Mathlib.Nat.{not-suc-le-zero, le_of_suc-le-suc}
use native.Mathlib.Omega.{arith}
use lib.ListN.{length, get_or, set}
use Rattle.algebra.specs.Rings.{RingOps}
use Rattle.tables.specs.Places.{at}

module _ {F R : Type 0} (o : RingOps R) (member : F → R) where
  pub at_read : (xs : List F) (k : ℕ) (d : F) → k < length xs → at o member xs k ≡ member (get_or xs k d)
  at_read [] k d h = absurd (not-suc-le-zero h)
  at_read (x ∷ xs) zero d h = refl
  at_read (x ∷ xs) (suc k) d h = at_read xs k d (le_of_suc-le-suc h)

  pub at_past : (xs : List F) (k : ℕ) → length xs ≤ k → at o member xs k ≡ o.zero
  at_past [] k h = refl
  at_past (x ∷ xs) zero h = absurd (not-suc-le-zero h)
  at_past (x ∷ xs) (suc k) h = at_past xs k (le_of_suc-le-suc h)

  pub at_set_same : (xs : List F) (k : ℕ) (v : F) → k < length xs → at o member (set xs k v) k ≡ member v
  at_set_same [] k v h = absurd (not-suc-le-zero h)
  at_set_same (x ∷ xs) zero v h = refl
  at_set_same (x ∷ xs) (suc k) v h = at_set_same xs k v (le_of_suc-le-suc h)

  pub at_set_other : (xs : List F) (i k : ℕ) (v : F) → (k ≡ i → ⊥) → at o member (set xs i v) k ≡ at o member xs k
  at_set_other [] i k v h = refl
  at_set_other (x ∷ xs) zero zero v h = absurd (h refl)
  at_set_other (x ∷ xs) zero (suc k) v h = refl
  at_set_other (x ∷ xs) (suc i) zero v h = refl
  at_set_other (x ∷ xs) (suc i) (suc k) v h = at_set_other xs i k v (λ e. h (ap suc e))

  -- zero at each place of a table is zero everywhere
  pub at_cleared : (xs : List F) → ((k : ℕ) → k < length xs → at o member xs k ≡ o.zero) → (k : ℕ) → at o member xs k ≡ o.zero
  at_cleared xs h k = elim (dec_lt k (length xs)) [ yes l ↦ h k l | no n ↦ at_past xs k (omega arith) ]

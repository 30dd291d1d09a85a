-- Tables of elements, read as members. The clauses of every call on tables cite it; it assumes nothing.
use Rattle.std.specs.Prelude.{List, [], ◌∷◌, ◌≡◌, ℕ, zero, suc, ◌+◌, ◌<◌, ◌≤◌}
use Rattle.algebra.specs.Rings.{RingOps}

-- the member at a place, zero past the end
abbrev pub at : {F R : Type 0} → RingOps R → (F → R) → List F → ℕ → R
at o member [] k = o.zero
at o member (x ∷ xs) zero = member x
at o member (x ∷ xs) (suc k) = at o member xs k

-- every place holds zero
abbrev pub Cleared : {F R : Type 0} → RingOps R → (F → R) → List F → Type 0
Cleared o member xs = (k : ℕ) → at o member xs k ≡ o.zero

-- place k is one of the width places from base on
abbrev pub Within : ℕ → ℕ → ℕ → Type 0
Within base width k = (base ≤ k) × (k < base + width)

-- two parts have no place in common
abbrev pub Apart : ℕ → ℕ → ℕ → ℕ → Type 0
Apart base width other count = (k : ℕ) → Within base width k → Within other count k → ⊥

-- every place outside a part is as it was
abbrev pub Kept : {F R : Type 0} → RingOps R → (F → R) → ℕ → ℕ → List F → List F → Type 0
Kept o member base width before after = (k : ℕ) → (Within base width k → ⊥) → at o member after k ≡ at o member before k

-- the first width coefficients of f, then zeros
unfoldable pub cut : {R : Type 0} → RingOps R → ℕ → (ℕ → R) → ℕ → R
cut o zero f k = o.zero
cut o (suc w) f zero = f 0
cut o (suc w) f (suc k) = cut o w (λ i. f (suc i)) k

-- the polynomial whose coefficients are the width places from base on
unfoldable pub poly_at : {F R : Type 0} → RingOps R → (F → R) → List F → ℕ → ℕ → ℕ → R
poly_at o member xs base width = cut o width (λ k. at o member xs (base + k))

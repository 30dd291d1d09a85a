-- What a field's calls promise, over the members that its elements mean. The clauses of `Field` cite it; it assumes nothing.
use Rattle.std.specs.Prelude.{◌≡◌, ℕ, Bool, true, false, Some, None, Option}
use Rattle.algebra.specs.Rings.{RingOps}

-- the inverse of x, absent for zero only
abbrev pub Inverts : {R : Type 0} → RingOps R → R → Option R → Type 0
Inverts o x None = x ≡ o.zero
Inverts o x (Some y) = o.product x y ≡ o.one

-- yes exactly when x and y are one member
abbrev pub Same : {R : Type 0} → R → R → Bool → Type 0
Same x y true = x ≡ y
Same x y false = x ≡ y → ⊥

-- the code of an element: the number of the member that it means
abbrev pub code_of : {F R : Type 0} → (R → ℕ) → (F → R) → F → ℕ
code_of number member = λ x. number (member x)

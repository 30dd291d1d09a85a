-- Which elements the codes of a script mean. The clauses of `elements` cite it; it assumes nothing.
use Rattle.std.specs.Prelude.{◌≡◌, ℕ, ◌<◌, ◌≤◌, List, length, slice_index}
use Rattle.script_runner.specs.declared.stopped.Stopped.{Stopped}
use Rattle.script_runner.specs.declared.stopped.Stopped.TheVariants as stopped

-- the element means the member whose number is the code, and the field has such a member
abbrev pub Meant : {F R : Type 0} → (R → ℕ) → (F → R) → ℕ → ℕ → F → Type 0
Meant number member order code x = (code < order) × (number (member x) ≡ code)

-- why the codes mean no elements: one is not below the field's size, or memory is wanting
abbrev pub Unmeant : ℕ → List ℕ → Stopped → Type 0
Unmeant order codes stopped.NoMemory = Unit {0}
Unmeant order codes (stopped.Field f) = (k : ℕ) × (k < length codes) × (order ≤ slice_index codes k)
Unmeant order codes (stopped.NotAdmitted r) = ⊥
Unmeant order codes (stopped.Design f) = ⊥
Unmeant order codes (stopped.Link f) = ⊥
Unmeant order codes (stopped.Card f) = ⊥

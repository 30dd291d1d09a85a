-- The answers to a question. The clauses of every question of the crate cite it; it assumes nothing.
use Rattle.std.specs.Prelude.{Bool, true, false}

-- yes exactly when P holds
abbrev pub Tells : Type 0 → Bool → Type 0
Tells P true = P
Tells P false = P → ⊥

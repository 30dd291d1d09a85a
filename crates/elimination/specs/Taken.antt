-- A column taken by the steps of a value, and the steps after it. The clauses of the methods that take columns cite it; it assumes nothing.
use Rattle.std.specs.Prelude.{◌≡◌, ℕ, List, Bool}
use Rattle.elimination.specs.declared.Steps.{Steps}
use Rattle.elimination.specs.Steps.{column_at, entry_at, Takes}
use Rattle.elimination.specs.Echelon.{TakesNext}

-- the steps s take a column c, and t are the steps afterwards; E is what is left in the column's place
abbrev pub Took : {F : Type 0} {f : _} → Steps F f → Steps F f → (ℕ → f.Member) → (ℕ → f.Member) → Bool → Type 0
Took {F} {f} s t c E pivotal =
    Takes f.ops s.rows s.rank (column_at f.ops f.member s.rows s.factors.now) (entry_at s.pivots.now)
    c (column_at f.ops f.member s.rows t.factors.now) (entry_at t.pivots.now) E pivotal

-- the same of column q of all columns, with the places of the pivotal columns before it
abbrev pub TookNext : {F : Type 0} {f : _} → ℕ → Steps F f → Steps F f → List ℕ → (ℕ → f.Member) → (ℕ → f.Member) → Bool → Type 0
TookNext {F} {f} q s t places c E pivotal =
    TakesNext f.ops s.rows q s.rank (column_at f.ops f.member s.rows s.factors.now) (entry_at s.pivots.now) places
    c (column_at f.ops f.member s.rows t.factors.now) (entry_at t.pivots.now) E pivotal

-- t are steps over the very tables that were lent to s: when the loan ends, these tables hold what t says
abbrev pub SameTables : {F : Type 0} {f : _} → Steps F f → Steps F f → Type 0
SameTables s t = (t.factors.ghost_name ≡ s.factors.ghost_name) × (t.pivots.ghost_name ≡ s.pivots.ghost_name)

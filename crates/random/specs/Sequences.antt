-- A congruential sequence is its recurrence, so the recurrence is the promise: every run, of any program, draws these numbers. The clauses
-- of `Random` cite it; it assumes nothing.
use Rattle.std.specs.Prelude.{ℕ, zero, suc, List, [], ◌∷◌, ◌++◌, ◌+◌, ◌*◌, ◌/◌, ◌%◌}

-- the state after a state
abbrev pub next : ℕ → ℕ
next state = (state * 1664525 + 1013904223) % 4294967296

-- the state n steps later
abbrev pub later : ℕ → ℕ → ℕ
later zero state = state
later (suc n) state = next (later n state)

-- the number below a size that a state gives
abbrev pub drawn : (size state : ℕ) → ℕ
drawn size state = state / 65536 % size

-- the n numbers below a size that the states after a state give
abbrev pub draws : (size n state : ℕ) → List ℕ
draws size zero state = []
draws size (suc n) state = draws size n state ++ drawn size (later (suc n) state) ∷ []

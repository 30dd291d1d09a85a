-- Polynomials, rows, columns and blocks written out as lists, and worked designs.
use Rattle.std.specs.Prelude.{List, [], ◌∷◌, ℕ, zero, suc, ◌+◌, ◌*◌}
use Rattle.algebra.specs.Rings.{RingOps}
use Rattle.algebra.specs.Series.{series}
use Rattle.algebra.specs.Frames.{IsFrame}

-- the polynomial with these coefficients, from s^0 on
abbrev pub listed : {M : Type 0} → RingOps M → List M → ℕ → M
listed o [] k = o.zero
listed o (x ∷ xs) zero = x
listed o (x ∷ xs) (suc k) = listed o xs k

-- the row, or vector, of these polynomials
abbrev pub listed_row : {M : Type 0} → RingOps M → List (List M) → ℕ → ℕ → M
listed_row o [] i = (series o).zero
listed_row o (f ∷ fs) zero = listed o f
listed_row o (f ∷ fs) (suc i) = listed_row o fs i

-- these columns
abbrev pub listed_columns : {M : Type 0} → RingOps M → List (List (List M)) → ℕ → ℕ → ℕ → M
listed_columns o [] j = λ i. (series o).zero
listed_columns o (c ∷ cs) zero = listed_row o c
listed_columns o (c ∷ cs) (suc j) = listed_columns o cs j

-- the block of n streams whose symbols are these, time by time: stream i at time t stands at place n t + i
abbrev pub listed_block : {M : Type 0} → RingOps M → ℕ → List M → ℕ → ℕ → M
listed_block o n xs i t = listed o xs (n * t + i)

-- a row of m + 1 generators, its divisor, the degree of the row divided by it, and its columns, by the numbers of the members
pub record Design : Type 0 where
  pub m : ℕ
  pub generators : List (List ℕ)
  pub divisor : List ℕ
  pub degree : ℕ
  pub columns : List (List (List ℕ))

abbrev pub each : {A B : Type 0} → (A → B) → List A → List B
each f [] = []
each f (x ∷ xs) = f x ∷ each f xs

-- the divisor and the columns of each design are the frame of its generators
abbrev pub AllFrames : {M : Type 0} → RingOps M → (ℕ → M) → List Design → Type 0
AllFrames o member [] = Unit {0}
AllFrames o member (w ∷ ws) =
    IsFrame o w.m (listed_row o (each (each member) w.generators)) (listed o (each member w.divisor)) w.degree (listed_columns o (each (each (each member)) w.columns))
    × AllFrames o member ws

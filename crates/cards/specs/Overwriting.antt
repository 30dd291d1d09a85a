-- Bytes written over others. The clauses of the crate cite it; it assumes nothing.
use Rattle.std.specs.Prelude.{ℕ, zero, suc, List, [], ◌∷◌}

-- xs with bs written over it from a place on; what passes its end is dropped
abbrev pub over : ℕ → List ℕ → List ℕ → List ℕ
over zero [] xs = xs
over zero (b ∷ bs) [] = []
over zero (b ∷ bs) (x ∷ xs) = b ∷ over zero bs xs
over (suc k) bs [] = []
over (suc k) bs (x ∷ xs) = x ∷ over k bs xs

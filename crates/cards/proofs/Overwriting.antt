-- Writing over: one byte, one piece after another, onto zeros. Assumes nothing.
use Rattle.std.proofs.Common.{◌≡◌, ℕ, zero, suc, ◌+◌, ◌-◌, ◌<◌, ◌≤◌, List, [], ◌∷◌, ◌++◌, length, set, replicate, sym, refl, ap, ◌∙◌, le_of_suc-le-suc, not-suc-le-zero, arith}
use Rattle.cards.specs.Overwriting.{over}

pub over_nil : (k : ℕ) (bs : List ℕ) → over k bs [] ≡ []
over_nil zero [] = refl
over_nil zero (b ∷ bs) = refl
over_nil (suc k) bs = refl

pub over_nothing : (k : ℕ) (xs : List ℕ) → over k [] xs ≡ xs
over_nothing zero xs = refl
over_nothing (suc k) [] = refl
over_nothing (suc k) (x ∷ xs) = ap (λ l. x ∷ l) (over_nothing k xs)

pub set_over : (xs : List ℕ) (k b : ℕ) → set xs k b ≡ over k (b ∷ []) xs
set_over [] k b = sym (over_nil k (b ∷ []))
set_over (x ∷ xs) zero b = refl
set_over (x ∷ xs) (suc k) b = ap (λ l. x ∷ l) (set_over xs k b)

-- one piece, and the next right after it
pub over_append : (k j : ℕ) (bs cs xs : List ℕ) → j ≡ k + length bs → over j cs (over k bs xs) ≡ over k (bs ++ cs) xs
over_append k j bs cs [] e = ap (over j cs) (over_nil k bs) ∙ over_nil j cs ∙ sym (over_nil k (bs ++ cs))
over_append zero j [] cs (x ∷ xs) e = let z : j ≡ 0 = omega arith in ap (λ i. over i cs (x ∷ xs)) z
over_append zero zero (b ∷ bs) cs (x ∷ xs) e = absurd (omega arith)
over_append zero (suc j) (b ∷ bs) cs (x ∷ xs) e = ap (λ l. b ∷ l) (over_append zero j bs cs xs (omega arith))
over_append (suc k) zero bs cs (x ∷ xs) e = absurd (omega arith)
over_append (suc k) (suc j) bs cs (x ∷ xs) e = ap (λ l. x ∷ l) (over_append k j bs cs xs (omega arith))

-- a byte written before a piece
pub set_before : (k j b : ℕ) (bs xs : List ℕ) → k < j → set (over j bs xs) k b ≡ over j bs (set xs k b)
set_before k j b bs [] h = ap (λ l. set l k b) (over_nil j bs) ∙ sym (over_nil j bs)
set_before k zero b bs (x ∷ xs) h = absurd (not-suc-le-zero h)
set_before zero (suc j) b bs (x ∷ xs) h = refl
set_before (suc k) (suc j) b bs (x ∷ xs) h = ap (λ l. x ∷ l) (set_before k j b bs xs (le_of_suc-le-suc h))

pub over_zeros : (bs : List ℕ) (n : ℕ) → length bs ≤ n → over 0 bs (replicate n 0) ≡ bs ++ replicate (n - length bs) 0
over_zeros [] n h = ap (λ k. replicate k 0) (omega arith)
over_zeros (b ∷ bs) zero h = absurd (not-suc-le-zero h)
over_zeros (b ∷ bs) (suc n) h = ap (λ l. b ∷ l) (over_zeros bs n (le_of_suc-le-suc h) ∙ ap (λ k. bs ++ replicate k 0) (omega arith))

-- one byte more
set_next : (xs : List ℕ) (k j b : ℕ) (bs : List ℕ) → j ≡ k + length bs → set (over k bs xs) j b ≡ over k (bs ++ b ∷ []) xs
set_next xs k j b bs e = set_over (over k bs xs) j b ∙ over_append k j bs (b ∷ []) xs e

-- four bytes put one behind the other
pub record_over : (xs : List ℕ) (k p q r s : ℕ) → set (set (set (set xs k p) (k + 1) q) (k + 2) r) (k + 3) s ≡ over k (p ∷ q ∷ r ∷ s ∷ []) xs
record_over xs k p q r s =
    ap (λ l. set (set (set l (k + 1) q) (k + 2) r) (k + 3) s) (set_over xs k p)
    ∙ ap (λ l. set (set l (k + 2) r) (k + 3) s) (set_next xs k (k + 1) q (p ∷ []) refl)
    ∙ ap (λ l. set l (k + 3) s) (set_next xs k (k + 2) r (p ∷ q ∷ []) refl)
    ∙ set_next xs k (k + 3) s (p ∷ q ∷ r ∷ []) refl

pub record_start : (xs : List ℕ) (p q r : ℕ) → set (set (set xs 0 p) 1 q) 2 r ≡ over 0 (p ∷ q ∷ r ∷ []) xs
record_start xs p q r =
    ap (λ l. set (set l 1 q) 2 r) (set_over xs 0 p)
    ∙ ap (λ l. set l 2 r) (set_next xs 0 1 q (p ∷ []) refl)
    ∙ set_next xs 0 2 r (p ∷ q ∷ []) refl

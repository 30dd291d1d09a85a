-- The terms of a row of elements, taken one element at a time. Assumes nothing.
use Rattle.std.proofs.Common.{◌≡◌, ℕ, zero, suc, ◌+◌, ◌*◌, ◌/◌, ◌%◌, ◌<◌, ◌≤◌, List, [], ◌∷◌, map, length, get_or, drop, sym, refl, ap, ◌∙◌, add-one, arith}
use Rattle.std.proofs.lemmas.List.{drop_more, drop_all}
use Rattle.cards.specs.Cards.{Term, terms, link, records}
use Rattle.cards.specs.Overwriting.{over}
use Rattle.cards.proofs.Overwriting.{over_append}

abbrev pub term : ℕ → ℕ → Term
term k c = record { power = k; code = c }

terms_zero : (k c : ℕ) (cs : List ℕ) → c ≡ 0 → terms k (c ∷ cs) ≡ terms (suc k) cs
terms_zero k zero cs e = refl
terms_zero k (suc c) cs e = absurd (omega arith)

terms_nonzero : (k c : ℕ) (cs : List ℕ) → (c ≡ 0 → ⊥) → terms k (c ∷ cs) ≡ term k c ∷ terms (suc k) cs
terms_nonzero k zero cs h = absurd (h refl)
terms_nonzero k (suc c) cs h = refl

pub length_terms : (k : ℕ) (cs : List ℕ) → length (terms k cs) ≤ length cs
length_terms k [] = omega arith
length_terms k (zero ∷ cs) = let h = length_terms (suc k) cs in omega arith
length_terms k (suc c ∷ cs) = let h = length_terms (suc k) cs in omega arith

module _ {F : Type 0} (code_of : F → ℕ) where
  -- the terms that stand from place i on
  abbrev pub terms_from : ℕ → List F → List Term
  terms_from i xs = terms i (map code_of (drop i xs))

  from_next : (i : ℕ) (xs : List F) (x : F) (c : ℕ) → i < length xs → x ≡ get_or xs i x → c ≡ code_of x → terms_from i xs ≡ terms i (c ∷ map code_of (drop (i + 1) xs))
  from_next i xs x c h is means =
      ap (λ l. terms i (map code_of l)) (drop_more xs i x h)
      ∙ ap (λ y. terms i (y ∷ map code_of (drop (i + 1) xs))) (ap code_of (sym is) ∙ sym means)

  -- past an element of code c
  pub from_zero : (i : ℕ) (xs : List F) (x : F) (c : ℕ) → i < length xs → x ≡ get_or xs i x → c ≡ code_of x → c ≡ 0 → terms_from i xs ≡ terms_from (i + 1) xs
  from_zero i xs x c h is means e =
      from_next i xs x c h is means ∙ terms_zero i c (map code_of (drop (i + 1) xs)) e
      ∙ ap (λ k. terms k (map code_of (drop (i + 1) xs))) (sym (add-one i))

  pub from_nonzero : (i : ℕ) (xs : List F) (x : F) (c : ℕ) → i < length xs → x ≡ get_or xs i x → c ≡ code_of x → (c ≡ 0 → ⊥) → terms_from i xs ≡ term i c ∷ terms_from (i + 1) xs
  from_nonzero i xs x c h is means n =
      from_next i xs x c h is means ∙ terms_nonzero i c (map code_of (drop (i + 1) xs)) n
      ∙ ap (λ k. term i c ∷ terms k (map code_of (drop (i + 1) xs))) (sym (add-one i))

  pub from_all : (i : ℕ) (xs : List F) → length xs ≤ i → terms_from i xs ≡ []
  from_all i xs h = ap (λ l. terms i (map code_of l)) (drop_all i xs h)

pub length_records : (r : ℕ) (ts : List Term) → length (records r ts) ≡ 4 * length ts
length_records r [] = refl
length_records r (t ∷ ts) = let h = length_records (suc r) ts in omega arith

-- one record written, and the others after it
pub records_step : (at next power code to : ℕ) (ts left : List Term) (buffer : List ℕ) (at' next' : ℕ) (buffer' : List ℕ)
    → at' ≡ at + 4 → next' ≡ next + 1 → buffer' ≡ over at (power ∷ code % 256 ∷ code / 256 ∷ to ∷ []) buffer
    → ts ≡ term power code ∷ left → to ≡ link next' left
    → over at' (records next' left) buffer' ≡ over at (records next ts) buffer
records_step at next power code to ts left buffer at' next' buffer' ats nexts buffers tss tos =
    ap (λ b. over at' (records next' left) b) buffers
    ∙ over_append at at' (power ∷ code % 256 ∷ code / 256 ∷ to ∷ []) (records next' left) buffer ats
    ∙ ap (λ l. over at (power ∷ code % 256 ∷ code / 256 ∷ l ∷ records next' left) buffer) tos
    ∙ ap (λ r. over at (power ∷ code % 256 ∷ code / 256 ∷ link r left ∷ records r left) buffer) (nexts ∙ add-one next)
    ∙ ap (λ l. over at (records next l) buffer) (sym tss)

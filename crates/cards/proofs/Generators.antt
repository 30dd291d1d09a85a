-- The generators of a table, taken one after the other, and their heads and records. Assumes nothing.
use Rattle.std.proofs.Common.{◌≡◌, ℕ, zero, suc, ◌+◌, ◌*◌, ◌/◌, ◌<◌, ◌≤◌, List, [], ◌∷◌, ◌++◌, map, length, take, drop, set, sym, refl, ap, ap₂, ◌∙◌, arith, length-append}
use lib.ListN.{length-map}
use Rattle.std.proofs.lemmas.List.{take-map, drop-map, take_at, drop_at, drop-take, take-take, length-take}
use Rattle.cards.specs.Cards.{Term, terms, generators, link, records, heads, chains}
use Rattle.cards.specs.Overwriting.{over}
use Rattle.cards.proofs.Overwriting.{set_over, over_append}
use Rattle.cards.proofs.Terms.{length_records, length_terms}

pub length_row_terms : {F : Type 0} (code_of : F → ℕ) (row : List F) → length (terms 0 (map code_of row)) ≤ length row
length_row_terms code_of row = let h = length_terms 0 (map code_of row) in omega (arith, length-map row code_of)

-- codes past the first n rows do not count
generators_take : (n : ℕ) (cs : List ℕ) → generators n (take (17 * n) cs) ≡ generators n cs
generators_take zero cs = refl
generators_take (suc n) cs =
    let long : 17 * suc n ≡ 17 + 17 * n = omega arith in
    let first : take 17 (take (17 + 17 * n) cs) ≡ take 17 cs = take-take 17 (17 + 17 * n) cs (omega arith) in
    ap (λ k. generators (suc n) (take k cs)) long
    ∙ ap₂ (λ (xs ys : List ℕ). terms 0 xs ∷ generators n ys) first (drop-take 17 (17 * n) cs)
    ∙ ap (λ gs. terms 0 (take 17 cs) ∷ gs) (generators_take n (drop 17 cs))

module _ {F : Type 0} (code_of : F → ℕ) where
  -- the terms of each row of a table that has nothing but whole rows
  abbrev pub row_generators : List F → List (List Term)
  row_generators rows = generators (length rows / 17) (map code_of rows)

  pub row_next : (all row rest : List F) → all ≡ row ++ rest → length row ≡ 17 → row_generators all ≡ terms 0 (map code_of row) ∷ row_generators rest
  row_next all row rest e h =
      let n : length (row ++ rest) / 17 ≡ suc (length rest / 17) = omega (arith, length-append row rest) in
      ap row_generators e
      ∙ ap (λ k. generators k (map code_of (row ++ rest))) n
      ∙ ap₂ (λ (xs ys : List ℕ). terms 0 xs ∷ generators (length rest / 17) ys)
      (take-map code_of 17 (row ++ rest) ∙ ap (map code_of) (take_at row rest 17 h))
      (drop-map code_of 17 (row ++ rest) ∙ ap (map code_of) (drop_at row rest 17 h))

  pub row_length : (all row rest : List F) → all ≡ row ++ rest → length row ≡ 17 → length all ≡ 17 + length rest
  row_length all row rest e h = omega (arith, ap length e, length-append row rest)

  pub row_none : (rest : List F) → length rest < 17 → row_generators rest ≡ []
  row_none rest h = let z : length rest / 17 ≡ 0 = omega arith in ap (λ k. generators k (map code_of rest)) z

  pub row_all : (n : ℕ) (table : List F) → 17 * n ≤ length table → row_generators (take (17 * n) table) ≡ generators n (map code_of table)
  row_all n table h =
      let k : length (take (17 * n) table) / 17 ≡ n = omega (arith, length-take (17 * n) table) in
      ap (λ i. generators i (map code_of (take (17 * n) table))) k
      ∙ ap (generators n) (sym (take-map code_of (17 * n) table))
      ∙ generators_take n (map code_of table)

-- one head, and the others after it
pub heads_step : (k k' next count b : ℕ) (ts : List Term) (gs all : List (List Term)) (buffer : List ℕ)
    → k' ≡ k + 1 → count ≡ length ts → b ≡ link next ts → all ≡ ts ∷ gs
    → over k' (heads (next + count) gs) (set buffer k b) ≡ over k (heads next all) buffer
heads_step k k' next count b ts gs all buffer ks counts bs alls =
    ap (over k' (heads (next + count) gs)) (set_over buffer k b)
    ∙ over_append k k' (b ∷ []) (heads (next + count) gs) buffer ks
    ∙ ap (λ x. over k (x ∷ heads (next + count) gs) buffer) bs
    ∙ ap (λ x. over k (link next ts ∷ heads (next + x) gs) buffer) counts
    ∙ ap (λ l. over k (heads next l) buffer) (sym alls)

-- the records of one generator, and the others after them
pub chains_step : (k k' next next' : ℕ) (ts : List Term) (gs all : List (List Term)) (buffer buffer' : List ℕ)
    → next' ≡ next + length ts → k' ≡ k + 4 * length ts → buffer' ≡ over k (records next ts) buffer → all ≡ ts ∷ gs
    → over k' (chains next' gs) buffer' ≡ over k (chains next all) buffer
chains_step k k' next next' ts gs all buffer buffer' nexts ks buffers alls =
    ap (over k' (chains next' gs)) buffers
    ∙ over_append k k' (records next ts) (chains next' gs) buffer (let h = length_records next ts in omega arith)
    ∙ ap (λ r. over k (records next ts ++ chains r gs) buffer) nexts
    ∙ ap (λ l. over k (chains next l) buffer) (sym alls)

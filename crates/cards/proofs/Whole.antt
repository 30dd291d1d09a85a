-- The whole card: its length, and that writing its parts one after the other writes it. Assumes nothing.
use Rattle.std.proofs.Common.{◌≡◌, ℕ, zero, suc, ◌+◌, ◌-◌, ◌*◌, ◌≤◌, List, [], ◌∷◌, ◌++◌, length, take, drop, set, replicate, sym, refl, ap, ◌∙◌, arith, length-append, length-take}
use Rattle.cards.specs.Cards.{Term, generators, records, heads, chains, term_count, card}
use Rattle.cards.specs.Overwriting.{over}
use Rattle.cards.proofs.Overwriting.{over_append, over_zeros, set_before, record_start}
use Rattle.cards.proofs.Terms.{length_records, length_terms}

pub length_generators : (n : ℕ) (cs : List ℕ) → length (generators n cs) ≡ n
length_generators zero cs = refl
length_generators (suc n) cs = ap suc (length_generators n (drop 17 cs))

pub length_heads : (r : ℕ) (gs : List (List Term)) → length (heads r gs) ≡ length gs
length_heads r [] = refl
length_heads r (ts ∷ gs) = ap suc (length_heads (r + length ts) gs)

pub length_chains : (r : ℕ) (gs : List (List Term)) → length (chains r gs) ≡ 4 * term_count gs
length_chains r [] = refl
length_chains r (ts ∷ gs) =
    let h = length_records r ts in
    let k = length_chains (r + length ts) gs in
    omega (arith, length-append (records r ts) (chains (r + length ts) gs))

pub term_count_bound : (n : ℕ) (cs : List ℕ) → term_count (generators n cs) ≤ 17 * n
term_count_bound zero cs = omega arith
term_count_bound (suc n) cs =
    let h = length_terms 0 (take 17 cs) in
    let k = term_count_bound n (drop 17 cs) in
    omega (arith, length-take 17 cs)

pub length_card : (kind : ℕ) (gs : List (List Term)) → length (card kind gs) ≡ 3 + length gs + 4 * term_count gs
length_card kind gs =
    let h = length_heads 1 gs in
    let k = length_chains 1 gs in
    omega (arith, length-append (heads 1 gs) (chains 1 gs))

-- kind and n, the heads, m, the records: onto 555 zeros
pub card_over : (kind n m : ℕ) (gs : List (List Term)) (zeros : List ℕ) → length gs ≡ n → m ≡ term_count gs → zeros ≡ replicate 555 0 → 3 + n + 4 * m ≤ 555
    → over (3 + n) (chains 1 gs) (set (over 3 (heads 1 gs) (set (set zeros 0 kind) 1 n)) 2 m) ≡ card kind gs ++ replicate (555 - (3 + n + 4 * m)) 0
card_over kind n m gs zeros ns ms zs fits =
    let start : List ℕ = kind ∷ n ∷ m ∷ [] in
    let all : start ++ heads 1 gs ++ chains 1 gs ≡ card kind gs = ap (λ x. kind ∷ x ∷ m ∷ (heads 1 gs ++ chains 1 gs)) (sym ns) ∙ ap (λ x. kind ∷ length gs ∷ x ∷ (heads 1 gs ++ chains 1 gs)) ms in
    let long : length (card kind gs) ≡ 3 + n + 4 * m = length_card kind gs ∙ (omega arith) in
    ap (over (3 + n) (chains 1 gs)) (set_before 2 3 m (heads 1 gs) (set (set zeros 0 kind) 1 n) (omega arith) ∙ ap (over 3 (heads 1 gs)) (record_start zeros kind n m) ∙ over_append 0 3 start (heads 1 gs) zeros refl)
    ∙ over_append 0 (3 + n) (start ++ heads 1 gs) (chains 1 gs) zeros (let h = length_heads 1 gs in omega arith)
    ∙ ap (λ l. over 0 l zeros) all
    ∙ ap (over 0 (card kind gs)) zs
    ∙ over_zeros (card kind gs) 555 (omega arith)
    ∙ ap (λ k. card kind gs ++ replicate (555 - k) 0) long

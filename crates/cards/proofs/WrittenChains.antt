-- The heads and records of a written card are chains of the terms that they were written from. Assumes nothing.
use Rattle.std.proofs.Common.{◌≡◌, ℕ, suc, ◌+◌, ◌-◌, ◌*◌, ◌/◌, ◌%◌, ◌<◌, ◌≤◌, List, [], ◌∷◌, ◌++◌, length, get_or, drop, sym, ap, ◌∙◌, append_assoc, arith, get_or-drop, drop-drop}
use native.Mathlib.Nat.{div-add-mod}
use lib.Seq.{drop-append-add}
use Rattle.cards.specs.Cards.{Term, link, records, heads, chains, term_count}
use Rattle.cards.specs.Chains.{byte, record_start, Chain, Chains}
use Rattle.cards.proofs.Terms.{length_records}

-- terms that may stand in a chain above a floor
abbrev pub Sound : ℕ → (floor : ℕ) → List Term → Type 0
Sound order floor [] = Unit {0}
Sound order floor (t ∷ ts) = (floor ≤ t.power) × (t.power ≤ 16) × (t.code < order) × (0 < t.code) × Sound order (suc t.power) ts

abbrev pub AllSound : ℕ → List (List Term) → Type 0
AllSound order [] = Unit {0}
AllSound order (ts ∷ gs) = Sound order 0 ts × AllSound order gs

-- where the bytes after a place begin as given, each byte is known
byte_of : (card xs : List ℕ) (place i p : ℕ) → drop place card ≡ xs → p ≡ place + i → byte card p ≡ get_or xs i 0
byte_of card xs place i p e at = ap (byte card) at ∙ sym (get_or-drop place card i 0) ∙ ap (λ l. get_or l i 0) e

drop_of : (card xs : List ℕ) (place i p : ℕ) → drop place card ≡ xs → p ≡ place + i → drop p card ≡ drop i xs
drop_of card xs place i p e at = ap (λ k. drop k card) at ∙ sym (drop-drop i place card) ∙ ap (drop i) e

module _ (order : ℕ) (card : List ℕ) (n : ℕ) (ns : byte card 1 ≡ n) where
  -- the records from r on stand in their place
  pub written_chain : (floor place r : ℕ) (ts : List Term) (rest : List ℕ) → 1 ≤ r → r + length ts ≤ suc (byte card 2)
      → byte card place ≡ link r ts → drop (3 + n + 4 * (r - 1)) card ≡ records r ts ++ rest → Sound order floor ts → Chain order card floor place ts
  written_chain floor place r [] rest one most head here sound = head
  written_chain floor place r (t ∷ ts) rest one most head here sound =
      let start : ℕ = 3 + n + 4 * (r - 1) in
      let starts : record_start card place ≡ start = omega arith in
      let power : byte card (record_start card place) ≡ t.power = byte_of card (records r (t ∷ ts) ++ rest) start 0 (record_start card place) here (omega arith) in
      let low : byte card (record_start card place + 1) ≡ t.code % 256 = byte_of card (records r (t ∷ ts) ++ rest) start 1 (record_start card place + 1) here (omega arith) in
      let high : byte card (record_start card place + 1 + 1) ≡ t.code / 256 = byte_of card (records r (t ∷ ts) ++ rest) start 2 (record_start card place + 1 + 1) here (omega arith) in
      let next : byte card (record_start card place + 3) ≡ link (suc r) ts = byte_of card (records r (t ∷ ts) ++ rest) start 3 (record_start card place + 3) here (omega arith) in
      let after : drop (3 + n + 4 * (suc r - 1)) card ≡ records (suc r) ts ++ rest = drop_of card (records r (t ∷ ts) ++ rest) start 4 (3 + n + 4 * (suc r - 1)) here (omega arith) in (
        record {
          from_one = omega arith;
          to_m = omega arith;
          power = sym power;
          code = omega (arith, div-add-mod t.code 256);
          low = sound.1;
          above = sound.0;
          below = sound.2;
          nonzero = sound.3;
        },
        written_chain (suc t.power) (record_start card place + 3) (suc r) ts rest (omega arith) (omega arith) next after sound.4,
      )

  pub written_chains : (place r : ℕ) (gs : List (List Term)) (heads_rest records_rest : List ℕ) → 1 ≤ r → r + term_count gs ≤ suc (byte card 2)
      → drop place card ≡ heads r gs ++ heads_rest → drop (3 + n + 4 * (r - 1)) card ≡ chains r gs ++ records_rest → AllSound order gs → Chains order card place gs
  written_chains place r [] heads_rest records_rest one most hs cs sound = tt
  written_chains place r (ts ∷ gs) heads_rest records_rest one most hs cs sound =
      let split : drop (3 + n + 4 * (r - 1)) card ≡ records r ts ++ (chains (r + length ts) gs ++ records_rest) = cs ∙ append_assoc (records r ts) (chains (r + length ts) gs) records_rest in
      let long = length_records r ts in
      let further : drop (3 + n + 4 * (r + length ts - 1)) card ≡ chains (r + length ts) gs ++ records_rest =
      drop_of card (records r ts ++ (chains (r + length ts) gs ++ records_rest)) (3 + n + 4 * (r - 1)) (length (records r ts) + 0) (3 + n + 4 * (r + length ts - 1)) split (omega arith)
      ∙ drop-append-add (records r ts) (chains (r + length ts) gs ++ records_rest) 0 in (
        written_chain 0 place r ts (chains (r + length ts) gs ++ records_rest) one (omega arith) (byte_of card (heads r (ts ∷ gs) ++ heads_rest) place 0 place hs (omega arith)) split sound.0,
        written_chains (suc place) (r + length ts) gs heads_rest records_rest (omega arith) (omega arith) (drop_of card (heads r (ts ∷ gs) ++ heads_rest) place 1 (suc place) hs (omega arith)) further sound.1,
      )

-- The chains of a card, gathered one after the other. Assumes nothing.
use Rattle.std.proofs.Common.{◌≡◌, ℕ, zero, suc, ◌+◌, ◌*◌, ◌<◌, List, [], ◌∷◌, ◌++◌, length, get_or, replicate, sym, refl, ap, ◌∙◌, subst, arith, length-append}
use native.Mathlib.Decide.{ℕ_discrete}
use Rattle.std.proofs.lemmas.List.{get_or_past}
use Rattle.std.proofs.Math.Seq.{get_or-append_seam}
use Rattle.algebra.specs.Rings.{RingOps}
use Rattle.tables.specs.Places.{at, Cleared}
use Rattle.cards.specs.declared.fault.CardFault.{CardFault}
use Rattle.cards.specs.Cards.{Term}
use Rattle.cards.specs.Chains.{byte, Chain, Chains, power_code}
use Rattle.cards.specs.Reading.{Stops, Entered, Gathered, Halted}

get_or_not_last : {X : Type 0} (xs : List X) (x d : X) (k : ℕ) → (k ≡ length xs → ⊥) → get_or (xs ++ x ∷ []) k d ≡ get_or xs k d
get_or_not_last [] x d zero h = absurd (h refl)
get_or_not_last [] x d (suc k) h = refl
get_or_not_last (y ∷ xs) x d zero h = refl
get_or_not_last (y ∷ xs) x d (suc k) h = get_or_not_last xs x d k (λ e. h (ap suc e))

chains_more : (order : ℕ) (card : List ℕ) (place last : ℕ) (gs : List (List Term)) (ts : List Term) → last ≡ place + length gs → Chains order card place gs → Chain order card 0 last ts → Chains order card place (gs ++ ts ∷ [])
chains_more order card place last [] ts e c d = (subst (λ (p : ℕ). Chain order card 0 p ts) (let z : last ≡ place = omega arith in z) d, tt)
chains_more order card place last (us ∷ gs) ts e c d = (c.0, chains_more order card (suc place) last gs ts (omega arith) c.1 d)

module _ {F R : Type 0} (o : RingOps R) (member : F → R) (number : R → ℕ) (order : ℕ) (card : List ℕ) where
  pub gathered_none : (table : List F) → number o.zero ≡ 0 → Cleared o member table → Gathered o member number order card 0 table
  gathered_none table z clear = record { generators = []; count = refl; chains = tt; holds = λ i k h. ap number (clear (17 * i + k)) ∙ z }

  -- the rows that are not entered yet are zero
  pub gathered_zero : (n : ℕ) (table : List F) → Gathered o member number order card n table → (k : ℕ) → k < 17 → number (at o member table (17 * n + k)) ≡ 0
  gathered_zero n table all k h = all.holds n k h ∙ ap (λ ts. power_code ts k) (get_or_past all.generators n [] (let c = all.count in omega arith))

  pub gathered_more : (n : ℕ) (before after : List F) → Gathered o member number order card n before → Entered o member number order card 0 (3 + n) n before after → Gathered o member number order card (n + 1) after
  gathered_more n before after all one =
      record {
        generators = all.generators ++ one.terms ∷ [];
        count = length-append all.generators (one.terms ∷ []) ∙ ap (λ k. k + 1) all.count;
        chains = chains_more order card 3 (3 + n) all.generators one.terms (ap (λ k. 3 + k) (sym all.count)) all.chains one.chain;
        holds = λ i k h. row i k h (ℕ_discrete i n);
      }
    where
      row : (i k : ℕ) → k < 17 → Dec (i ≡ n) → number (at o member after (17 * i + k)) ≡ power_code (get_or (all.generators ++ one.terms ∷ []) i []) k
      row i k h (yes e) =
          ap (λ j. number (at o member after (17 * j + k))) e ∙ one.row k h
          ∙ ap (λ ts. power_code ts k) (sym (ap (λ j. get_or (all.generators ++ one.terms ∷ []) j []) (e ∙ sym all.count) ∙ get_or-append_seam all.generators one.terms [] []))
      row i k h (no ne) =
          ap number (one.others i k h ne) ∙ all.holds i k h
          ∙ ap (λ ts. power_code ts k) (sym (get_or_not_last all.generators one.terms [] i (λ e. ne (e ∙ all.count))))

  pub halted_here : (n : ℕ) (table : List F) (f : CardFault) → n < byte card 1 → Gathered o member number order card n table → (ts : List Term) × Stops order card ts 0 (3 + n) f → Halted order card f
  halted_here n table f h all stop =
      record {
        passed = all.generators;
        fewer = let c = all.count in omega arith;
        chains = all.chains;
        terms = stop.0;
        stops = subst (λ (k : ℕ). Stops order card stop.0 0 (3 + k) f) (sym all.count) stop.1;
      }

pub cleared_replicate : {F R : Type 0} (o : RingOps R) (member : F → R) (z : F) → member z ≡ o.zero → (n : ℕ) → Cleared o member (replicate n z)
cleared_replicate o member z e zero k = refl
cleared_replicate o member z e (suc n) zero = e
cleared_replicate o member z e (suc n) (suc k) = cleared_replicate o member z e n k

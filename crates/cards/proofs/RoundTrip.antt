-- A written card is read back to the design that it was written from. Assumes nothing.
use Rattle.std.proofs.Common.{◌≡◌, ℕ, zero, suc, ◌+◌, ◌-◌, ◌*◌, ◌<◌, ◌≤◌, Bool, cond, ◌&&◌, eqb, leb, List, [], ◌∷◌, map, length, get_or, take, drop, None, sym, refl, ap, ◌∙◌, subst, ap₂, append-nil, arith, get_or-drop, get_or-take, drop-drop, eq-eqb, ne_eqb, le-leb}
use lib.Seq.{drop-append_seam}
use Rattle.algebra.specs.Rings.{RingOps, Numbering}
use Rattle.fields.specs.Questions.{first_no}
use Rattle.tables.specs.Places.{at}
use Rattle.cards.specs.declared.fault.CardFault.{CardFault}
use Rattle.cards.specs.declared.fault.CardFault.TheVariants.{Length, Kind, GeneratorCount}
use Rattle.cards.specs.Cards.{Term, terms, generators, heads, chains, term_count, card}
use Rattle.cards.specs.Chains.{Chains, power_code}
use Rattle.cards.specs.Reading.{read_questions, Grants, Refuses, Refuses.asked, Refuses.walked}
use Rattle.cards.specs.RoundTrip.{ReadsBack}
use Rattle.std.proofs.lemmas.List.{get_or_past, length-take}
use Rattle.cards.proofs.OneReading.{yes_first, chains_once, chains_never_halt}
use Rattle.cards.proofs.Whole.{length_generators, length_heads, length_card}
use Rattle.cards.proofs.WrittenChains.{Sound, AllSound, written_chains}

-- every code of a list is below the order
abbrev pub AllBelow : ℕ → List ℕ → Type 0
AllBelow order cs = (k : ℕ) → get_or cs k 0 < order

sound_terms : (order : ℕ) (cs : List ℕ) (floor k : ℕ) → AllBelow order cs → floor ≤ k → k + length cs ≤ 17 → Sound order floor (terms k cs)
sound_terms order [] floor k below h long = tt
sound_terms order (zero ∷ cs) floor k below h long = sound_terms order cs floor (suc k) (λ i. below (suc i)) (omega arith) (omega arith)
sound_terms order (suc c ∷ cs) floor k below h long = (h, omega arith, below 0, omega arith, sound_terms order cs (suc k) (suc k) (λ i. below (suc i)) (omega arith) (omega arith))

below_take : (order n : ℕ) (cs : List ℕ) → 0 < order → AllBelow order cs → AllBelow order (take n cs)
below_take order zero cs some below k = some
below_take order (suc n) [] some below k = some
below_take order (suc n) (c ∷ cs) some below zero = below 0
below_take order (suc n) (c ∷ cs) some below (suc k) = below_take order n cs some (λ i. below (suc i)) k

below_drop : (order n : ℕ) (cs : List ℕ) → AllBelow order cs → AllBelow order (drop n cs)
below_drop order n cs below k = subst (λ (x : ℕ). x < order) (sym (get_or-drop n cs k 0)) (below (n + k))

sound_generators : (order n : ℕ) (cs : List ℕ) → 0 < order → AllBelow order cs → AllSound order (generators n cs)
sound_generators order zero cs some below = tt
sound_generators order (suc n) cs some below =
    (sound_terms order (take 17 cs) 0 0 (below_take order 17 cs some below) (omega arith) (omega (arith, length-take 17 cs)), sound_generators order n (drop 17 cs) some (below_drop order 17 cs below))

-- the sum of the terms of a list of codes has those codes
power_below : (cs : List ℕ) (j k : ℕ) → k < j → power_code (terms j cs) k ≡ 0
power_below [] j k h = refl
power_below (zero ∷ cs) j k h = power_below cs (suc j) k (omega arith)
power_below (suc c ∷ cs) j k h = ap (λ b. cond b (suc c) (power_code (terms (suc j) cs) k)) (ne_eqb j k (omega arith)) ∙ power_below cs (suc j) k (omega arith)

power_from : (cs : List ℕ) (j i k : ℕ) → k ≡ j + i → power_code (terms j cs) k ≡ get_or cs i 0
power_from [] j i k e = refl
power_from (zero ∷ cs) j zero k e = power_below cs (suc j) k (omega arith)
power_from (zero ∷ cs) j (suc i) k e = power_from cs (suc j) i k (omega arith)
power_from (suc c ∷ cs) j zero k e = ap (λ b. cond b (suc c) (power_code (terms (suc j) cs) k)) (eq-eqb j k (omega arith))
power_from (suc c ∷ cs) j (suc i) k e = ap (λ b. cond b (suc c) (power_code (terms (suc j) cs) k)) (ne_eqb j k (omega arith)) ∙ power_from cs (suc j) i k (omega arith)

generator_of : (n : ℕ) (cs : List ℕ) (i : ℕ) → i < n → get_or (generators n cs) i [] ≡ terms 0 (take 17 (drop (17 * i) cs))
generator_of zero cs i h = absurd (omega arith)
generator_of (suc n) cs zero h = refl
generator_of (suc n) cs (suc i) h = generator_of n (drop 17 cs) i (omega arith) ∙ ap (λ l. terms 0 (take 17 l)) (drop-drop (17 * i) 17 cs ∙ (let m : 17 + 17 * i ≡ 17 * suc i = omega arith in ap (λ k. drop k cs) m))

pub generator_code : (n : ℕ) (cs : List ℕ) (i k : ℕ) → i < n → k < 17 → power_code (get_or (generators n cs) i []) k ≡ get_or cs (17 * i + k) 0
generator_code n cs i k h l =
    ap (λ ts. power_code ts k) (generator_of n cs i h)
    ∙ power_from (take 17 (drop (17 * i) cs)) 0 k k (omega arith)
    ∙ get_or-take 17 (drop (17 * i) cs) k 0 l
    ∙ get_or-drop (17 * i) cs k 0

-- what is asked before the walk
card_asked : (kind : ℕ) (gs : List (List Term)) → 2 ≤ length gs → length gs ≤ 8 → first_no (read_questions kind 136 (card kind gs)) ≡ None
card_asked kind gs two eight =
    yes_first (leb 3 (length (card kind gs)) && eqb (length (card kind gs)) (3 + length gs + 4 * term_count gs)) Length _
    (ap₂ (λ (a b : Bool). a && b) (le-leb 3 (length (card kind gs)) (let h = length_card kind gs in omega arith)) (eq-eqb (length (card kind gs)) (3 + length gs + 4 * term_count gs) (length_card kind gs)))
    ∙ yes_first (eqb kind kind) Kind _ (eq-eqb kind kind refl)
    ∙ yes_first (leb 2 (length gs) && leb (length gs) 8) GeneratorCount [] (ap₂ (λ (a b : Bool). a && b) (le-leb 2 (length gs) two) (le-leb (length gs) 8 eight))

card_chains : (order kind : ℕ) (gs : List (List Term)) → AllSound order gs → Chains order (card kind gs) 3 gs
card_chains order kind gs sound =
    written_chains order (card kind gs) (length gs) refl 3 1 gs (chains 1 gs) [] (omega arith) (omega arith) refl
    (let long = length_heads 1 gs in
    ap (λ k. drop k (card kind gs)) (let at : 3 + length gs + 4 * (1 - 1) ≡ suc (suc (suc (length (heads 1 gs)))) = omega arith in at)
    ∙ drop-append_seam (heads 1 gs) (chains 1 gs) ∙ sym (append-nil (chains 1 gs))) sound

module _ {F R : Type 0} (o : RingOps R) (member : F → R) (number : R → ℕ) (order kind : ℕ) (numbered : Numbering o order number) where
  abbrev codes : List F → List ℕ
  codes table = map (λ x. number (member x)) table

  -- the code of the member at a place
  pub number_at : (table : List F) (k : ℕ) → number (at o member table k) ≡ get_or (codes table) k 0
  number_at [] k = numbered.zero_first
  number_at (x ∷ xs) zero = refl
  number_at (x ∷ xs) (suc k) = number_at xs k

  codes_below : (table : List F) → AllBelow order (codes table)
  codes_below table k = subst (λ (c : ℕ). c < order) (number_at table k) (numbered.below (at o member table k))

  pub reads_back : (n : ℕ) (table : List F) → 2 ≤ n → n ≤ 8 → ReadsBack o member number order kind n table (card kind (generators n (codes table)))
  reads_back n table two eight =
      record {
        granted = refused;
        count = λ m after g. g.count ∙ counted;
        same = λ m after g i k h l. numbered.apart (at o member after (17 * i + k)) (at o member table (17 * i + k)) (holds m after g i k l ∙ generator_code n (codes table) i k h l ∙ sym (number_at table (17 * i + k)));
        others = λ m after g i k h l. numbered.apart (at o member after (17 * i + k)) o.zero (holds m after g i k l ∙ ap (λ ts. power_code ts k) (get_or_past (generators n (codes table)) i [] (omega (arith, counted))) ∙ sym numbered.zero_first);
      }
    where
      counted : length (generators n (codes table)) ≡ n
      counted = length_generators n (codes table)

      some : 0 < order
      some = let h = numbered.below o.zero in omega arith

      entered : Chains order (card kind (generators n (codes table))) 3 (generators n (codes table))
      entered = card_chains order kind (generators n (codes table)) (sound_generators order n (codes table) some (codes_below table))

      refused : (f : CardFault) → Refuses order kind (card kind (generators n (codes table))) 136 f → ⊥
      refused f (asked e) = let passed = card_asked kind (generators n (codes table)) (omega (arith, counted)) (omega (arith, counted)) in cc
      refused f (walked e h) = chains_never_halt order (card kind (generators n (codes table))) (generators n (codes table)) f refl entered h

      holds : (m : ℕ) (after : List F) (g : Grants o member number order kind (card kind (generators n (codes table))) 136 m after) (i k : ℕ) → k < 17 → number (at o member after (17 * i + k)) ≡ power_code (get_or (generators n (codes table)) i []) k
      holds m after g i k l =
          g.gathered.holds i k l
          ∙ ap (λ all. power_code (get_or all i []) k) (chains_once order (card kind (generators n (codes table))) 3 g.gathered.generators (generators n (codes table)) g.gathered.count g.gathered.chains entered)

-- A card has one reading: a chain has one list of terms, and no refusal; a refusal is the only one. Assumes nothing.
use Rattle.std.proofs.Common.{◌≡◌, ℕ, zero, suc, ◌+◌, ◌<◌, ◌≤◌, Bool, true, ltb, leb, List, [], ◌∷◌, length, get_or, None, Some, Ok, Err, Result, MatchResult, sym, refl, ap, ◌∙◌, subst, ap₂, arith, lt-ltb, le-leb}
use Rattle.std.proofs.lemmas.Option.{none-some, same_Some}
use Rattle.std.specs.Result.{result_err}
use Rattle.algebra.specs.Rings.{RingOps}
use Rattle.fields.specs.Questions.{Question, asks, first_no}
use Rattle.fields.specs.declared.fault.FieldFault.TheVariants.{CodeTooLarge}
use Rattle.cards.specs.declared.fault.CardFault.{CardFault}
use Rattle.cards.specs.declared.fault.CardFault.TheVariants.{PowerTooHigh, PowerNotAbove, Field, ZeroCode}
use Rattle.cards.specs.Cards.{Term}
use Rattle.cards.specs.Chains.{byte, record_start, code_at, Names, Chain, Chains}
use Rattle.cards.specs.Reading.{read_questions, link_questions, Stops, Halted, Gathered, Refuses, Refuses.asked, Refuses.walked}
use Rattle.cards.proofs.Walks.{link_record, link_zero}

term_path : (t u : Term) → t.power ≡ u.power → t.code ≡ u.code → t ≡ u
term_path t u p q = ap₂ (λ (a b : ℕ). let w : Term = record { power = a; code = b } in w) p q

-- a question that is answered yes is passed
pub yes_first : {E : Type 0} (b : Bool) (e : E) (qs : List (Question E)) → b ≡ true → first_no (asks b e ∷ qs) ≡ first_no qs
yes_first b e qs h = ap (λ x. first_no (asks x e ∷ qs)) h

module _ (order : ℕ) (card : List ℕ) where
  -- a link names one term
  names_once : (floor floor' place : ℕ) (t u : Term) → Names order card floor place t → Names order card floor' place u → t ≡ u
  names_once floor floor' place t u a b = term_path t u (a.power ∙ sym b.power) (a.code ∙ sym b.code)

  pub chain_once : (floor place : ℕ) (ts us : List Term) → Chain order card floor place ts → Chain order card floor place us → ts ≡ us
  chain_once floor place [] [] a b = refl
  chain_once floor place [] (u ∷ us) a b = absurd (let h = b.0.from_one in omega arith)
  chain_once floor place (t ∷ ts) [] a b = absurd (let h = a.0.from_one in omega arith)
  chain_once floor place (t ∷ ts) (u ∷ us) a b =
      let same : t ≡ u = names_once floor floor place t u a.0 b.0 in
      ap₂ (λ (x : Term) (xs : List Term). x ∷ xs) same
      (chain_once (suc t.power) (record_start card place + 3) ts us a.1 (subst (λ (x : Term). Chain order card (suc x.power) (record_start card place + 3) us) (sym same) b.1))

  pub chains_once : (place : ℕ) (gs hs : List (List Term)) → length gs ≡ length hs → Chains order card place gs → Chains order card place hs → gs ≡ hs
  chains_once place [] [] e a b = refl
  chains_once place [] (us ∷ hs) e a b = absurd (omega arith)
  chains_once place (ts ∷ gs) [] e a b = absurd (omega arith)
  chains_once place (ts ∷ gs) (us ∷ hs) e a b =
      ap₂ (λ (x : List Term) (xs : List (List Term)). x ∷ xs) (chain_once 0 place ts us a.0 b.0) (chains_once (suc place) gs hs (omega arith) a.1 b.1)

  pub chain_of : (place last i : ℕ) (gs : List (List Term)) → last ≡ place + i → i < length gs → Chains order card place gs → Chain order card 0 last (get_or gs i [])
  chain_of place last i [] e h c = absurd (omega arith)
  chain_of place last zero (ts ∷ gs) e h c = subst (λ (p : ℕ). Chain order card 0 p ts) (let z : place ≡ last = omega arith in z) c.0
  chain_of place last (suc i) (ts ∷ gs) e h c = chain_of (suc place) last i gs (omega arith) (omega arith) c.1

  -- a link that names a term has no refusal
  named_none : (floor place : ℕ) (t : Term) → Names order card floor place t → first_no (link_questions order card floor place) ≡ None
  named_none floor place t a =
      let start = record_start card place in
      let low : byte card start ≤ 16 = let l = a.low in let p = a.power in omega arith in
      let above : floor ≤ byte card start = let l = a.above in let p = a.power in omega arith in
      let below : code_at card (start + 1) < order = subst (λ (x : ℕ). x < order) a.code a.below in
      let some : 0 < code_at card (start + 1) = subst (λ (x : ℕ). 0 < x) a.code a.nonzero in
      link_record order card floor place a.from_one a.to_m
      ∙ yes_first (leb (byte card start) 16) (PowerTooHigh start) _ (le-leb (byte card start) 16 low)
      ∙ yes_first (leb floor (byte card start)) (PowerNotAbove start) _ (le-leb floor (byte card start) above)
      ∙ yes_first (ltb (code_at card (start + 1)) order) (Field CodeTooLarge (start + 1)) _ (lt-ltb (code_at card (start + 1)) order below)
      ∙ yes_first (ltb 0 (code_at card (start + 1))) (ZeroCode (start + 1)) [] (lt-ltb 0 (code_at card (start + 1)) some)

  pub chain_never_stops : (floor place : ℕ) (ts us : List Term) (f : CardFault) → Chain order card floor place ts → Stops order card us floor place f → ⊥
  chain_never_stops floor place [] [] f c s = let none = link_zero order card floor place c in cc
  chain_never_stops floor place [] (u ∷ us) f c s = let h = s.0.from_one in omega arith
  chain_never_stops floor place (t ∷ ts) [] f c s = let none = named_none floor place t c.0 in cc
  chain_never_stops floor place (t ∷ ts) (u ∷ us) f c s =
      let same : t ≡ u = names_once floor floor place t u c.0 s.0 in
      chain_never_stops (suc t.power) (record_start card place + 3) ts us f c.1 (subst (λ (x : Term). Stops order card us (suc x.power) (record_start card place + 3) f) (sym same) s.1)

  pub chains_never_halt : (gs : List (List Term)) (f : CardFault) → length gs ≡ byte card 1 → Chains order card 3 gs → Halted order card f → ⊥
  chains_never_halt gs f e c h =
      chain_never_stops 0 (3 + length h.passed) (get_or gs (length h.passed) []) h.terms f
      (chain_of 3 (3 + length h.passed) (length h.passed) gs refl (let l = h.fewer in omega arith) c) h.stops

  -- a walk is stopped by one refusal
  stops_once : (floor place : ℕ) (ts us : List Term) (f g : CardFault) → Stops order card ts floor place f → Stops order card us floor place g → f ≡ g
  stops_once floor place [] [] f g a b = same_Some f g (sym a ∙ b)
  stops_once floor place [] (u ∷ us) f g a b = absurd (none-some f (sym (named_none floor place u b.0) ∙ a))
  stops_once floor place (t ∷ ts) [] f g a b = absurd (none-some g (sym (named_none floor place t a.0) ∙ b))
  stops_once floor place (t ∷ ts) (u ∷ us) f g a b =
      let same : t ≡ u = names_once floor floor place t u a.0 b.0 in
      stops_once (suc t.power) (record_start card place + 3) ts us f g a.1 (subst (λ (x : Term). Stops order card us (suc x.power) (record_start card place + 3) g) (sym same) b.1)

  -- the walks from a head on, the passed chains before the one that is stopped
  halts_once : (place p q : ℕ) (gs hs : List (List Term)) (ts us : List Term) (f g : CardFault) → p ≡ place + length gs → q ≡ place + length hs
      → Chains order card place gs → Stops order card ts 0 p f → Chains order card place hs → Stops order card us 0 q g → f ≡ g
  halts_once place p q [] [] ts us f g e h cs a ds b =
      stops_once 0 p ts us f g a (subst (λ (r : ℕ). Stops order card us 0 r g) (let same : q ≡ p = omega arith in same) b)
  halts_once place p q [] (d ∷ ds) ts us f g e h _ a c b =
      absurd (chain_never_stops 0 place d ts f c.0 (subst (λ (r : ℕ). Stops order card ts 0 r f) (let same : p ≡ place = omega arith in same) a))
  halts_once place p q (d ∷ ds) [] ts us f g e h c a _ b =
      absurd (chain_never_stops 0 place d us g c.0 (subst (λ (r : ℕ). Stops order card us 0 r g) (let same : q ≡ place = omega arith in same) b))
  halts_once place p q (d ∷ ds) (d' ∷ ds') ts us f g e h c a c' b = halts_once (suc place) p q ds ds' ts us f g (omega arith) (omega arith) c.1 a c'.1 b

  halted_once : (f g : CardFault) → Halted order card f → Halted order card g → f ≡ g
  halted_once f g a b = halts_once 3 _ _ a.passed b.passed a.terms b.terms f g refl refl a.chains a.stops b.chains b.stops

-- where the card passes its first questions, what the walk answers is the only answer
pub walked_once : {F R D : Type 0} (o : RingOps R) (member : F → R) (number : R → ℕ) (order kind : ℕ) (card : List ℕ) (long : ℕ) (after : List F) (P : D → Type 0) (Q : CardFault → Type 0)
    → (r : Result D CardFault) → first_no (read_questions kind long card) ≡ None
    → MatchResult r (λ d. P d × Gathered o member number order card (byte card 1) after) (λ f. Halted order card f × Q f)
    → (g : CardFault) → Refuses order kind card long g → result_err r ≡ Some g
walked_once o member number order kind card long after P Q r passed m g (asked a) = absurd (none-some g (sym passed ∙ a))
walked_once o member number order kind card long after P Q (Ok d) passed m g (walked _ b) = absurd (chains_never_halt order card m.1.generators g m.1.count m.1.chains b)
walked_once o member number order kind card long after P Q (Err f) passed m g (walked _ b) = ap (λ x. Some x) (halted_once order card f g m.0 b)

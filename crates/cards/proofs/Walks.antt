-- The walk along a chain: what its questions say, and what it enters into a table. Assumes nothing.
use Rattle.std.proofs.Common.{◌≡◌, ℕ, zero, suc, ◌+◌, ◌*◌, ◌<◌, ◌≤◌, Bool, true, false, cond, ltb, leb, List, [], ◌∷◌, length, set, Some, None, sym, refl, ap, ◌∙◌, subst, subst₂, add-one, arith, ltb-true, eq-eqb, ne_eqb, le-leb, leb-true}
use native.Mathlib.Decide.{ℕ_discrete}
use borrow.Author.Tests.{lt-leb}
use Rattle.algebra.specs.Rings.{RingOps}
use Rattle.fields.specs.Questions.{Question, asks, first_no}
use Rattle.tables.specs.Places.{at}
use Rattle.tables.proofs.Places.{at_set_same, at_set_other}
use Rattle.cards.specs.declared.fault.CardFault.{CardFault}
use Rattle.cards.specs.declared.fault.CardFault.TheVariants.{NoSuchRecord}
use Rattle.cards.specs.Cards.{Term}
use Rattle.cards.specs.Chains.{byte, record_start, code_at, Names, power_code}
use Rattle.cards.specs.Reading.{record_questions, where_named, link_questions, Stops, Entered}

module _ {E : Type 0} where
  -- no question is answered no: each is answered yes
  first_yes : (b : Bool) (e : E) (qs : List (Question E)) → None ≡ first_no (asks b e ∷ qs) → b ≡ true
  first_yes true e qs h = refl
  first_yes false e qs h = cc

  rest_yes : (b : Bool) (e : E) (qs : List (Question E)) → None ≡ first_no (asks b e ∷ qs) → None ≡ first_no qs
  rest_yes true e qs h = h
  rest_yes false e qs h = cc

module _ (order : ℕ) (card : List ℕ) (floor : ℕ) where
  -- a link above m
  pub link_above : (place : ℕ) → byte card 2 < byte card place → first_no (link_questions order card floor place) ≡ Some (NoSuchRecord place)
  link_above place h = ap (λ b. first_no (asks b (NoSuchRecord place) ∷ where_named (byte card place) (record_questions order card floor (record_start card place)))) (lt-leb (byte card place) (byte card 2) h)

  named_some : (r : ℕ) (qs : List (Question CardFault)) → 1 ≤ r → where_named r qs ≡ qs
  named_some zero qs h = absurd (omega arith)
  named_some (suc r) qs h = refl

  -- a link to a record asks what the record is asked
  pub link_record : (place : ℕ) → 1 ≤ byte card place → byte card place ≤ byte card 2 → first_no (link_questions order card floor place) ≡ first_no (record_questions order card floor (record_start card place))
  link_record place h k =
      ap (λ b. first_no (asks b (NoSuchRecord place) ∷ where_named (byte card place) (record_questions order card floor (record_start card place)))) (le-leb (byte card place) (byte card 2) k)
      ∙ ap first_no (named_some (byte card place) (record_questions order card floor (record_start card place)) h)

  pub link_zero : (place : ℕ) → byte card place ≡ 0 → first_no (link_questions order card floor place) ≡ None
  link_zero place z =
      ap (λ v. first_no (asks (leb v (byte card 2)) (NoSuchRecord place) ∷ where_named v (record_questions order card floor (record_start card place)))) z
      ∙ ap (λ b. first_no (asks b (NoSuchRecord place) ∷ [])) (le-leb 0 (byte card 2) (omega arith))

  abbrev pub term_at : ℕ → Term
  term_at start = record { power = byte card start; code = code_at card (start + 1) }

  -- a record that passes its questions
  pub names : (place : ℕ) → 1 ≤ byte card place → byte card place ≤ byte card 2 → None ≡ first_no (record_questions order card floor (record_start card place)) → Names order card floor place (term_at (record_start card place))
  names place one most none =
      let start = record_start card place in
      let one_left = rest_yes (leb (byte card start) 16) _ _ none in
      let two_left = rest_yes (leb floor (byte card start)) _ _ one_left in
      let three_left = rest_yes (ltb (code_at card (start + 1)) order) _ _ two_left in
      record {
        from_one = one;
        to_m = most;
        power = refl;
        code = refl;
        low = leb-true (byte card start) 16 (first_yes (leb (byte card start) 16) _ _ none);
        above = leb-true floor (byte card start) (first_yes (leb floor (byte card start)) _ _ one_left);
        below = ltb-true (code_at card (start + 1)) order (first_yes (ltb (code_at card (start + 1)) order) _ _ two_left);
        nonzero = ltb-true 0 (code_at card (start + 1)) (first_yes (ltb 0 (code_at card (start + 1))) _ _ three_left);
      }

power_code_same : (t : Term) (ts : List Term) → power_code (t ∷ ts) t.power ≡ t.code
power_code_same t ts = ap (λ b. cond b t.code (power_code ts t.power)) (eq-eqb t.power t.power refl)

power_code_other : (t : Term) (ts : List Term) (k : ℕ) → (t.power ≡ k → ⊥) → power_code (t ∷ ts) k ≡ power_code ts k
power_code_other t ts k h = ap (λ b. cond b t.code (power_code ts k)) (ne_eqb t.power k h)

module _ {F R : Type 0} (o : RingOps R) (member : F → R) (number : R → ℕ) (order : ℕ) (card : List ℕ) where
  pub entered_end : (floor place i : ℕ) (table : List F) → byte card place ≡ 0 → ((k : ℕ) → k < 17 → number (at o member table (17 * i + k)) ≡ 0) → Entered o member number order card floor place i table table
  entered_end floor place i table z zeros = record { terms = []; chain = z; row = zeros; others = λ j k h ne. refl }

  pub entered_step : (floor place i : ℕ) (t : Term) (before middle : List F) (x : F) → 17 * i + 17 ≤ length middle → Names order card floor place t → number (member x) ≡ t.code
      → Entered o member number order card (suc t.power) (record_start card place + 3) i before middle
      → Entered o member number order card floor place i before (set middle (17 * i + t.power) x)
  entered_step floor place i t before middle x long named means rest =
      record {
        terms = t ∷ rest.terms;
        chain = (named, rest.chain);
        row = λ k h. here k h (ℕ_discrete t.power k);
        others = λ j k h ne. at_set_other o member middle (17 * i + t.power) (17 * j + k) x (λ e. ne (let low = named.low in omega arith)) ∙ rest.others j k h ne;
      }
    where
      here : (k : ℕ) → k < 17 → Dec (t.power ≡ k) → number (at o member (set middle (17 * i + t.power) x) (17 * i + k)) ≡ power_code (t ∷ rest.terms) k
      here k h (yes e) =
          ap (λ p. number (at o member (set middle (17 * i + t.power) x) (17 * i + p))) (sym e)
          ∙ ap number (at_set_same o member middle (17 * i + t.power) x (let low = named.low in omega arith))
          ∙ means ∙ sym (power_code_same t rest.terms) ∙ ap (power_code (t ∷ rest.terms)) e
      here k h (no ne) =
          ap number (at_set_other o member middle (17 * i + t.power) (17 * i + k) x (λ e. ne (omega arith)))
          ∙ rest.row k h ∙ sym (power_code_other t rest.terms k ne)

-- the same for a start, a power and a floor as the code has them
module _ (order : ℕ) (card : List ℕ) (floor place start : ℕ) (starts : start ≡ record_start card place) (one : 1 ≤ byte card place) (most : byte card place ≤ byte card 2) where
  pub stops_here : (f : CardFault) → Some f ≡ first_no (record_questions order card floor start) → Stops order card [] floor place f
  stops_here f some = link_record order card floor place one most ∙ ap (λ s. first_no (record_questions order card floor s)) (sym starts) ∙ sym some

  pub named_here : None ≡ first_no (record_questions order card floor start) → Names order card floor place (term_at order card floor (record_start card place))
  named_here none = names order card floor place one most (none ∙ ap (λ s. first_no (record_questions order card floor s)) starts)

  pub stops_later : (power : ℕ) (f : CardFault) → None ≡ first_no (record_questions order card floor start) → power ≡ byte card start
      → (ts : List Term) × Stops order card ts (power + 1) (start + 3) f → (ts : List Term) × Stops order card ts floor place f
  stops_later power f none powers rest =
      (term_at order card floor (record_start card place) ∷ rest.0, (named_here none, subst₂ (λ (p s : ℕ). Stops order card rest.0 p (s + 3) f) (add-one power ∙ ap suc (powers ∙ ap (byte card) starts)) starts rest.1))

  pub enters_here : {F R : Type 0} (o : RingOps R) (member : F → R) (number : R → ℕ) (i power : ℕ) (before middle : List F) (x : F)
      → 17 * i + 17 ≤ length middle → None ≡ first_no (record_questions order card floor start) → power ≡ byte card start → number (member x) ≡ code_at card (start + 1)
      → Entered o member number order card (power + 1) (start + 3) i before middle → Entered o member number order card floor place i before (set middle (17 * i + power) x)
  enters_here {F} o member number i power before middle x long none powers means rest =
      subst (λ (p : ℕ). Entered o member number order card floor place i before (set middle (17 * i + p) x)) (sym (powers ∙ ap (byte card) starts))
      (entered_step o member number order card floor place i (term_at order card floor (record_start card place)) before middle x long (named_here none) (means ∙ ap (λ s. code_at card (s + 1)) starts)
      (subst₂ (λ (p s : ℕ). Entered o member number order card p (s + 3) i before middle) (add-one power ∙ ap suc (powers ∙ ap (byte card) starts)) starts rest))

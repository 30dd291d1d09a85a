-- A column taken as the next of all columns.
use Rattle.std.proofs.Common.{◌≡◌, ℕ, ◌<◌, ◌≤◌, Bool, true, false, List, length, set, ◌∙◌, arith, get_or-set_other, get_or-set_same}
use Rattle.algebra.specs.Rings.{RingOps, RingLaws}
use Rattle.elimination.specs.Steps.{entry_at, Takes}
use Rattle.elimination.specs.Echelon.{TakesNext}
use Rattle.elimination.proofs.Echelons as Echelons

pub place_new : (rank q : ℕ) (places : List ℕ) → rank < length places → entry_at (set places rank q) rank ≡ q
place_new rank q places room = get_or-set_same places rank q 0 room

pub place_old : (rank q : ℕ) (places : List ℕ) (t : ℕ) → t < rank → entry_at (set places rank q) t ≡ entry_at places t
place_old rank q places t h = get_or-set_other places rank t q 0 (λ e. omega arith)

module _ {M : Type 0} (o : RingOps M) (L : RingLaws o) (rows q rank : ℕ) (e : ℕ → ℕ → M) (p : ℕ → ℕ) (places : List ℕ) (c : ℕ → M) (f : ℕ → ℕ → M) (p' : ℕ → ℕ) (E : ℕ → M) where
  pub next_spanned : Takes o rows rank e p c f p' E false → TakesNext o rows q rank e p places c f p' E false
  next_spanned T = record {
    judged = λ W is X. Echelons.sum_of_column o L rows W q rank e p (entry_at places) X c is f p' E T;
    eliminated = λ W is X. Echelons.eliminated_spanned o L rows W q rank e p (entry_at places) X c is f p' E T;
  }

  pub next_pivotal : rank < length places → Takes o rows rank e p c f p' E true → TakesNext o rows q rank e p places c f p' E true
  next_pivotal room T = record {
    judged = λ W is X s. T.judged (λ t. W (entry_at places t)) X.turns (record { factor = s.factor; inside = s.inside; is = λ r l. is r l ∙ s.is r l });
    eliminated = λ W is X. Echelons.eliminated_pivotal o L rows W q rank e p (entry_at places) X c is f p' E (entry_at (set places rank q)) (place_old rank q places) (place_new rank q places room) T;
  }

  pub next_taken : (pivotal : Bool) → rows ≤ length places → Takes o rows rank e p c f p' E pivotal → TakesNext o rows q rank e p places c f p' E pivotal
  next_taken true room T = next_pivotal (omega (arith, T.bound)) T
  next_taken false room T = next_spanned T

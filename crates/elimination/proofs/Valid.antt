-- Steps that are known to be some. Main results: step_rows (where their pivots stand), rank_few, the_steps (all of them, in a field).
use Rattle.std.proofs.Common.{◌≡◌, ℕ, ◌<◌, ◌≤◌, sym, ap, ◌∙◌, subst}
use mathlib.Core.Logic.{∥∥₁_elim, ∥∥₁_map}
use Rattle.std.specs.Coded.{×_prop, le_prop}
use Rattle.algebra.specs.Rings.{RingOps, FieldLaws, Invertible}
use Rattle.algebra.proofs.Sums as Sums
use Rattle.elimination.specs.Steps.{IsStep, AreSteps}
use Rattle.elimination.proofs.Relations.{rank_bound}

module _ {M : Type 0} (o : RingOps M) (rows rank : ℕ) (e : ℕ → ℕ → M) (p : ℕ → ℕ) (valid : ∥ AreSteps o rows rank e p ∥₁) where
  pub step_rows : (t : ℕ) → t < rank → (t ≤ p t) × (p t < rows)
  step_rows t h = ∥∥₁_elim valid (×_prop le_prop le_prop) (λ s. let q = s t h in (q.low, q.within))

  pub rank_few : rank ≤ rows
  rank_few = ∥∥₁_elim valid le_prop (rank_bound o rows rank e p)

  pub the_steps : FieldLaws o → Invertible o → AreSteps o rows rank e p
  the_steps L inverts t h =
      let l = step_rows t h in
      let i = inverts (e t (p t)) (λ z. ∥∥₁_elim valid (λ a b. absurd a) (λ s. L.zero_not_one (sym (Sums.product_zero o L.ring (s t h).pivot) ∙ ap (o.product (s t h).pivot) (sym z) ∙ (s t h).inverse))) in
      record { low = l.0; within = l.1; pivot = i.0; inverse = L.ring.product_comm i.0 (e t (p t)) ∙ i.1 }

-- steps with the same numbers
pub steps_kept : {M : Type 0} (o : RingOps M) (rows rank : ℕ) (e f : ℕ → ℕ → M) (p : ℕ → ℕ) → ((t : ℕ) → t < rank → f t ≡ e t) → ∥ AreSteps o rows rank e p ∥₁ → ∥ AreSteps o rows rank f p ∥₁
steps_kept o rows rank e f p same valid = ∥∥₁_map valid (λ s t h. subst (λ g. IsStep o rows t g (p t)) (sym (same t h)) (s t h))

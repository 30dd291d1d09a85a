-- Columns in a table, changed row by row.
use Rattle.std.proofs.Common.{◌≡◌, ℕ, ◌<◌, List, length, get_or, set, sym, ap, ◌∙◌, ap₂, length-set}
use mathlib.Core.Path.{fun_ext}
use native.Mathlib.Decide.{ℕ_discrete}
use Rattle.algebra.specs.Rings.{RingOps}
use Rattle.tables.specs.Places.{at}
use Rattle.tables.proofs.Places.{at_read, at_set_same, at_set_other}
use Rattle.elimination.specs.Steps.{write, step}
use Rattle.elimination.proofs.StepMaps.{write_same, write_other}

module _ {F M : Type 0} (o : RingOps M) (m : F → M) where
  -- the element read is the member there
  pub at_is : (xs : List F) (k : ℕ) (x : F) → k < length xs → x ≡ get_or xs k x → at o m xs k ≡ m x
  at_is xs k x h e = at_read o m xs k x h ∙ ap m (sym e)

  pub at_set : (xs : List F) (k : ℕ) (x : F) → k < length xs → at o m (set xs k x) ≡ write k (m x) (at o m xs)
  at_set xs k x h = fun_ext (λ r. elim (ℕ_discrete r k) [
    | yes e ↦ ap (at o m (set xs k x)) e ∙ at_set_same o m xs k x h ∙ sym (ap (write k (m x) (at o m xs)) e ∙ write_same k (m x) (at o m xs))
    | no n ↦ at_set_other o m xs k r x n ∙ sym (write_other k (m x) (at o m xs) r n)
  ])

  -- the column after a step, as it is written
  pub step_written : (e u : ℕ → M) (t p : ℕ) (now : List F) (exchanged product : F) → t < length now → p < length now → m product ≡ o.product (e p) (u p) → m exchanged ≡ u t → ((r : ℕ) → at o m now r ≡ o.sum (u r) (o.product (e r) (o.negative (m product)))) → at o m (set (set now p exchanged) t product) ≡ step o e t p u
  step_written e u t p now exchanged product lt lp ep et rest =
      at_set (set now p exchanged) t product (rw length-set lt)
      ∙ ap (write t (m product)) (at_set now p exchanged lp)
      ∙ ap (λ f. write t (m product) (write p (m exchanged) f)) (fun_ext rest)
      ∙ ap₂ (λ x y. write t x (write p y (λ r. o.sum (u r) (o.product (e r) (o.negative x))))) ep et

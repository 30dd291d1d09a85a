-- The promise of a framed design, after a run.
use Rattle.std.proofs.Common.{ℕ, List}
use Rattle.algebra.specs.Rings.{RingOps}
use Rattle.history.specs.declared.request.Request.{Request}
use Rattle.history.specs.declared.request.Answer.{Answer}
use Rattle.history.specs.Runs.{Performs}
use Rattle.history.specs.Steps.{Held, SafeStep, Stands}

module _ {F R : Type 0} (o : RingOps R) (member : F → R) (code_of : F → ℕ) (order : ℕ) where
  pub stands_after : (qs : List (Request F)) (s : Held F) (rs : List (Answer F)) (t : Held F) → Stands o member s.design s.generators s.frame
      → Performs (SafeStep o member code_of order) qs s rs t → Stands o member t.design t.generators t.frame
  stands_after qs s rs t before Performs.done = before
  stands_after qs s rs t before (Performs.next a p) = stands_after _ _ _ t a.after p

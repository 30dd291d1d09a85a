use mathlib.Core.Logic.{∥∥₁_map}
use Rattle.std.proofs.Common.{◌≡◌, suc, List, length, Some, refl, ap, subst, arith, rules, IfSome, vec_items}
use Rattle.std.proofs.lemmas.List.{with_items_is}
use Rattle.history.specs.Steps.{Stands}
use Rattle.script_runner.proofs.Promises.{stands_after}
use Rattle.history.specs.Runs.{Performs}
use Rattle.script_runner.proofs.desk.Desk.perform_one.Goals as goal

-- a run answers each request
performs_length : {Q T S : Type 0} (step : Q → S → T → S → Type 0) (qs : List Q) (rs : List T) (s t : S) → Performs step qs s rs t → length qs ≡ length rs
performs_length step qs rs s t Performs.done = refl
performs_length step qs rs s t (Performs.next a p) = ap suc (performs_length step _ _ _ t p)

-- so one request has one answer
pub unwrap-requires : goal.unwrap-requires
unwrap-requires g c =
    let same = performs_length _ _ _ _ _ c.in_ok-done.ensures.run in
    c.pop.ensures.variant.1 (omega (arith, same, ap length c.in_ok-requests.ensures.items, c.in_ok-done.done.answers.ok.0))

-- a design that kept its promise before the request keeps it after
pub invariant_of-self-2-clause-stands : goal.invariant_of-self-2-clause-stands
invariant_of-self-2-clause-stands g c =
    let f = g.F.Field in
    let self = c.args.self.now in
    let design = c.in_ok-design.design in
    let is : self.design ≡ Some design = search rules in
    rw (with_items_is self.generators c.perform.new.generators (omega arith), with_items_is self.frame c.perform.new.frame (omega arith))
    (∥∥₁_map (subst (λ o. ∥ IfSome o (λ d. Stands f.ops f.member d (vec_items self.generators) (vec_items self.frame)) ∥₁) is self.stands)
    (λ before. let same : Stands f.ops f.member design c.deref_mut.result.now c.deref_mut-2.result.now = rw (c.deref_mut.ensures.value, c.deref_mut-2.ensures.value) before in
    stands_after f.ops f.member _ _ _ _ _ _ same (c.in_ok-done.ensures.promises same)))

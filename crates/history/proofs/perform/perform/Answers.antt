use Rattle.std.proofs.Common.{List, vec_items, subst, arith}
use Rattle.std.specs.Vec.Iter.{into_iter_items}
use Rattle.std.proofs.lemmas.List.{nil_from_length}
use Rattle.fields.specs.Elements.{code_of}
use Rattle.history.proofs.Runs.{leads_next, leads_end}
use Rattle.history.proofs.Safe.{safe_run}
use Rattle.history.specs.declared.request.Request.{Request}
use Rattle.history.specs.Runs.{Performs}
use Rattle.history.specs.Steps.{Step, held}
use Rattle.history.proofs.perform.perform.Goals as goal

pub loop-request-preserved : goal.loop-request-preserved
loop-request-preserved g c =
    let room = c.loop-request.invariant.0 in
    let step = c.in-Some.ensures.steps in (
      let fewer = step.1 in let more = c.push_reserved.ensures.len in let same = c.push_reserved.ensures.capacity in omega arith,
      leads_next _ _ _ _ _ _ _ _ _ _ _ c.loop-request.invariant.1 step.0 c.perform_one-stepped.ensures c.push_reserved.ensures.items,
    )

pub returns : goal.returns
returns g c =
    let f = g.F.Field in
    let empty = c.in-None.ensures.steps.0 in
    let left = nil_from_length (into_iter_items c.loop-request.request-iterator) (let ok = c.loop-request.request-iterator.rest.ok.0 in omega arith) in
    let entry = held c.args.design c.args.generators.now c.args.frame.now in
    let exit = held c.loop-request.design c.loop-request.generators c.loop-request.frame in
    let step = Step f.ops f.member (code_of f.number f.member) f.order in
    let run =
    subst (λ (qs : List (Request g.row.F.Denot)). Performs step qs entry (vec_items c.loop-request.answers) exit) c.into_iter-request-iterator.ensures.into_iter_gives.0
    (leads_end step _ entry _ _ exit c.loop-request.invariant.1 left) in
    record {
      run = run;
      promises = λ stands. safe_run f.ops f.member g.met.F.Field.laws (code_of f.number f.member) f.order _ entry _ exit stands run;
      unperformed = tt;
    }

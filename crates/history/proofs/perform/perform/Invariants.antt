use Rattle.std.proofs.Common.{◌+◌, ◌≤◌, vec_items, vec_len, vec_capacity}
use Rattle.std.specs.Vec.Iter.{into_iter_items, into_iter_len}
use Rattle.fields.specs.Elements.{code_of}
use Rattle.history.specs.Steps.{Step, held}
use Rattle.history.proofs.Runs.{Leads}
use Rattle.history.proofs.perform.perform.Given as goal

abbrev pub invariant-loop-request : goal.invariant-loop-request
invariant-loop-request g l =
    let f = g.F.Field in
    (vec_len l.answers + into_iter_len l.request-iterator ≤ vec_capacity l.answers)
    × Leads (Step f.ops f.member (code_of f.number f.member) f.order) (into_iter_items l.initial.request-iterator) (held l.initial.design l.initial.generators l.initial.frame) (vec_items l.answers) (into_iter_items l.request-iterator) (held l.design l.generators l.frame)

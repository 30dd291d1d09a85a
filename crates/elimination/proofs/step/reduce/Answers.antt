use Rattle.std.proofs.Common.{◌<◌, ap, ◌∙◌, arith, length-take}
use Rattle.std.proofs.lemmas.List.{get_or-take}
use Rattle.tables.specs.Places.{at}
use Rattle.elimination.specs.Steps.{step, column_at, entry_at}
use Rattle.elimination.proofs.Tables.{reduced_more}
use Rattle.elimination.proofs.step.reduce.Goals as goal

pub loop-t-preserved : goal.loop-t-preserved
loop-t-preserved g c =
    let f = g.F.Field in
    let less : c.loop-t.t < c.args.rank = omega (arith, simp length-take at c.loop-t-test.true) in
    reduced_more f.ops (column_at f.ops f.member c.args.rows c.args.factors.now) (entry_at c.args.pivots.now) c.loop-t.t (at f.ops f.member c.args.column.now)
    (at f.ops f.member c.loop-t.column) (at f.ops f.member c.apply_step.new.column) (at f.ops f.member c.factors_of.result.now) c.loop-t.invariant c.factors_of.ensures.value
    (c.apply_step.ensures ∙ ap (λ p. step f.ops (at f.ops f.member c.factors_of.result.now) c.loop-t.t p (at f.ops f.member c.loop-t.column)) (get_or-take c.args.rank c.args.pivots.now c.loop-t.t 0 less))

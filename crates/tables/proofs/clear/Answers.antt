use Rattle.std.proofs.Common.{◌∙◌, below_more, arith}
use Rattle.tables.proofs.Places.{at_cleared, at_set_same, at_set_other}
use Rattle.tables.proofs.clear.Goals as goal

pub loop-x-preserved : goal.loop-x-preserved
loop-x-preserved g c =
    let f = g.F.Field in
    below_more _ _
    (λ k h. at_set_other f.ops f.member c.loop-x.table c.loop-x.x-index k c.zero.result (λ e. omega (arith, e)) ∙ c.loop-x.invariant k h)
    (at_set_same f.ops f.member c.loop-x.table c.loop-x.x-index c.zero.result (omega arith) ∙ c.zero.ensures)

pub returns : goal.returns
returns g c = let f = g.F.Field in at_cleared f.ops f.member c.loop-x.table (λ k h. c.loop-x.invariant k (omega arith))

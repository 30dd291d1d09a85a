use Rattle.std.proofs.Common.{arith}
use Rattle.frames.proofs.RowDegree.{highest_more}
use Rattle.frames.proofs.row.row_degree.Goals as goal

pub loop-i-preserved : goal.loop-i-preserved
loop-i-preserved g c =
    let f = g.F.Field in
    let i = c.loop-i.invariant in
    highest_more f.ops g.met.F.Field.laws.ring f.member c.args.row.now c.loop-i.i c.loop-i.highest c.max-highest.result c.unwrap_or.result c.degree.result
    (omega (arith, c.requires, c.loop-i-test.true)) i.0 i.1 c.degree.ensures c.unwrap_or.ensures c.max-highest.ensures

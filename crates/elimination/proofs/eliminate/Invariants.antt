use Rattle.std.proofs.Common.{◌≡◌}
use Rattle.elimination.proofs.Whole.{Progress}
use Rattle.elimination.proofs.eliminate.Given as goal

abbrev pub invariant-loop-q : goal.invariant-loop-q
invariant-loop-q g l = let f = g.F.Field in record {
  rows : l.steps.rows ≡ l.rows;
  progress : Progress f.ops f.member l.rows l.initial.matrix l.q l.steps.rank l.steps.factors.now l.steps.pivots.now l.places l.matrix;
}

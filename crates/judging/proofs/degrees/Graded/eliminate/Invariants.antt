use Rattle.std.proofs.Common.{◌≡◌}
use Rattle.elimination.specs.Steps.{column_at, entry_at, Reduces}
use Rattle.judging.specs.Columns.{check_leading}
use Rattle.judging.proofs.degrees.Graded.eliminate.Given as goal

abbrev pub invariant-loop-j : goal.invariant-loop-j
invariant-loop-j g l =
    let f = g.F.Field in
    record {
      rows : l.steps.rows ≡ l.self.offer.now.n;
      rank : l.steps.rank ≡ l.j;
      reduces : Reduces f.ops l.self.offer.now.n l.j (column_at f.ops f.member l.self.offer.now.n l.steps.factors.now) (entry_at l.steps.pivots.now) (check_leading f.ops f.member l.self.offer.now.offered.now l.self.degrees);
    }

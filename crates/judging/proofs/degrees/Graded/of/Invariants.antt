use Rattle.std.proofs.Common.{◌≡◌, ℕ, ◌<◌, ◌≤◌, length}
use Rattle.elimination.specs.Steps.{entry_at}
use Rattle.frames.specs.Rows.{Highest}
use Rattle.framing.specs.Framing.{column_in}
use Rattle.judging.proofs.degrees.Graded.of.Given as goal

abbrev pub invariant-loop-j : goal.invariant-loop-j
invariant-loop-j g l =
    let f = g.F.Field in
    record {
      all : length l.degree-items ≡ l.offer.n;
      degrees : (j : ℕ) → j < l.j → Highest f.ops l.offer.n (column_in f.ops f.member l.offer.offered.now j) (entry_at l.degree-items j);
      bound : (j : ℕ) → j < l.j → entry_at l.degree-items j ≤ 16;
    }

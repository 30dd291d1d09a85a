use Rattle.std.proofs.Common.{ℕ, ◌<◌, ◌≤◌}
use Rattle.algebra.specs.Optimal.{Syzygy}
use Rattle.frames.specs.Rows.{generator_in}
use Rattle.framing.specs.Framing.{column_in}
use Rattle.judging.proofs.offer.Offer.lowest_no_syzygy.Given as goal

abbrev pub invariant-loop-j : goal.invariant-loop-j
invariant-loop-j g l =
    let f = g.F.Field in
    (j : ℕ) → 1 ≤ j → j < l.j → Syzygy f.ops l.self.n (generator_in f.ops f.member l.self.generators.now) (column_in f.ops f.member l.self.offered.now j)

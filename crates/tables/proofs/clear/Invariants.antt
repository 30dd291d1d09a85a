use Rattle.std.proofs.Common.{◌≡◌, ℕ, ◌<◌}
use Rattle.tables.specs.Places.{at}
use Rattle.tables.proofs.clear.Given as goal

abbrev pub invariant-loop-x : goal.invariant-loop-x
invariant-loop-x g l = let f = g.F.Field in (k : ℕ) → k < l.x-index → at f.ops f.member l.table k ≡ f.ops.zero

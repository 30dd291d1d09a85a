use Rattle.std.proofs.Common.{◌≤◌}
use Rattle.frames.specs.Rows.{row_in, Highest}
use Rattle.frames.proofs.row.row_degree.Given as goal

abbrev pub invariant-loop-i : goal.invariant-loop-i
invariant-loop-i g l = let f = g.F.Field in Highest f.ops l.i (row_in f.ops f.member l.row 0) l.highest × (l.highest ≤ 16)

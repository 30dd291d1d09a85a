use Rattle.std.proofs.Common.{◌≡◌, ◌<◌}
use Rattle.walkthrough.proofs.columns.ColumnsTextDisplay.fmt.Given as goal

abbrev pub invariant-loop-j : goal.invariant-loop-j
invariant-loop-j g l =
    (goal.iterator-loop-j g).can_next l.j-iterator ×
    (goal.iterator-loop-j g).is_finite l.j-iterator ×
    (l.n < 9) ×
    (l.j-iterator.b.a.size ≡ 136)

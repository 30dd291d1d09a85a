use Rattle.std.proofs.Common.{◌<◌, All, length, take}
use Rattle.test_support.proofs.elements.write.Given as goal

abbrev pub invariant-loop-place : goal.invariant-loop-place
invariant-loop-place g l = All (λ c. (c.0 < length l.initial.table) × (c.1 < g.F.Field.order)) (take l.place-index l.cells)

use Rattle.std.proofs.Common.{◌≡◌, [], replicate}
use Rattle.trial_support.proofs.blocks.product_with.Given as goal

abbrev pub invariant-loop-polynomial : goal.invariant-loop-polynomial
invariant-loop-polynomial g l = l.fn.column ≡ [] → (l.polynomial-iterator.b.rest.now ≡ []) × (l.product ≡ replicate 33 0)

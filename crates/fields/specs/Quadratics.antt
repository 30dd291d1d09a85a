-- Quadratics with no root. The clauses of `Quadratic` cite it; it assumes nothing.
use Rattle.std.specs.Prelude.{◌≢◌}
use Rattle.algebra.specs.Rings.{RingOps}

-- z·z + t·z + c
abbrev pub quadratic : {R : Type 0} → RingOps R → R → R → R → R
quadratic o t c z = o.sum (o.sum (o.product z z) (o.product t z)) c

-- no member is a root
abbrev pub Rootless : {R : Type 0} → RingOps R → R → R → Type 0
Rootless {R} o t c = (z : R) → quadratic o t c z ≢ o.zero

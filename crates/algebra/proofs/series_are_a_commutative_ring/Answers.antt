use Rattle.algebra.proofs.Theorems.{series_ring}
use Rattle.algebra.proofs.series_are_a_commutative_ring.Goals as goal

pub returns : goal.returns
returns g c = series_ring g.K.Members.ops g.K.Members.field

use Rattle.algebra.proofs.Theorems.{division_with_remainder}
use Rattle.algebra.proofs.division_with_remainder_exists_and_is_unique.Goals as goal

pub returns : goal.returns
returns g c = division_with_remainder g.K.Members.ops g.K.Members.field

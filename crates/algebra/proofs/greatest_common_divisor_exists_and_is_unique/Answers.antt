use Rattle.algebra.proofs.Theorems.{greatest_common_divisor}
use Rattle.algebra.proofs.greatest_common_divisor_exists_and_is_unique.Goals as goal

pub returns : goal.returns
returns g c = greatest_common_divisor g.K.Members.ops g.K.Members.field

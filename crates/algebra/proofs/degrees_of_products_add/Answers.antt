use Rattle.algebra.proofs.Theorems.{polynomial_degrees}
use Rattle.algebra.proofs.degrees_of_products_add.Goals as goal

pub returns : goal.returns
returns g c = polynomial_degrees g.K.Members.ops g.K.Members.field

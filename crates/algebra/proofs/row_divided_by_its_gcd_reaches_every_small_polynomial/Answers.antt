use Rattle.algebra.proofs.Theorems.{row_divided_by_gcd}
use Rattle.algebra.proofs.row_divided_by_its_gcd_reaches_every_small_polynomial.Goals as goal

pub returns : goal.returns
returns g c = row_divided_by_gcd g.K.Members.ops g.K.Members.field

use Rattle.algebra.proofs.Theorems.{exchange_over_field}
use Rattle.algebra.proofs.more_unknowns_than_equations_have_a_solution.Goals as goal

pub returns : goal.returns
returns g c = exchange_over_field g.K.Members.ops g.K.Members.field

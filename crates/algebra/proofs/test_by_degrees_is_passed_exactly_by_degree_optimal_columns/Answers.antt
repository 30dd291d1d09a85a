use Rattle.algebra.proofs.TestExact.{test_exact}
use Rattle.algebra.proofs.test_by_degrees_is_passed_exactly_by_degree_optimal_columns.Goals as goal

pub returns : goal.returns
returns g c = test_exact g.K.Members.ops g.K.Members.field

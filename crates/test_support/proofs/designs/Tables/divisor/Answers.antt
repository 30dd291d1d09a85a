use Rattle.std.proofs.Common.{rules, length, arith}
use Rattle.std.proofs.lemmas.Slice.{between_to_end}
use Rattle.test_support.proofs.designs.Tables.divisor.Goals as goal

pub returns : goal.returns
returns g c = let rest = between_to_end c.deref.result.now 1088 (length c.deref.result.now) (omega arith) in λ long. search rules

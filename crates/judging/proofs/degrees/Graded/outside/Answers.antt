use Rattle.std.proofs.Common.{get_or}
use Rattle.algebra.proofs.Fields.{field_of}
use Rattle.judging.specs.Columns.{coefficients_in, check_leading}
use Rattle.judging.proofs.Vectors.{outside_tells}
use Rattle.judging.proofs.degrees.Graded.outside.Goals as goal

pub returns : goal.returns
returns g c =
    let f = g.F.Field in
    let field = field_of g.met.F.Field.laws g.met.F.Field.numbered g.met.F.Field.invertible in
    let graded = c.args.self.now in
    let made = rw c.unwrap-steps.ensures at c.eliminate.ensures.steps in
    outside_tells f.ops field graded.offer.now.n c.args.count _ _ _ _ _ _ (check_leading f.ops f.member graded.offer.now.offered.now graded.degrees) made.1.1
    c.take_column.result (rw (made.0, made.1.0) at c.take_column.ensures.takes) (coefficients_in f.ops f.member graded.offer.now.offered.now 0 (get_or graded.degrees 0 0)) c.write_leading.ensures

use Rattle.algebra.proofs.Fields.{field_of}
use Rattle.scan.proofs.Walking as Walking
use Rattle.scan.proofs.scan.Goals as goal

pub walk-requires-clause-walked : goal.walk-requires-clause-walked
walk-requires-clause-walked g c =
    let laws = g.met.F.Field in
    Walking.walked_start c.new-walk.result (field_of laws.laws laws.numbered laws.invertible) c.args.frame.now c.new-walk.ensures.none.0 c.new-walk.ensures.none.1 c.new-walk.ensures.unmarked c.requires.cleared

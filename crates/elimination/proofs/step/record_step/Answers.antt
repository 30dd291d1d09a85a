use Rattle.std.proofs.Common.{◌≡◌, ◌+◌, ◌*◌, length, set, sym, ap, ◌∙◌, arith, length-set}
use Rattle.tables.specs.Places.{at}
use Rattle.tables.proofs.Slices.{kept_range}
use Rattle.elimination.specs.Steps.{write}
use Rattle.elimination.proofs.Columns.{at_set}
use Rattle.elimination.proofs.Tables.{replaced_here}
use Rattle.elimination.proofs.step.record_step.Goals as goal

pub returns-clause-here : goal.returns-clause-here
returns-clause-here g c =
    let f = g.F.Field in
    let copied = c.copy_from_slice.new.self in
    let long : length copied ≡ c.args.rows = omega (arith, ap length c.copy_from_slice.ensures.after, c.requires.room) in
    sym (replaced_here f.ops f.member (c.args.rows * c.args.rank) c.args.rows c.args.factors.now (set copied c.args.pivot.row c.args.pivot.inverse) c.requires.room.0 (rw length-set long))
    ∙ at_set f.ops f.member copied c.args.pivot.row c.args.pivot.inverse (omega (arith, long, c.requires.room))
    ∙ ap (λ l. write c.args.pivot.row (f.member c.args.pivot.inverse) (at f.ops f.member l)) c.copy_from_slice.ensures.after

pub returns-clause-others : goal.returns-clause-others
returns-clause-others g c =
    let f = g.F.Field in
    let base = c.args.rows * c.args.rank in
    let step = set c.copy_from_slice.new.self c.args.pivot.row c.args.pivot.inverse in
    λ k h. kept_range f.ops f.member base (base + c.args.rows) c.args.rows c.args.factors.now step (omega arith) c.requires.room.0 (rw length-set c.copy_from_slice.auto.self) k (λ w. omega arith)

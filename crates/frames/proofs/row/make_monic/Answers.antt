use Rattle.std.proofs.Common.{Option, ℕ, sym, subst, arith}
use Rattle.algebra.proofs.Fields.{field_of}
use Rattle.tables.specs.Places.{at}
use Rattle.frames.specs.Common.{MadeMonic}
use Rattle.frames.proofs.RowSteps.{monic_like}
use Rattle.frames.proofs.row.make_monic.Goals as goal

pub returns-in_err-e : goal.returns-in_err-e
returns-in_err-e g c =
    let f = g.F.Field in
    subst (λ (r : Option ℕ). MadeMonic f.ops (at f.ops f.member c.args.divisor.now) (at f.ops f.member c.args.divisor.now) r) (sym c.from_residual.ensures) (c.in_err-e.ensures, c.in_err-e.ensures)

pub returns : goal.returns
returns g c =
    let f = g.F.Field in
    let d = c.in_ok-e.ensures in
    monic_like f.ops (field_of g.met.F.Field.laws g.met.F.Field.numbered g.met.F.Field.invertible) c.in_ok-e.e (f.member c.inverse_at-inverse.result)
    (at f.ops f.member c.args.divisor.now) (at f.ops f.member c.scale.new.row) (omega (arith, d.0)) d.1 c.inverse_at-inverse.ensures c.scale.ensures

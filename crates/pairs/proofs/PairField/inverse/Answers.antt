use Rattle.std.proofs.Common.{subst, sym}
use Rattle.std.specs.Option.{option_map}
use Rattle.fields.specs.Elements.{Inverts}
use Rattle.pairs.specs.Pairs.{pair, pair_ops}
use Rattle.pairs.specs.Codes.{decide_zero}
use Rattle.pairs.specs.Laws.{steps_invert, norm_zero}
use Rattle.pairs.proofs.PairField.inverse.Goals as goal

pub returns : goal.returns
returns g c =
    let o = g.F.Field.ops in
    let m = g.F.Field.member in
    steps_invert o (m g.F.Quadratic.linear) (m g.F.Quadratic.constant) g.met.F.Field.laws.ring (pair (m c.args.self.low) (m c.args.self.high))
    (m c.in_ok-over.over)
    (m c.t.result)
    (m c.multiply.result)
    (m c.subtract.result)
    (m c.negate.result)
    (m c.multiply-2.result)
    (m c.multiply-3.result)
    (m c.divisor.result)
    c.t.ensures
    c.multiply.ensures
    c.subtract.ensures
    c.negate.ensures
    c.multiply-2.ensures
    c.multiply-3.ensures
    c.divisor.ensures
    c.in_ok-over.ensures

pub returns-in_err-over : goal.returns-in_err-over
returns-in_err-over g c =
    let o = g.F.Field.ops in
    let m = g.F.Field.member in
    let t = m g.F.Quadratic.linear in
    let k = m g.F.Quadratic.constant in
    let x = pair (m c.args.self.low) (m c.args.self.high) in
    subst (λ r. Inverts (pair_ops o t k) x (option_map (λ y. pair (m y.low) (m y.high)) r)) (sym c.from_residual.ensures)
    (norm_zero o t k g.met.F.Field.laws (decide_zero g.met.F.Field.numbered) g.met.F.Field.invertible g.met.F.Quadratic.rootless x (m c.divisor.result) c.divisor.ensures c.in_err-over.ensures)

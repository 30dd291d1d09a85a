use Rattle.std.proofs.Common.{sym, ap, ◌∙◌, ap₂, arith}
use Rattle.tables.specs.Places.{at}
use Rattle.elimination.proofs.Columns.{at_is, step_written}
use Rattle.elimination.proofs.step.apply_step.Goals as goal

pub returns : goal.returns
returns g c =
    let f = g.F.Field in
    let L = g.met.F.Field.laws.ring in
    let factor = at f.ops f.member c.args.factors.now in
    let entry = at f.ops f.member c.args.column.now in
    step_written f.ops f.member factor entry c.args.t c.args.p
    c.add_multiple.new.target c.index-column-t.result c.multiply-product.result (omega (arith, c.add_multiple.auto.target)) (omega (arith, c.add_multiple.auto.target))
    (c.multiply-product.ensures
    ∙ sym (ap₂ f.ops.product
    (at_is f.ops f.member c.args.factors.now c.args.p c.index-factors-p.result (omega arith) c.index-factors-p.is)
    (at_is f.ops f.member c.args.column.now c.args.p c.index-column-p.result (omega arith) c.index-column-p.is)))
    (sym (at_is f.ops f.member c.args.column.now c.args.t c.index-column-t.result (omega arith) c.index-column-t.is))
    (λ r. ap (λ v. v r) c.add_multiple.ensures
    ∙ ap (f.ops.sum (entry r)) (ap (λ x. f.ops.product x (factor r)) c.negate.ensures ∙ L.product_comm (f.ops.negative (f.member c.multiply-product.result)) (factor r)))

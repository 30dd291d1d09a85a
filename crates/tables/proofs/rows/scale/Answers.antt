use Rattle.std.proofs.Common.{◌≡◌, get_or, sym, ap, ◌∙◌, arith}
use Rattle.tables.specs.Places.{at}
use Rattle.tables.proofs.Places.{at_read}
use Rattle.tables.proofs.Slices.{written_more, scaled_is}
use Rattle.tables.proofs.rows.scale.Goals as goal

pub loop-x-preserved : goal.loop-x-preserved
loop-x-preserved g c =
    let f = g.F.Field in
    let k = c.loop-x.x-index in
    let was : f.member (get_or c.loop-x.row k c.x-item.result) ≡ at f.ops f.member c.args.row.now k =
    sym (at_read f.ops f.member c.loop-x.row k c.x-item.result (omega arith)) ∙ c.loop-x.invariant.1 k (λ w. omega arith) in
    written_more f.ops f.member (λ k. f.ops.product (f.member c.args.factor) (at f.ops f.member c.args.row.now k)) 0 k k c.args.row.now c.loop-x.row c.multiply.result
    c.loop-x.invariant (omega arith) (omega arith) (c.multiply.ensures ∙ ap (f.ops.product (f.member c.args.factor)) was)

pub returns : goal.returns
returns g c =
    let f = g.F.Field in
    scaled_is f.ops f.member g.met.F.Field.laws.ring (f.member c.args.factor) c.loop-x.x-index c.args.row.now c.loop-x.row c.loop-x.invariant (omega arith)

use Rattle.std.proofs.Common.{◌≡◌, ◌+◌, get_or, sym, ap, ap₂, ◌∙◌, arith}
use Rattle.tables.specs.Places.{at}
use Rattle.tables.proofs.Places.{at_read}
use Rattle.tables.proofs.Slices.{written_more, added_is}
use Rattle.tables.proofs.rows.add_multiple.Goals as goal

pub loop-k-preserved : goal.loop-k-preserved
loop-k-preserved g c =
    let f = g.F.Field in
    let t = c.args.target.now in
    let s = c.args.source.now in
    let k = c.loop-k.k in
    let j = c.args.power + k in
    let read : at f.ops f.member c.loop-k.target j ≡ f.member (get_or c.loop-k.target j c.index-target-power.result) = at_read f.ops f.member c.loop-k.target j c.index-target-power.result (omega arith) in
    let source : at f.ops f.member s k ≡ f.member (get_or s k c.index-source-k.result) = at_read f.ops f.member s k c.index-source-k.result (omega arith) in
    let product : f.member c.multiply.result ≡ f.ops.product (f.member c.args.factor) (at f.ops f.member s k) =
    c.multiply.ensures ∙ ap (λ p. f.ops.product p (f.member c.args.factor)) (ap f.member c.index-source-k.is ∙ sym source) ∙ g.met.F.Field.laws.ring.product_comm (at f.ops f.member s k) (f.member c.args.factor) in
    written_more f.ops f.member (λ k. f.ops.sum (at f.ops f.member t (c.args.power + k)) (f.ops.product (f.member c.args.factor) (at f.ops f.member s k))) c.args.power k j t c.loop-k.target c.add.result
    c.loop-k.invariant (omega arith) (omega arith) (c.add.ensures ∙ ap₂ f.ops.sum (sym read ∙ c.loop-k.invariant.1 j (λ w. omega arith)) product)

pub returns : goal.returns
returns g c =
    let f = g.F.Field in
    added_is f.ops f.member g.met.F.Field.laws.ring (f.member c.args.factor) c.args.power c.loop-k.k c.args.source.now c.args.target.now c.loop-k.target c.loop-k.invariant (omega arith)

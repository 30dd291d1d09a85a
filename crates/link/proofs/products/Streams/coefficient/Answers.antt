use Rattle.std.proofs.Common.{◌-◌, sym, refl, ap, ◌∙◌, ap₂, arith}
use Rattle.tables.proofs.Places.{at_read}
use Rattle.link.proofs.Turns.{after_gap, met_first, symbol_within, met_next, met_all}
use Rattle.link.proofs.products.Streams.coefficient.Goals as goal

pub loop-k-init : goal.loop-k-init
loop-k-init g c =
    let f = g.F.Field in
    met_first f.ops f.member _ _ _ _ _ _ _ g.met.F.Field.laws.ring c.args.self.now.whole c.min-last.ensures (omega arith) _ c.zero-sum.ensures

pub loop-k-preserved : goal.loop-k-preserved
loop-k-preserved g c =
    let f = g.F.Field in
    let here = symbol_within f.ops f.member _ _ _ _ _ _ _ g.met.F.Field.laws.ring c.args.self.now.whole c.min-last.ensures (omega arith) _ _ _ (after_gap c.args.polynomial.now (c.args.t - c.min-last.result) c.min.result c.min.ensures) c.min-2.ensures refl c.loop-k.k c.loop-k-test.true c.requires in
    met_next f.ops f.member _ _ _ _ _ _ _ g.met.F.Field.laws.ring c.args.self.now.whole c.min-last.ensures (omega arith) _ _ _ (after_gap c.args.polynomial.now (c.args.t - c.min-last.result) c.min.result c.min.ensures) c.min-2.ensures refl c.loop-k.k _ _ c.loop-k-test.true c.loop-k.invariant
    (c.add-sum.ensures
    ∙ ap (λ z. f.ops.sum (f.member c.loop-k.sum) z)
    (c.multiply.ensures
    ∙ ap₂ f.ops.product
    (ap f.member c.index-coefficients-k.is ∙ sym (at_read f.ops f.member _ c.loop-k.k c.index-coefficients-k.result c.loop-k-test.true))
    (ap f.member c.index-symbols-self.is ∙ sym (at_read f.ops f.member c.args.self.now.symbols.now _ c.index-symbols-self.result here))))

pub returns : goal.returns
returns g c =
    let f = g.F.Field in
    met_all f.ops f.member _ _ _ _ _ _ _ g.met.F.Field.laws.ring c.args.self.now.whole c.min-last.ensures (omega arith) _ _ _ (after_gap c.args.polynomial.now (c.args.t - c.min-last.result) c.min.result c.min.ensures) c.min-2.ensures refl c.loop-k.k _ (omega arith) c.loop-k.invariant

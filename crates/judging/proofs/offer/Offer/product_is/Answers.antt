use Rattle.std.proofs.Common.{◌+◌, ◌*◌, length, sym, ap, ◌∙◌, arith}
use Rattle.algebra.specs.Series.{series, shift, scale}
use Rattle.frames.specs.Rows.{generator_in}
use Rattle.tables.specs.Places.{at}
use Rattle.judging.proofs.Sent.{difference_zero, zero_difference, scale_one, tells_like, zero_tells}
use Rattle.judging.proofs.Copied.{dot_range}
use Rattle.judging.proofs.offer.Offer.product_is.Goals as goal

pub returns : goal.returns
returns g c =
    let f = g.F.Field in
    let o = f.ops in
    let L = g.met.F.Field.laws.ring in
    let offer = c.args.self.now in
    let x = f.member c.one.result in
    let product = at o f.member c.write_product.new.product in
    let polynomial = at o f.member c.args.polynomial.now in
    let start = 136 * c.args.j in
    let sent = rw c.column-column.ensures.value at c.write_product.ensures ∙ dot_range o L f.member (generator_in o f.member offer.generators.now) offer.offered.now start (start + 136) offer.n (omega arith) in
    let whole = scale_one o L x polynomial c.one.ensures in
    let sum = c.add_multiple.ensures ∙ ap (λ (y : f.Member). (series o).sum product (shift o 0 (scale o y polynomial))) c.negate.ensures in
    tells_like c.is_none.result
    (λ zero. sym sent ∙ difference_zero o L product polynomial x (sym sum ∙ zero) ∙ whole)
    (λ e. sum ∙ zero_difference o L product polynomial x (sent ∙ e ∙ sym whole))
    (zero_tells o (length c.add_multiple.new.target) (at o f.member c.add_multiple.new.target) c.degree.result c.is_none.result c.degree.ensures c.is_none.ensures)

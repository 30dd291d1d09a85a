use Rattle.std.proofs.Common.{◌*◌, ap, ◌∙◌, ap₂, arith, below_more}
use Rattle.algebra.specs.Series.{series}
use Rattle.tables.proofs.Places.{at_set_same, at_set_other}
use Rattle.link.specs.Blocks.{stream}
use Rattle.link.proofs.Places.{part_of}
use Rattle.link.proofs.Streams.{message_stream}
use Rattle.link.proofs.calls.encode_time.Goals as goal

pub loop-i-preserved : goal.loop-i-preserved
loop-i-preserved g c =
    let f = g.F.Field in
    let message = c.args.message.now in
    below_more _ _
    (λ k h. at_set_other f.ops f.member c.loop-i.symbols c.loop-i.i k c.coefficient.result (λ e. omega arith) ∙ c.loop-i.invariant k h)
    (at_set_same f.ops f.member c.loop-i.symbols c.loop-i.i c.coefficient.result (omega arith)
    ∙ c.coefficient.ensures
    ∙ ap₂ (λ x y. (series f.ops).product x y c.args.t)
    (ap (λ n. stream f.ops f.member n message.symbols.now 0) c.requires.message ∙ message_stream f.ops f.member message.symbols.now)
    (part_of f.ops f.member c.args.generators.now (17 * c.loop-i.i) 17 (omega arith)))

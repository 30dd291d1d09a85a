use Rattle.std.proofs.Common.{◌∙◌, arith, below_more}
use Rattle.framing.specs.Framing.{column_in}
use Rattle.tables.proofs.Places.{at_set_same, at_set_other}
use Rattle.algebra.proofs.Fields.{field_of}
use Rattle.link.proofs.Guarantees.{brings_home, one_symbol_changes_few}
use Rattle.link.proofs.Streams.{dot_streams}
use Rattle.link.proofs.calls.invert.Goals as goal

pub loop-k-preserved : goal.loop-k-preserved
loop-k-preserved g c =
    let f = g.F.Field in
    let framed = c.args.framed.now in
    below_more _ _
    (λ k h. at_set_other f.ops f.member c.loop-k.message c.loop-k.k k c.combination.result (λ e. omega arith) ∙ c.loop-k.invariant k h)
    (at_set_same f.ops f.member c.loop-k.message c.loop-k.k c.combination.result (omega arith)
    ∙ c.combination.ensures
    ∙ dot_streams f.ops f.member c.generators.result framed.n c.args.block.now (column_in f.ops f.member c.args.frame.now 0) c.loop-k.k c.generators.ensures framed.low)

pub returns-clause-home : goal.returns-clause-home
returns-clause-home g c =
    let f = g.F.Field in
    let framed = c.args.framed.now in
    brings_home f.ops f.member (field_of g.met.F.Field.laws g.met.F.Field.numbered g.met.F.Field.invertible) framed.n framed.low c.args.frame.now framed.degree c.args.block.now c.loop-k.message (λ k h. c.loop-k.invariant k (omega arith))

pub returns-clause-changes : goal.returns-clause-changes
returns-clause-changes g c =
    let f = g.F.Field in
    let framed = c.args.framed.now in
    one_symbol_changes_few f.ops f.member (field_of g.met.F.Field.laws g.met.F.Field.numbered g.met.F.Field.invertible) framed.n framed.low c.args.frame.now c.args.block.now c.loop-k.message (λ k h. c.loop-k.invariant k (omega arith))

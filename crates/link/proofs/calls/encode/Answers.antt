use Rattle.std.proofs.Common.{◌≡◌, ℕ, ◌+◌, ◌*◌, length, sym, ◌∙◌, subst, ap₂, arith}
use Rattle.algebra.specs.Series.{series}
use Rattle.frames.specs.Rows.{generator_in}
use Rattle.link.specs.Blocks.{message_series, Encoded}
use Rattle.link.proofs.Guarantees.{encodes_message}
use Rattle.link.proofs.Streams.{time_long, time_written}
use Rattle.link.proofs.calls.encode.Goals as goal

pub loop-t-preserved : goal.loop-t-preserved
loop-t-preserved g c =
    let f = g.F.Field in
    let n = c.generators-n.result in
    let times = length c.args.message.now + c.degree.result in
    let long : length c.loop-t.block ≡ n * times = c.loop-t.auto.block ∙ c.in_ok-ask.ensures.lengths.3 ∙ ap₂ (λ a b. a * (length c.args.message.now + b)) (sym c.generators-n.ensures) (sym c.degree.ensures) in
    let part = time_long n times c.loop-t.t c.loop-t.block long c.loop-t-test.true in
    time_written f.ops f.member n times c.loop-t.t _ c.loop-t.block c.encode_time.new.symbols
    (λ i t. (series f.ops).product (message_series f.ops f.member c.args.message.now) (generator_in f.ops f.member c.args.generators.now i) t)
    long c.loop-t-test.true (c.encode_time.auto.symbols ∙ part) (λ i h. c.encode_time.ensures i (omega (arith, part))) c.loop-t.invariant

pub returns-clause-encodes : goal.returns-clause-encodes
returns-clause-encodes g c =
    let f = g.F.Field in
    let framed = c.args.framed.now in
    let Written : ℕ → ℕ → Type 0 = λ n d. Encoded f.ops f.member n d c.args.generators.now c.args.message.now c.loop-t.block in
    encodes_message f.ops f.member g.met.F.Field.laws.ring framed.n framed.degree c.args.generators.now c.args.message.now c.loop-t.block (c.loop-t.auto.block ∙ c.in_ok-ask.ensures.lengths.3)
    (subst (λ d. Written framed.n d) c.degree.ensures (subst (λ n. Written n c.degree.result) c.generators-n.ensures (λ i t h l. c.loop-t.invariant i t h (omega arith))))

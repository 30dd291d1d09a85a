use Rattle.std.proofs.Common.{◌≡◌, ℕ, ◌+◌, ◌-◌, ◌*◌, take, drop, ap, ◌∙◌, subst, arith}
use Rattle.tables.specs.Places.{at}
use Rattle.tables.proofs.Slices.{at_take, at_drop}
use borrow.Rule.Slice.PartMut.{put_mid}
use Rattle.cards.specs.Reading.{Gathered}
use Rattle.cards.proofs.Gathering.{gathered_zero, gathered_more}
use Rattle.cards.proofs.Rows.{entered_row}
use Rattle.cards.proofs.read.read_chains.Goals as goal

pub read_chain-requires-clause-zeros : goal.read_chain-requires-clause-zeros
read_chain-requires-clause-zeros g c k h =
    let f = g.F.Field in
    let i = c.loop-i.i in
    let width : 17 ≡ 17 * (i + 1) - 17 * i = omega arith in
    subst (λ (n : ℕ). f.number (at f.ops f.member (take n (drop (17 * i) c.loop-i.table)) k) ≡ 0) width
    (ap f.number (at_take f.ops f.member 17 (drop (17 * i) c.loop-i.table) k h ∙ at_drop f.ops f.member (17 * i) c.loop-i.table k) ∙ gathered_zero f.ops f.member f.number f.order c.args.card.now.bytes.now i c.loop-i.table c.loop-i.invariant k h)

pub loop-i-preserved : goal.loop-i-preserved
loop-i-preserved g c =
    let f = g.F.Field in
    let card = c.args.card.now.bytes.now in
    let i = c.loop-i.i in
    let width : 17 ≡ 17 * (i + 1) - 17 * i = omega arith in
    subst (λ (k : ℕ). Gathered f.ops f.member f.number f.order card (i + 1) (put_mid (17 * i) k c.loop-i.table c.read_chain.new.row)) width
    (gathered_more f.ops f.member f.number f.order card i c.loop-i.table _ c.loop-i.invariant
    (entered_row f.ops f.member f.number f.order card 0 (3 + i) i c.loop-i.table _ c.read_chain.new.row (omega arith) (omega arith) c.in_ok-read_chain.ensures))

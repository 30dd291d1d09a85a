use Rattle.std.proofs.Common.{◌≡◌, ℕ, ◌+◌, ◌-◌, ◌*◌, List, ◌++◌, map, length, take, set, replicate, sym, ap, ◌∙◌, subst, arith, rules}
use lib.Seq.{take-append_seam}
use Rattle.fields.specs.Elements.{code_of}
use Rattle.cards.specs.Cards.{generators, chains, card}
use Rattle.cards.specs.Overwriting.{over}
use Rattle.cards.specs.RoundTrip.{ReadsBack}
use Rattle.cards.proofs.RoundTrip.{reads_back}
use Rattle.cards.proofs.Whole.{card_over, length_card, length_generators}
use Rattle.cards.proofs.write.write_card.Goals as goal

pub returns : goal.returns
returns g c =
    let f = g.F.Field in
    let codes = map (code_of f.number f.member) c.args.generators.now in
    let n = c.count-n.result in
    let m = c.write_heads-m.result in
    let gs = generators n codes in
    let zeros = c.fill.new.self in
    let counted : c.write_chains.new.buffer ≡ over (3 + n) (chains 1 gs) (set c.write_heads-m.new.buffer 2 m) = search rules in
    let written : c.write_chains.new.buffer ≡ card c.kind.result gs ++ replicate (555 - (3 + n + 4 * m)) 0 =
    counted
    ∙ ap (λ b. over (3 + n) (chains 1 gs) (set b 2 m)) c.write_heads-m.ensures.after
    ∙ card_over c.kind.result n m gs zeros (length_generators n codes) c.write_heads-m.ensures.count
    (c.fill.ensures.after (λ y e. e) ∙ ap (λ k. replicate k 0) c.if-buffer-ne-CARD.false) (omega (arith, c.write_heads-m.ensures.bound, c.count-n.ensures, c.args.draft.now)) in
    let long : 3 + n + 4 * m ≡ length (card f.tag (generators c.args.draft.now.n codes)) =
    (omega (arith, length_generators n codes, c.write_heads-m.ensures.count)) ∙ sym (length_card f.tag gs) ∙ ap (λ k. length (card f.tag (generators k codes))) c.count-n.ensures in
    let whole : c.write_chains.new.buffer ≡ card f.tag (generators c.args.draft.now.n codes) ++ replicate (555 - (3 + n + 4 * m)) 0 =
    written
    ∙ ap (λ k. card k gs ++ replicate (555 - (3 + n + 4 * m)) 0) c.kind.ensures.value
    ∙ ap (λ k. card f.tag (generators k codes) ++ replicate (555 - (3 + n + 4 * m)) 0) c.count-n.ensures in
    let start : take (3 + n + 4 * m) c.write_chains.new.buffer ≡ card f.tag (generators c.args.draft.now.n codes) =
    ap (take (3 + n + 4 * m)) whole ∙ ap (λ k. take k (card f.tag (generators c.args.draft.now.n codes) ++ replicate (555 - (3 + n + 4 * m)) 0)) long
    ∙ take-append_seam (card f.tag (generators c.args.draft.now.n codes)) (replicate (555 - (3 + n + 4 * m)) 0) in
    record {
      written = record { answer = search rules; card_then_zeros = whole; card_length = long };
      read_back =
          subst (λ (bytes : List ℕ). ReadsBack f.ops f.member f.number f.order f.tag c.args.draft.now.n c.args.generators.now bytes) (sym start)
          (reads_back f.ops f.member f.number f.order f.tag g.met.F.Field.numbered c.args.draft.now.n c.args.generators.now c.args.draft.now.low c.args.draft.now.high);
    }

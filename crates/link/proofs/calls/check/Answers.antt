use Rattle.std.proofs.Common.{◌≡◌, ℕ, ◌+◌, ◌-◌, ◌*◌, length, ap, ◌∙◌, subst, ap₂}
use Rattle.algebra.specs.Link.{Clean}
use Rattle.framing.specs.Framing.{column_in}
use Rattle.algebra.proofs.Fields.{field_of}
use Rattle.link.specs.Blocks.{stream, Tells}
use Rattle.link.specs.Questions.{symbols_in}
use Rattle.link.proofs.Guarantees.{tells_encoded}
use Rattle.link.proofs.Streams.{symbols_found}
use Rattle.link.proofs.calls.check.Goals as goal

pub returns-in_err-ask-clause-found : goal.returns-in_err-ask-clause-found
returns-in_err-ask-clause-found g c = λ s. symbols_found (length c.args.block.now) c.args.framed.now.n c.args.framed.now.degree s c.args.framed.now.low

pub returns-clause-clean : goal.returns-clause-clean
returns-clause-clean g c =
    let f = g.F.Field in
    let IsClean : ℕ → Type 0 = λ n. Tells (Clean f.ops (n - 1) (column_in f.ops f.member c.args.frame.now) (stream f.ops f.member n c.args.block.now)) c.is_clean.result in
    subst IsClean c.generators-n.ensures c.is_clean.ensures

pub returns-clause-encoded : goal.returns-clause-encoded
returns-clause-encoded g c =
    let f = g.F.Field in
    let framed = c.args.framed.now in
    let block = c.args.block.now in
    let frame = c.args.frame.now in
    let IsClean : ℕ → Type 0 = λ n. Tells (Clean f.ops (n - 1) (column_in f.ops f.member frame) (stream f.ops f.member n block)) c.is_clean.result in
    let symbols : c.saturating_sub-symbols.result ≡ symbols_in framed.n framed.degree (length block) = c.saturating_sub-symbols.ensures ∙ ap₂ (λ n d. symbols_in n d (length block)) c.generators-n.ensures c.degree.ensures in
    tells_encoded f.ops f.member (field_of g.met.F.Field.laws g.met.F.Field.numbered g.met.F.Field.invertible) framed.n framed.low frame framed.degree (symbols_in framed.n framed.degree (length block)) block c.is_clean.result
    (c.in_ok-ask.ensures.lengths.3 ∙ ap (λ s. framed.n * (s + framed.degree)) symbols) (subst IsClean c.generators-n.ensures c.is_clean.ensures)

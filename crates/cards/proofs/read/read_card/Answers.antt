use Rattle.std.proofs.Common.{◌≡◌, ℕ, List, length, None, sym, subst}
use Rattle.fields.specs.Questions.{first_no}
use Rattle.cards.specs.Reading.{read_questions, Refuses}
use Rattle.cards.proofs.Gathering.{cleared_replicate}
use Rattle.cards.proofs.OneReading.{walked_once}
use Rattle.cards.proofs.read.read_card.Goals as goal

pub take_design-requires-clause-cleared : goal.take_design-requires-clause-cleared
take_design-requires-clause-cleared g c =
    let f = g.F.Field in
    cleared_replicate f.ops f.member c.zero-table.result c.zero-table.ensures 136

pub returns-clause-only : goal.returns-clause-only
returns-clause-only g c fault refused =
    let f = g.F.Field in
    let long = length c.args.generators.now in
    let same = sym c.in_ok-parsed.ensures.value in
    walked_once f.ops f.member f.number f.order f.tag c.in_ok-parsed.parsed.bytes.now long c.take_design.new.generators _ _ c.take_design.result
    (subst (λ (bytes : List ℕ). first_no (read_questions f.tag long bytes) ≡ None) same (sym c.in_ok-parsed.ensures.answer))
    c.take_design.ensures fault
    (subst (λ (bytes : List ℕ). Refuses f.order f.tag bytes long fault) same refused)

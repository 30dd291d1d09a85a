use Rattle.std.proofs.Common.{◌≡◌, ◌+◌, ◌≤◌, length}
use Rattle.fields.specs.Elements.{code_of}
use Rattle.cards.proofs.Terms.{terms_from}
use Rattle.cards.proofs.chains.count_terms.Given as goal

abbrev pub invariant-loop-x : goal.invariant-loop-x
invariant-loop-x g l =
    let f = g.F.Field in
    (l.count ≤ l.x-index)
    × (l.count + length (terms_from (code_of f.number f.member) l.x-index l.row) ≡ length (terms_from (code_of f.number f.member) 0 l.row))

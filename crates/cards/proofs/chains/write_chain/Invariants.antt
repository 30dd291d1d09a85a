use Rattle.std.proofs.Common.{◌≡◌, ◌+◌, ◌*◌, ◌≤◌, length}
use Rattle.fields.specs.Elements.{code_of}
use Rattle.cards.specs.Cards.{records}
use Rattle.cards.specs.Overwriting.{over}
use Rattle.cards.proofs.Terms.{terms_from}
use Rattle.cards.proofs.chains.write_chain.Given as goal

abbrev pub invariant-loop-power : goal.invariant-loop-power
invariant-loop-power g l =
    let f = g.F.Field in
    (l.left ≡ length (terms_from (code_of f.number f.member) l.power l.row))
    × (l.next ≤ l.first + l.power)
    × (l.next + l.left ≡ l.first + length (terms_from (code_of f.number f.member) 0 l.row))
    × (l.at + 4 * l.left ≤ length l.buffer)
    × (over l.at (records l.next (terms_from (code_of f.number f.member) l.power l.row)) l.buffer ≡ over l.place (records l.first (terms_from (code_of f.number f.member) 0 l.row)) l.initial.buffer)

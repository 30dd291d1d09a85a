use Rattle.std.proofs.Common.{◌≡◌, ℕ, ◌+◌, ◌*◌, set, subst, arith, rules}
use Rattle.std.proofs.lemmas.Result.{err_from_is_err_and}
use Rattle.cards.specs.Reading.{Entered}
use Rattle.cards.proofs.Walks.{stops_later, enters_here}
use Rattle.cards.proofs.read.+read_chain.Goals as goal

pub returns-in_err-read_chain : goal.returns-in_err-read_chain
returns-in_err-read_chain g t c =
    let p = err_from_is_err_and c.from_residual-in_err-read_chain.result c.from_residual-in_err-read_chain.ensures.1 in
    let named = rw c.in-Some.is at c.in_ok-start.ensures in
    let term = c.in_ok-term.ensures in
    rw (p.1, p.2) (stops_later g.F.Field.order c.args.card.now.bytes.now c.args.floor c.args.place _ named.2 named.0 named.1 _ _ term.answer term.value.0 c.in_err-read_chain.ensures)

pub returns : goal.returns
returns g t c =
    let f = g.F.Field in
    let card = c.args.card.now.bytes.now in
    let named = rw c.in-Some.is at c.in_ok-start.ensures in
    let term = c.in_ok-term.ensures in
    let first : 17 * 0 + c.in_ok-term.term.power ≡ c.in_ok-term.term.power = omega arith in
    subst (λ (k : ℕ). Entered f.ops f.member f.number f.order card c.args.floor c.args.place 0 c.args.row.now (set c.read_chain.new.row k c.in_ok-term.term.element)) first
    (enters_here f.order card c.args.floor c.args.place _ named.2 named.0 named.1 f.ops f.member f.number 0 _ c.args.row.now c.read_chain.new.row _
    (search rules) term.answer term.value.0 term.value.1 c.in_ok-read_chain.ensures)

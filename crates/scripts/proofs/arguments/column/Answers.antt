use Rattle.std.proofs.Common.{[], ◌∷◌}
use Rattle.scripts.specs.declared.call.Keyword.TheVariants as key
use Rattle.scripts.specs.Words.{words}
use Rattle.scripts.proofs.Following.{numbers_head, starts_tail, column_taken, call_refused}
use Rattle.scripts.proofs.arguments.column.Goals as goal

pub returns-in_err-i : goal.returns-in_err-i
returns-in_err-i c =
    let ws = words c.args.text.now in
    call_refused key.Column ws c.from_residual.result _ _ c.from_residual.ensures.1 c.in_err-i.ensures
    (λ d m. numbers_head ws m.0 (m.1 ∷ []) m.2)

pub returns-in_err-j : goal.returns-in_err-j
returns-in_err-j c =
    let ws = words c.args.text.now in
    call_refused key.Column ws c.from_residual-in_err-j.result _ _ c.from_residual-in_err-j.ensures.1 c.in_err-j.ensures
    (λ d m. numbers_head (words c.in_ok-i.i.rest.now) m.1 [] (starts_tail ws (words c.in_ok-i.i.rest.now) _ m.0 (m.1 ∷ []) c.in_ok-i.ensures m.2))

pub returns : goal.returns
returns c =
    column_taken (words c.args.text.now) (words c.in_ok-i.i.rest.now) (words c.in_ok-j.j.rest.now) _ _ c.bare.result c.in_ok-i.ensures c.in_ok-j.ensures c.bare.ensures

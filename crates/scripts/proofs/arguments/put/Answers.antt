use Rattle.std.proofs.Common.{[], ◌∷◌}
use Rattle.scripts.specs.declared.call.Keyword.TheVariants as key
use Rattle.scripts.specs.Words.{words}
use Rattle.scripts.proofs.Following.{numbers_head, starts_tail, put_taken, call_refused}
use Rattle.scripts.proofs.arguments.put.Goals as goal

pub returns-in_err-i : goal.returns-in_err-i
returns-in_err-i c =
    let ws = words c.args.text.now in
    call_refused key.Put ws c.from_residual.result _ _ c.from_residual.ensures.1 c.in_err-i.ensures
    (λ d m. numbers_head ws m.0 (m.1 ∷ m.2 ∷ []) m.3)

pub returns-in_err-power : goal.returns-in_err-power
returns-in_err-power c =
    let ws = words c.args.text.now in
    call_refused key.Put ws c.from_residual-in_err-power.result _ _ c.from_residual-in_err-power.ensures.1 c.in_err-power.ensures
    (λ d m. numbers_head (words c.in_ok-i.i.rest.now) m.1 (m.2 ∷ []) (starts_tail ws (words c.in_ok-i.i.rest.now) _ m.0 (m.1 ∷ m.2 ∷ []) c.in_ok-i.ensures m.3))

pub returns-in_err-code : goal.returns-in_err-code
returns-in_err-code c =
    let ws = words c.args.text.now in
    call_refused key.Put ws c.from_residual-in_err-code.result _ _ c.from_residual-in_err-code.ensures.1 c.in_err-code.ensures
    (λ d m. numbers_head (words c.in_ok-power.power.rest.now) m.2 [] (starts_tail (words c.in_ok-i.i.rest.now) (words c.in_ok-power.power.rest.now) _ m.1 (m.2 ∷ []) c.in_ok-power.ensures (starts_tail ws (words c.in_ok-i.i.rest.now) _ m.0 (m.1 ∷ m.2 ∷ []) c.in_ok-i.ensures m.3)))

pub returns : goal.returns
returns c =
    put_taken (words c.args.text.now) (words c.in_ok-i.i.rest.now) (words c.in_ok-power.power.rest.now) (words c.in_ok-code.code.rest.now) _ _ _ c.bare.result c.in_ok-i.ensures c.in_ok-power.ensures c.in_ok-code.ensures
    c.bare.ensures

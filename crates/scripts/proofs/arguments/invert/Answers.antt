use Rattle.std.proofs.Common.{vec_items, refl}
use Rattle.scripts.specs.declared.call.Keyword.TheVariants as key
use Rattle.scripts.specs.Words.{words}
use Rattle.scripts.proofs.Following.{numbers_head, starts_numbers, call_refused}
use Rattle.scripts.proofs.arguments.invert.Goals as goal

pub returns-in_err-first : goal.returns-in_err-first
returns-in_err-first c =
    let ws = words c.args.text.now in
    call_refused key.Invert ws c.from_residual.result _ _ c.from_residual.ensures.1 c.in_err-first.ensures
    (λ d m. numbers_head ws m.0 (vec_items m.1) m.2)

pub returns : goal.returns
returns c =
    (_, _, starts_numbers (words c.args.text.now) (words c.in_ok-first.first.rest.now) _ (vec_items c.in_ok-block.block) c.in_ok-first.ensures c.in_ok-block.ensures, refl)

use Rattle.std.proofs.Common.{[]}
use Rattle.scripts.specs.declared.call.Keyword.TheVariants as key
use Rattle.scripts.specs.Words.{words}
use Rattle.scripts.proofs.Following.{numbers_head, begin_taken, call_refused}
use Rattle.scripts.proofs.arguments.begin.Goals as goal

pub returns-in_err-first : goal.returns-in_err-first
returns-in_err-first c =
    let ws = words c.args.text.now in
    call_refused key.Begin ws c.from_residual.result _ _ c.from_residual.ensures.1 c.in_err-first.ensures
    (λ d m. numbers_head ws m.0 [] m.1)

pub returns : goal.returns
returns c = begin_taken (words c.args.text.now) (words c.in_ok-first.first.rest.now) _ c.bare.result c.in_ok-first.ensures c.bare.ensures

use Rattle.std.proofs.Common.{◌<◌, length, arith}
use Rattle.std.proofs.lemmas.List.{take_more}
use Rattle.scripts.proofs.Each.{each_push}
use Rattle.script_runner.specs.Elements.{Meant}
use Rattle.script_runner.proofs.elements.elements.Goals as goal

pub loop-code-preserved : goal.loop-code-preserved
loop-code-preserved g c =
    let f = g.F.Field in
    let codes = c.args.codes.now in
    let inside : c.loop-code.code-index < length codes = omega arith in
    rw (take_more codes c.loop-code.code-index 0 inside, c.in_ok-push.ensures.items)
    (each_push (Meant f.number f.member f.order) _ _ _ _ c.loop-code.invariant c.in_ok-x.ensures)

use Rattle.std.proofs.Common.{vec_items, take}
use Rattle.scripts.specs.Meaning.{Each}
use Rattle.script_runner.specs.Elements.{Meant}
use Rattle.script_runner.proofs.elements.elements.Given as goal

abbrev pub invariant-loop-code : goal.invariant-loop-code
invariant-loop-code g l = Each (Meant g.F.Field.number g.F.Field.member g.F.Field.order) (take l.code-index l.codes) (vec_items l.out)

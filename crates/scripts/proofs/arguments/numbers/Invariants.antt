use Rattle.std.proofs.Common.{vec_items}
use Rattle.scripts.specs.Numbers.{Number}
use Rattle.scripts.proofs.Each.{Sofar}
use Rattle.scripts.proofs.arguments.numbers.Given as goal

abbrev pub invariant-loop-part : goal.invariant-loop-part
invariant-loop-part g l = record {
  may : (goal.iterator-loop-part g).can_next l.part-iterator;
  ends : (goal.iterator-loop-part g).is_finite l.part-iterator;
  sofar : Sofar Number (g.P.Parts.parts l.fn.parts) (g.P.Parts.parts l.part-iterator) (vec_items l.out);
}

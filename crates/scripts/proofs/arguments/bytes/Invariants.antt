use Rattle.std.proofs.Common.{vec_items}
use Rattle.scripts.specs.Numbers.{Byte}
use Rattle.scripts.specs.Words.{words, words_left}
use Rattle.scripts.proofs.Each.{Sofar}
use Rattle.scripts.proofs.arguments.bytes.Given as goal

abbrev pub invariant-loop-word : goal.invariant-loop-word
invariant-loop-word l = Sofar Byte (words l.text) (words_left l.word-iterator) (vec_items l.out)

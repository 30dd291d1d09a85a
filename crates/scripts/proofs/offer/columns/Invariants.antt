use Rattle.std.proofs.Common.{vec_items}
use Rattle.scripts.specs.Words.{words, words_left}
use Rattle.scripts.proofs.Bars.{Reading}
use Rattle.scripts.proofs.offer.columns.Given as goal

abbrev pub invariant-loop-word : goal.invariant-loop-word
invariant-loop-word l = Reading (words l.text) (words_left l.word-iterator) (vec_items l.read) (vec_items l.column)

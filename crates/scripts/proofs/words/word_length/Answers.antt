use Rattle.std.proofs.Common.{rules}
use Rattle.scripts.proofs.Pieces.{words_front}
use Rattle.scripts.proofs.words.word_length.Goals as goal

pub returns-clause-word : goal.returns-clause-word
returns-clause-word c =
    let b = c.before-2 in
    words_front b.result c.args.text.now (search rules) b.ensures.within b.ensures.none b.ensures.here

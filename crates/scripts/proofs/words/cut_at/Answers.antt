use Rattle.scripts.proofs.Pieces.{cut_pieces, first_piece}
use Rattle.scripts.proofs.words.cut_at.Goals as goal

pub returns-clause-pieces : goal.returns-clause-pieces
returns-clause-pieces c =
    let b = c.before-2 in
    cut_pieces c.args.mark b.result c.args.text.now _ _ c.get.result b.ensures.within b.ensures.none b.ensures.here c.split_at.ensures.front c.split_at.ensures.back c.get.ensures.lookup.0

pub returns-clause-first : goal.returns-clause-first
returns-clause-first c =
    let b = c.before-2 in
    first_piece c.args.mark c.args.text.now _ c.get.result
    (cut_pieces c.args.mark b.result c.args.text.now _ _ c.get.result b.ensures.within b.ensures.none b.ensures.here c.split_at.ensures.front c.split_at.ensures.back c.get.ensures.lookup.0)

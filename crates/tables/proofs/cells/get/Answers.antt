use borrow.Author.Rules.{rules}
use Rattle.tables.proofs.Places.{at_read}
use Rattle.tables.proofs.cells.get.Goals as goal

pub returns : goal.returns
returns g c = search (rules, at_read)

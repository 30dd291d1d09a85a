use lib.ListN.{length}
use Rattle.elimination.specs.Steps.{entry_at}
use Rattle.tables.specs.Places.{at}
use Rattle.scan.specs.Columns.{AtPlaces}
use Rattle.scan.proofs.columns.write_at.Given as goal

abbrev pub invariant-loop-q : goal.invariant-loop-q
invariant-loop-q g l = let f = g.F.Field in AtPlaces f.ops f.member l.row.n l.j (length l.yielded) (entry_at l.places) (at f.ops f.member l.list) l.initial.frame l.frame

use mathlib.Core.Path.{◌≡◌}
use Rattle.tables.specs.Places.{Kept}
use Rattle.scan.specs.Walks.{WalkedTo}
use Rattle.scan.proofs.walk.Walk.walk.Given as goal

abbrev pub invariant-loop-q : goal.invariant-loop-q
invariant-loop-q g l =
    let f = g.F.Field in
    let w = l.self in
    let row = l.initial.self.row in
    record {
      kept : w.row ≡ row;
      walked : WalkedTo l.q w l.frame;
      behind : Kept f.ops f.member 0 1088 l.initial.frame l.frame;
    }

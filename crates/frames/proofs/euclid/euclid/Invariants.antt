use Rattle.std.proofs.Common.{◌≤◌, length}
use Rattle.algebra.specs.Series.{Below}
use Rattle.tables.specs.Places.{at}
use Rattle.frames.specs.Common.{SameCommon}
use Rattle.frames.proofs.euclid.euclid.Given as goal

abbrev pub invariant-loop-e : goal.invariant-loop-e
invariant-loop-e g l =
    let f = g.F.Field in
    record {
      common : SameCommon f.ops (at f.ops f.member l.initial.left) (at f.ops f.member l.initial.right) (at f.ops f.member l.left) (at f.ops f.member l.right);
      upper : Below f.ops l.upper (at f.ops f.member l.left);
      lower : Below f.ops l.lower (at f.ops f.member l.right);
      left_room : l.upper ≤ length l.left;
      right_room : l.lower ≤ length l.right;
    }

abbrev pub decreases-loop-e : goal.decreases-loop-e
decreases-loop-e g l = l.lower

use Rattle.std.proofs.Common.{◌≡◌, ◌+◌, ◌*◌, length, subst₂, arith, length-drop, length-take}
use Rattle.tables.proofs.Slices.{kept_range}
use Rattle.elimination.specs.Steps.{column_at, entry_at, Takes}
use Rattle.elimination.proofs.Tables.{part_is, replaced_here}
use Rattle.elimination.proofs.Steps.take_column_of.Goals as goal

pub returns : goal.returns
returns g c =
    let f = g.F.Field in
    let s = c.args.self.now in
    let after = c.take_column.new in
    let base = s.rows * c.args.q in
    let long : length after.column ≡ s.rows = omega (arith, simp (length-take, length-drop) at c.take_column.auto.column, c.requires) in
    record {
      takes = subst₂ (λ u v. Takes f.ops s.rows s.rank (column_at f.ops f.member s.rows s.factors.now) (entry_at s.pivots.now) u (column_at f.ops f.member s.rows after.self.factors.now) (entry_at after.self.pivots.now) v c.take_column.result)
          (part_is f.ops f.member base s.rows c.args.matrix.now after.column c.requires long)
          (replaced_here f.ops f.member base s.rows c.args.matrix.now after.column c.requires long)
          c.take_column.ensures.takes;
      counted = c.take_column.ensures.counted;
      lent = c.take_column.ensures.lent;
      others = kept_range f.ops f.member base (base + s.rows) s.rows c.args.matrix.now after.column (omega arith) (omega arith) c.take_column.auto.column;
    }

use Rattle.std.proofs.Common.{◌+◌, ◌∙◌, arith}
use mathlib.Core.Path.{fun_ext}
use Rattle.tables.proofs.Slices.{put_range, kept_range}
use Rattle.tables.proofs.rows.clear_part.Goals as goal

pub returns : goal.returns
returns g c =
    let f = g.F.Field in
    record {
      zero = put_range f.ops f.member c.args.base (c.args.base + c.args.width) c.args.width c.args.table.now c.clear.new.table (omega arith) (omega arith) c.clear.auto.table ∙ fun_ext c.clear.ensures;
      others = kept_range f.ops f.member c.args.base (c.args.base + c.args.width) c.args.width c.args.table.now c.clear.new.table (omega arith) (omega arith) c.clear.auto.table;
    }

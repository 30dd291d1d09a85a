use Rattle.std.proofs.Common.{◌+◌, ap, ◌∙◌, arith}
use Rattle.tables.specs.Places.{at}
use Rattle.tables.proofs.Slices.{range_is, put_range, kept_range}
use Rattle.tables.proofs.rows.copy_from.Goals as goal

pub returns : goal.returns
returns g c =
    let f = g.F.Field in
    let t = c.args.table.now in
    let copied = c.copy_from_slice.new.self in
    let end = c.args.base + c.args.width in
    record {
      copy = put_range f.ops f.member c.args.base end c.args.width t copied (omega arith) (omega arith) c.copy_from_slice.ensures.len
          ∙ ap (at f.ops f.member) c.copy_from_slice.ensures.after
          ∙ range_is f.ops f.member c.args.source.now c.args.from (c.args.from + c.args.width) c.args.width (omega arith);
      others = kept_range f.ops f.member c.args.base end c.args.width t copied (omega arith) (omega arith) c.copy_from_slice.ensures.len;
    }

use Rattle.std.proofs.Common.{◌+◌, ap, ◌∙◌, arith}
use Rattle.tables.specs.Places.{at, poly_at}
use Rattle.tables.proofs.Slices.{copied_is}
use Rattle.tables.proofs.rows.copy.Goals as goal

pub returns : goal.returns
returns g c =
    let f = g.F.Field in
    let is = copied_is f.ops f.member c.args.from c.args.base (c.args.from + c.args.width) c.args.width c.args.table.now (omega arith) (omega arith) (omega arith) in
    record {
      copy = ap (λ xs. poly_at f.ops f.member xs c.args.base c.args.width) c.copy_within.ensures.after ∙ is.0;
      others = λ k out. ap (λ xs. at f.ops f.member xs k) c.copy_within.ensures.after ∙ is.1 k out;
    }

use borrow.Author.Rules.{rules}
use native.Mathlib.Omega.{arith}
use Rattle.tables.proofs.Places.{at_set_same, at_set_other}
use Rattle.tables.proofs.cells.put.Goals as goal

pub returns : goal.returns
returns g c =
    let f = g.F.Field in
    record {
      here = search (rules, at_set_same);
      others = λ k h. at_set_other f.ops f.member c.args.table.now c.args.place k c.args.value (λ e. h (omega (arith, e), omega (arith, e)));
    }

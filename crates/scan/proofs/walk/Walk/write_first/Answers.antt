use Prim.Native.Nat.{suc, ◌*◌}
use native.Mathlib.Nat.{le_refl}
use native.Mathlib.Omega.{arith}
use Rattle.algebra.proofs.Fields.{field_of}
use Rattle.tables.specs.Places.{at}
use Rattle.scan.proofs.Walking as Walking
use Rattle.scan.proofs.walk.Walk.write_first.Goals as goal

pub write_at-requires-clause-rising : goal.write_at-requires-clause-rising
write_at-requires-clause-rising g c =
    let laws = g.met.F.Field in
    let row = c.args.self.now.row in
    Walking.rising_places c.args.self.now (field_of laws.laws laws.numbered laws.invertible) (row.n * suc row.d) c.args.frame.now c.requires.walked (omega arith) (le_refl (row.n * suc row.d))

pub returns : goal.returns
returns g c =
    let f = g.F.Field in
    let laws = g.met.F.Field in
    let taken = c.take_column.new in
    let both =
    Walking.columns_written c.args.self.now (field_of laws.laws laws.numbered laws.invertible) c.args.frame.now c.requires.walked c.requires.coprime
    taken.self.factors.now taken.self.pivots.now (at f.ops f.member c.write_unit.new.column) (at f.ops f.member taken.column) c.write_unit.ensures
    c.take_column.result c.take_column.ensures.takes c.write_at.new.frame (omega arith) c.write_at.ensures.written in
    record { columns = both.0; rest = both.1; behind = c.write_at.ensures.behind }

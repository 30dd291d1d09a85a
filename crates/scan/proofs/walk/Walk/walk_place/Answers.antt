use Prim.Native.Nat.{suc, ◌<◌}
use native.Mathlib.Numerals.{add-one}
use native.Mathlib.Omega.{arith}
use Rattle.algebra.proofs.Fields.{field_of}
use Rattle.tables.specs.Places.{at}
use Rattle.scan.proofs.Walking as Walking
use Rattle.scan.proofs.walk.Walk.walk_place.Goals as goal

pub returns-then-self-class-clause-walked : goal.returns-then-self-class-clause-walked
returns-then-self-class-clause-walked g c =
    let laws = g.met.F.Field in
    Walking.walked_skip c.args.self.now (field_of laws.laws laws.numbered laws.invertible) c.args.q c.args.frame.now c.requires.walked c.if-self-class.true

pub returns-then-take_column-clause-walked : goal.returns-then-take_column-clause-walked
returns-then-take_column-clause-walked g c =
    let f = g.F.Field in
    let laws = g.met.F.Field in
    let taken = c.take_column.new in
    let moved =
    Walking.walked_pivot c.args.self.now (field_of laws.laws laws.numbered laws.invertible) c.args.q c.args.frame.now c.requires.walked
    taken.self.factors.now taken.self.pivots.now (at f.ops f.member c.write_list.new.column) (at f.ops f.member taken.column) c.write_list.ensures (omega arith) c.if-take_column.ensures.takes in
    rw (c.if-take_column.ensures.counted.0, c.if-take_column.ensures.counted.1) moved

pub overflow_add-next : goal.overflow_add-next
overflow_add-next g c =
    let f = g.F.Field in
    let laws = g.met.F.Field in
    let taken = c.take_column.new in
    let few : suc c.args.self.now.basics < c.args.self.now.row.n =
    Walking.check_room c.args.self.now (field_of laws.laws laws.numbered laws.invertible) c.args.q c.args.frame.now c.requires.walked
    taken.self.factors.now taken.self.pivots.now (at f.ops f.member c.write_list.new.column) (at f.ops f.member taken.column) c.write_list.ensures
    c.if-self-class.false c.requires.place c.if-take_column.ensures.takes in
    omega (arith, c.args.self.now.row.sized)

pub write_check-requires-clause-column : goal.write_check-requires-clause-column
write_check-requires-clause-column g c =
    let f = g.F.Field in
    let laws = g.met.F.Field in
    let taken = c.take_column.new in
    let few : suc c.args.self.now.basics < c.args.self.now.row.n =
    Walking.check_room c.args.self.now (field_of laws.laws laws.numbered laws.invertible) c.args.q c.args.frame.now c.requires.walked
    taken.self.factors.now taken.self.pivots.now (at f.ops f.member c.write_list.new.column) (at f.ops f.member taken.column) c.write_list.ensures
    c.if-self-class.false c.requires.place c.if-take_column.ensures.takes in
    omega (arith, c.args.self.now.row.sized)

pub write_check-requires-clause-rising : goal.write_check-requires-clause-rising
write_check-requires-clause-rising g c =
    let laws = g.met.F.Field in
    Walking.rising_places c.args.self.now (field_of laws.laws laws.numbered laws.invertible) c.args.q c.args.frame.now c.requires.walked (omega arith) (let l = c.requires.place in omega arith)

pub returns-clause-walked : goal.returns-clause-walked
returns-clause-walked g c =
    let f = g.F.Field in
    let laws = g.met.F.Field in
    let taken = c.take_column.new in
    let moved =
    Walking.walked_basic c.args.self.now (field_of laws.laws laws.numbered laws.invertible) c.args.q c.args.frame.now c.requires.walked
    taken.self.factors.now taken.self.pivots.now (at f.ops f.member c.write_list.new.column) (at f.ops f.member taken.column) c.write_list.ensures
    c.write_check.new.frame (omega arith) (omega arith) c.if-self-class.false c.requires.place c.if-take_column.ensures.takes c.write_check.ensures.written in
    rw (add-one, c.if-take_column.ensures.counted.0, c.if-take_column.ensures.counted.1) moved

use Rattle.elimination.specs.Steps.{column_at, entry_at}
use Rattle.elimination.proofs.Next.{next_taken}
use Rattle.elimination.proofs.Steps.take_next.Goals as goal

pub returns-then-pivotal-clause-takes : goal.returns-then-pivotal-clause-takes
returns-then-pivotal-clause-takes g c =
    let f = g.F.Field in
    let s = c.args.self.now in
    let after = c.take_column_of-pivotal.new in
    next_taken f.ops g.met.F.Field.laws.ring s.rows c.args.q s.rank (column_at f.ops f.member s.rows s.factors.now) (entry_at s.pivots.now) c.args.places.now (column_at f.ops f.member s.rows c.args.matrix.now c.args.column)
    (column_at f.ops f.member s.rows after.self.factors.now) (entry_at after.self.pivots.now) (column_at f.ops f.member s.rows after.matrix c.args.column) c.take_column_of-pivotal.result c.requires.room.0 c.take_column_of-pivotal.ensures.takes

pub returns-else-pivotal-clause-takes : goal.returns-else-pivotal-clause-takes
returns-else-pivotal-clause-takes g c =
    let f = g.F.Field in
    let s = c.args.self.now in
    let after = c.take_column_of-pivotal.new in
    next_taken f.ops g.met.F.Field.laws.ring s.rows c.args.q s.rank (column_at f.ops f.member s.rows s.factors.now) (entry_at s.pivots.now) c.args.places.now (column_at f.ops f.member s.rows c.args.matrix.now c.args.column)
    (column_at f.ops f.member s.rows after.self.factors.now) (entry_at after.self.pivots.now) (column_at f.ops f.member s.rows after.matrix c.args.column) c.take_column_of-pivotal.result c.requires.room.0 c.take_column_of-pivotal.ensures.takes

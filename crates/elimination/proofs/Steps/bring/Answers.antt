use Rattle.std.proofs.Common.{mul-le-mul_left, arith}
use Rattle.elimination.specs.Steps.{column_at, entry_at}
use Rattle.elimination.proofs.Valid.{rank_few, the_steps}
use Rattle.elimination.proofs.Steps.bring.Goals as goal

pub reduce-requires : goal.reduce-requires
reduce-requires g c =
    let f = g.F.Field in
    let met = g.met.F.Field in
    let s = c.args.self.now in
    let e = column_at f.ops f.member s.rows s.factors.now in
    let few = rank_few f.ops s.rows s.rank e (entry_at s.pivots.now) s.valid in
    record {
      room = (omega (arith, s.room, mul-le-mul_left s.rows few), (omega (arith, s.room, few), c.requires));
      valid = the_steps f.ops s.rows s.rank e (entry_at s.pivots.now) s.valid met.laws met.invertible;
    }

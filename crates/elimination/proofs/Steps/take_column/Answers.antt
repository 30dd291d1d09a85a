use Rattle.std.proofs.Common.{◌≡◌, ◌<◌, length, subst, add-one, arith}
use mathlib.Core.Logic.{∥∥₁_map}
use Rattle.tables.specs.Places.{at}
use Rattle.elimination.specs.Steps.{column_at, entry_at, IsPivot}
use Rattle.elimination.proofs.Taking.{taken_sum, taken_pivotal, taken_steps, taken_reduces}
use Rattle.elimination.proofs.Tables.{columns_same}
use Rattle.elimination.proofs.Valid.{rank_few, the_steps, steps_kept}
use Rattle.elimination.proofs.Steps.take_column.Goals as goal

pub returns-in_default-clause-takes : goal.returns-in_default-clause-takes
returns-in_default-clause-takes g c =
    let f = g.F.Field in
    let met = g.met.F.Field in
    let s = c.args.self.now in
    let e = column_at f.ops f.member s.rows s.factors.now in
    let steps = the_steps f.ops s.rows s.rank e (entry_at s.pivots.now) s.valid met.laws met.invertible in
    record {
      valid = steps;
      bound = rank_few f.ops s.rows s.rank e (entry_at s.pivots.now) s.valid;
      judged = taken_sum f.ops f.member met.laws s.rows s.rank s.factors.now s.pivots.now c.args.column.now c.bring.new.column c.requires c.bring.ensures steps c.in_default.ensures;
      reduces = λ V turns. turns;
    }

pub returns-clause-takes : goal.returns-clause-takes
returns-clause-takes g c =
    let f = g.F.Field in
    let met = g.met.F.Field in
    let s = c.args.self.now in
    let e = column_at f.ops f.member s.rows s.factors.now in
    let pivot = c.in-Some.pivot in
    let now = c.bring.new.column in
    let width : length now ≡ s.rows = omega (arith, c.requires, c.bring.auto.column) in
    let q : IsPivot f.ops s.rows s.rank (at f.ops f.member now) pivot.row (f.member pivot.inverse) =
    subst (λ n. IsPivot f.ops n s.rank (at f.ops f.member now) pivot.row (f.member pivot.inverse)) width c.in-Some.ensures in
    let less : s.rank < length s.pivots.now = omega (arith, q.low, q.within, s.room) in
    let r = c.record_step in
    record {
      valid = taken_steps f.ops f.member met.laws s.rows s.rank s.factors.now s.pivots.now c.args.column.now now c.requires c.bring.ensures pivot.row pivot.inverse q
          r.new.factors r.ensures.here r.ensures.others less (the_steps f.ops s.rows s.rank e (entry_at s.pivots.now) s.valid met.laws met.invertible);
      bound = omega (arith, q.low, q.within);
      judged = taken_pivotal f.ops f.member met.laws s.rows s.rank s.factors.now s.pivots.now c.args.column.now now c.requires c.bring.ensures pivot.row pivot.inverse q;
      reduces = taken_reduces f.ops f.member met.laws s.rows s.rank s.factors.now s.pivots.now c.args.column.now now c.requires c.bring.ensures pivot.row pivot.inverse q
          r.new.factors r.ensures.here r.ensures.others less;
    }

-- before the pivot is noted, the steps are those that were there
pub invariant_of-self-clause-valid : goal.invariant_of-self-clause-valid
invariant_of-self-clause-valid g c =
    let f = g.F.Field in
    let s = c.args.self.now in
    let after = c.record_step.new.factors in
    steps_kept f.ops s.rows s.rank (column_at f.ops f.member s.rows s.factors.now) (column_at f.ops f.member s.rows after) (entry_at s.pivots.now)
    (columns_same f.ops f.member s.rows s.rank s.factors.now after c.record_step.ensures.others)
    s.valid

pub invariant_of-self-2-clause-valid : goal.invariant_of-self-2-clause-valid
invariant_of-self-2-clause-valid g c =
    let f = g.F.Field in
    let met = g.met.F.Field in
    let s = c.args.self.now in
    let pivot = c.in-Some.pivot in
    let now = c.bring.new.column in
    let width : length now ≡ s.rows = omega (arith, c.requires, c.bring.auto.column) in
    let q : IsPivot f.ops s.rows s.rank (at f.ops f.member now) pivot.row (f.member pivot.inverse) =
    subst (λ n. IsPivot f.ops n s.rank (at f.ops f.member now) pivot.row (f.member pivot.inverse)) width c.in-Some.ensures in
    let less : s.rank < length s.pivots.now = omega (arith, q.low, q.within, s.room) in
    let r = c.record_step in
    rw add-one
    (∥∥₁_map s.valid (taken_steps f.ops f.member met.laws s.rows s.rank s.factors.now s.pivots.now c.args.column.now now c.requires c.bring.ensures pivot.row pivot.inverse q
    r.new.factors r.ensures.here r.ensures.others less))

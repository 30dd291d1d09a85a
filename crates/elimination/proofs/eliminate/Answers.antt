use Rattle.std.proofs.Common.{◌≡◌, ◌+◌, ◌∙◌, subst, arith}
use Rattle.elimination.specs.Steps.{column_at, entry_at}
use Rattle.elimination.specs.Echelon.{Echelon}
use Rattle.elimination.proofs.Whole.{Progress, progress_more}
use Rattle.elimination.proofs.eliminate.Goals as goal

pub loop-q-preserved : goal.loop-q-preserved
loop-q-preserved g c =
    let f = g.F.Field in
    let s = c.loop-q.steps in
    let n = c.take_next.new in
    let t = c.take_next.ensures in
    let old : Progress f.ops f.member s.rows c.args.matrix.now c.loop-q.q s.rank s.factors.now s.pivots.now c.loop-q.places c.loop-q.matrix = rw c.loop-q.invariant.rows c.loop-q.invariant.progress in
    let next : Progress f.ops f.member s.rows c.args.matrix.now (c.loop-q.q + 1) n.self.rank n.self.factors.now n.self.pivots.now n.places n.matrix = rw (t.counted.1, t.placed)
    (progress_more f.ops f.member g.met.F.Field.laws.ring s.rows c.args.matrix.now c.loop-q.q s.rank s.factors.now s.pivots.now c.loop-q.places c.loop-q.matrix old
    n.self.factors.now n.self.pivots.now n.matrix t.others c.take_next.result t.bound (omega (arith, c.requires.room, c.loop-q.auto, c.loop-q.invariant.rows)) t.takes) in
    record {
      rows = t.counted.0 ∙ c.loop-q.invariant.rows;
      progress = subst (λ k. Progress f.ops f.member k c.args.matrix.now (c.loop-q.q + 1) n.self.rank n.self.factors.now n.self.pivots.now n.places n.matrix) c.loop-q.invariant.rows next;
    }

pub returns-clause-echelon : goal.returns-clause-echelon
returns-clause-echelon g c =
    let f = g.F.Field in
    let s = c.loop-q.steps in
    let all : c.loop-q.q ≡ c.args.columns = omega (arith, c.loop-q.auto, c.loop-q-test.false) in
    subst (λ q. Echelon f.ops c.args.rows (column_at f.ops f.member c.args.rows c.args.matrix.now) q s.rank (entry_at c.loop-q.places)) all c.loop-q.invariant.progress.eliminated.echelon

use Rattle.std.proofs.Common.{◌+◌, ◌*◌, ℕ, ◌<◌, ◌≤◌, length, sym, subst, arith, rules, below_more}
use Rattle.std.proofs.lemmas.List.{get_or-set_same, get_or-set_other}
use Rattle.frames.specs.Rows.{Highest}
use Rattle.framing.specs.Framing.{column_in}
use Rattle.frames.proofs.RowSteps.{highest_range}
use Rattle.judging.proofs.degrees.Graded.of.Goals as goal

pub loop-j-preserved : goal.loop-j-preserved
loop-j-preserved g c =
    let f = g.F.Field in
    let n = c.args.offer.now.n in
    let offered = c.args.offer.now.offered.now in
    let columns = column_in f.ops f.member offered in
    let ds = c.loop-j.degree-items in
    let j = c.loop-j.j in
    let v = c.row_degree.result in
    let room : j < length ds = omega arith in
    let here = sym (get_or-set_same ds j v 0 room) in
    let kept = λ (i : ℕ) (h : i < j). sym (get_or-set_other ds j i v 0 (λ e. omega arith)) in
    record {
      all = search rules;
      degrees = below_more _ _
          (λ i h. subst (λ (d : ℕ). Highest f.ops n (columns i) d) (kept i h) (c.loop-j.invariant.degrees i h))
          (subst (λ (d : ℕ). Highest f.ops n (columns j) d) here (highest_range f.ops f.member offered (136 * j) (136 * j + 136) n v (omega arith) (rw c.column.ensures.value at c.row_degree.ensures.value)));
      bound = below_more _ _
          (λ i h. subst (λ (d : ℕ). d ≤ 16) (kept i h) (c.loop-j.invariant.bound i h))
          (subst (λ (d : ℕ). d ≤ 16) here c.row_degree.ensures.bound);
    }

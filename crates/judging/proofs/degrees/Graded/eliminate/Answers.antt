use Rattle.std.proofs.Common.{◌≡◌, ℕ, suc, ◌<◌, get_or, ap, ◌∙◌, subst, add-one, arith}
use Rattle.algebra.proofs.Fields.{field_of}
use Rattle.elimination.specs.Steps.{column_at, entry_at, Reduces}
use Rattle.elimination.proofs.Relations.{independent_of_steps}
use Rattle.tables.specs.Places.{at}
use Rattle.judging.specs.Columns.{coefficients_in, check_leading}
use Rattle.judging.proofs.Vectors.{spanned_dependent, pivotal_more, non_pivotal}
use Rattle.judging.proofs.degrees.Graded.eliminate.Goals as goal

pub returns-then-not-take_column-clause-answer : goal.returns-then-not-take_column-clause-answer
returns-then-not-take_column-clause-answer g c =
    let f = g.F.Field in
    let field = field_of g.met.F.Field.laws g.met.F.Field.numbered g.met.F.Field.invertible in
    let graded = c.args.self.now in
    let V = check_leading f.ops f.member graded.offer.now.offered.now graded.degrees in
    let j = c.loop-j.j in
    let same : (i : ℕ) → i < graded.offer.now.n → at f.ops f.member c.write_leading.new.column i ≡ V j i =
    λ i h. c.write_leading.ensures i h ∙ ap (λ (k : ℕ). coefficients_in f.ops f.member graded.offer.now.offered.now k (get_or graded.degrees k 0) i) (add-one j) in
    let takes = rw (c.loop-j.invariant.rows, c.loop-j.invariant.rank) at c.if-not-take_column.ensures.takes in
    spanned_dependent f.ops field c.args.count graded.offer.now.n V j c.loop-j-test.true (non_pivotal f.ops field graded.offer.now.n j _ _ _ _ _ _ V c.loop-j.invariant.reduces takes (V j) same)

pub loop-j-preserved : goal.loop-j-preserved
loop-j-preserved g c =
    let f = g.F.Field in
    let field = field_of g.met.F.Field.laws g.met.F.Field.numbered g.met.F.Field.invertible in
    let graded = c.args.self.now in
    let V = check_leading f.ops f.member graded.offer.now.offered.now graded.degrees in
    let n = graded.offer.now.n in
    let j = c.loop-j.j in
    let s = c.take_column.new.self in
    let same : (i : ℕ) → i < n → at f.ops f.member c.write_leading.new.column i ≡ V j i =
    λ i h. c.write_leading.ensures i h ∙ ap (λ (k : ℕ). coefficients_in f.ops f.member graded.offer.now.offered.now k (get_or graded.degrees k 0) i) (add-one j) in
    let counted = c.if-not-take_column.ensures.counted in
    let takes = rw (c.loop-j.invariant.rows, c.loop-j.invariant.rank) at c.if-not-take_column.ensures.takes in
    let more : Reduces f.ops n (suc j) (column_at f.ops f.member n s.factors.now) (entry_at s.pivots.now) V = pivotal_more f.ops field n j _ _ _ _ _ _ V c.loop-j.invariant.reduces takes same in
    record {
      rows = counted.0 ∙ c.loop-j.invariant.rows;
      rank = let r = counted.1 in let i = c.loop-j.invariant.rank in omega arith;
      reduces = rw add-one more;
    }

pub returns-clause-answer : goal.returns-clause-answer
returns-clause-answer g c =
    let f = g.F.Field in
    let graded = c.args.self.now in
    let n = graded.offer.now.n in
    let s = c.loop-j.steps in
    let V = check_leading f.ops f.member graded.offer.now.offered.now graded.degrees in
    let all : c.loop-j.j ≡ c.args.count = omega arith in
    let done : Reduces f.ops n c.args.count (column_at f.ops f.member n s.factors.now) (entry_at s.pivots.now) V =
    subst (λ (k : ℕ). Reduces f.ops n k (column_at f.ops f.member n s.factors.now) (entry_at s.pivots.now) V) all c.loop-j.invariant.reduces in
    independent_of_steps f.ops g.met.F.Field.laws.ring n c.args.count (column_at f.ops f.member n s.factors.now) (entry_at s.pivots.now) V done

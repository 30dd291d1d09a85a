use Rattle.std.proofs.Common.{◌≡◌, ℕ, ◌+◌, ◌-◌, ◌*◌, take, drop, sym, ap, ◌∙◌, get_or, arith, below_more}
use Rattle.std.specs.List.{between}
use Rattle.std.proofs.lemmas.List.Edits.{length-between}
use Rattle.std.specs.Iterator.Adapters.{enumerate_source, enumerate_count}
use Rattle.std.specs.Slice.Iter.{chunks_exact_rest}
use lib.ListN.{set}
use Rattle.frames.proofs.RowSteps.{chunk_next}
use Rattle.tables.specs.Places.{at}
use Rattle.tables.proofs.Parts.{poly_at_in}
use Rattle.tables.proofs.Places.{at_read, at_set_same, at_set_other}
use Rattle.tables.proofs.Slices.{at_take, at_drop}
use Rattle.judging.specs.Columns.{coefficients_in}
use Rattle.judging.proofs.degrees.Graded.write_leading.Goals as goal

pub loop-i-preserved : goal.loop-i-preserved
loop-i-preserved g c =
    let f = g.F.Field in
    let o = f.ops in
    let graded = c.args.self.now in
    let j = c.args.j in
    let offered = graded.offer.now.offered.now in
    let xs = between (136 * j) (136 * j + 136) offered in
    let long = length-between offered (136 * j) (136 * j + 136) (omega arith) in
    let degree = get_or graded.degrees j 0 in
    let low = graded.bound j (omega arith) in
    let inv = c.loop-i.invariant in
    let steps = c.in-Some.ensures.steps in
    let k = enumerate_count c.loop-i.i-iterator in
    let i = c.in-Some.i in
    let is : i ≡ k = steps.1 in
    let count : enumerate_count c.next.new.self ≡ k + 1 = steps.2 in
    let part = c.in-Some.component.now in
    let size = steps.0.1.1 ∙ inv.size in
    let next = chunk_next o g.met.F.Field.laws.ring f.member xs (chunks_exact_rest (enumerate_source c.loop-i.i-iterator)) part (chunks_exact_rest (enumerate_source c.next.new.self)) graded.offer.now.n k (omega (arith, long)) inv.left steps.0.1.0 size in
    let x = c.index-component-degree.result in
    let after = set c.loop-i.column i x in
    let read : f.member x ≡ coefficients_in o f.member offered j degree k =
    ap f.member c.index-component-degree.is
    ∙ sym (at_read o f.member part degree x (omega arith))
    ∙ ap (λ (h : ℕ → f.Member). h degree) next.2
    ∙ poly_at_in o f.member xs (17 * k) 17 degree (omega arith)
    ∙ at_take o f.member (136 * j + 136 - 136 * j) (drop (136 * j) offered) (17 * k + degree) (omega arith)
    ∙ at_drop o f.member (136 * j) offered (17 * k + degree)
    ∙ ap (at o f.member offered) (let e : 136 * j + (17 * k + degree) ≡ 136 * j + 17 * k + degree = omega arith in e)
    ∙ sym (poly_at_in o f.member offered (136 * j + 17 * k) 17 degree (omega arith)) in
    let written = below_more (λ t. at o f.member after t ≡ coefficients_in o f.member offered j degree t) k
    (λ t h. at_set_other o f.member c.loop-i.column i t x (λ e. omega arith) ∙ inv.written t h)
    (ap (at o f.member after) (sym is) ∙ at_set_same o f.member c.loop-i.column i x (omega arith) ∙ read) in
    record {
      size = steps.0.0 ∙ inv.size;
      left = next.1 ∙ ap (λ t. drop (17 * t) (take (17 * graded.offer.now.n) xs)) (sym count);
      few = omega (arith, next.0);
      written = λ t h. written t (omega arith);
    }

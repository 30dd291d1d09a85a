use Rattle.std.proofs.Common.{◌≡◌, ℕ, ◌+◌, ◌*◌, length, sym, ap, ap₂, ◌∙◌, inl, inr, arith}
use mathlib.Core.Path.{fun_ext}
use Rattle.std.proofs.lemmas.List.{length_push, take_all}
use Rattle.std.specs.Iterator.Adapters.{zip_first, zip_second}
use Rattle.std.specs.Slice.Iter.{chunks_exact_rest, chunks_exact_size}
use Rattle.algebra.specs.Series.{dot, series}
use Rattle.frames.specs.Rows.{generator_in, row_in}
use Rattle.frames.proofs.RowSteps.{chunk_next, chunk_last}
use Rattle.tables.specs.Places.{at, poly_at}
use Rattle.judging.proofs.Sent.{dot_more}
use Rattle.judging.proofs.offer.Offer.write_product.Goals as goal

pub loop-generator-init : goal.loop-generator-init
loop-generator-init g c =
    let f = g.F.Field in
    let both = c.into_iter-generator-iterator.ensures.into_iter_gives in
    let column = c.args.column.now in
    let first = ap zip_first both ∙ c.zip-generator-items.ensures.first in
    let second = ap zip_second both ∙ c.zip-generator-items.ensures.second in
    record {
      size = ap chunks_exact_size first ∙ c.chunks_exact.ensures.size;
      width = ap chunks_exact_size second ∙ c.chunks_exact-components.ensures.size;
      left = ap chunks_exact_rest first ∙ c.chunks_exact.ensures.rest;
      behind = ap chunks_exact_rest second ∙ c.chunks_exact-components.ensures.rest ∙ sym (take_all 136 column (omega arith));
      few = omega arith;
      sent = fun_ext c.clear.ensures;
    }

pub loop-generator-preserved : goal.loop-generator-preserved
loop-generator-preserved g c =
    let f = g.F.Field in
    let o = f.ops in
    let L = g.met.F.Field.laws.ring in
    let n = c.args.self.now.n in
    let generators = c.args.self.now.generators.now in
    let column = c.args.column.now in
    let inv = c.loop-generator.invariant in
    let steps = c.in-Some.ensures.steps in
    let i = length c.loop-generator.yielded in
    let now = c.loop-generator.generator-iterator in
    let new = c.next.new.self in
    let one = chunk_next o L f.member generators (chunks_exact_rest (zip_first now)) c.in-Some.generator.now (chunks_exact_rest (zip_first new)) n i (omega arith) inv.left steps.0.1.0 (steps.0.1.1 ∙ inv.size) in
    let other = chunk_next o L f.member column (chunks_exact_rest (zip_second now)) c.in-Some.component.now (chunks_exact_rest (zip_second new)) 8 i (omega arith) inv.behind steps.1.1.0 (steps.1.1.1 ∙ inv.width) in
    let few = one.0 in
    let more = dot_more o L (generator_in o f.member generators) (row_in o f.member column 0) i (at o f.member c.loop-generator.product) (at o f.member c.multiply_into.new.target) inv.sent
    (c.multiply_into.ensures
    ∙ ap₂ (λ (s t : ℕ → f.Member). (series o).sum (at o f.member c.loop-generator.product) ((series o).product s t)) one.2
    (other.2 ∙ ap (λ b. poly_at o f.member column b 17) (let place : 17 * i ≡ 0 + 17 * i = omega arith in place))) in
    rw (length_push c.loop-generator.yielded (c.in-Some.generator, c.in-Some.component))
    record {
      size = steps.0.0 ∙ inv.size;
      width = steps.1.0 ∙ inv.width;
      left = one.1;
      behind = other.1;
      few = omega arith;
      sent = more;
    }

pub returns : goal.returns
returns g c =
    let f = g.F.Field in
    let L = g.met.F.Field.laws.ring in
    let n = c.args.self.now.n in
    let generators = c.args.self.now.generators.now in
    let column = c.args.column.now in
    let inv = c.loop-generator.invariant in
    let i = length c.loop-generator.yielded in
    let now = c.loop-generator.generator-iterator in
    let all : i ≡ n = elim c.in-None.ensures.steps [
      | inl first ↦ chunk_last f.ops L f.member generators (chunks_exact_rest (zip_first now)) n i (omega arith) inv.left (omega (arith, first.1.1.0, inv.size)) inv.few
      | inr second ↦ let end = chunk_last f.ops L f.member column (chunks_exact_rest (zip_second now)) 8 i (omega arith) inv.behind (omega (arith, second.1.1.0, inv.width)) (omega arith) in omega arith
    ] in
    inv.sent ∙ ap (λ (k : ℕ). dot (series f.ops) k (generator_in f.ops f.member generators) (row_in f.ops f.member column 0)) all

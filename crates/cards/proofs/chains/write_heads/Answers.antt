use Rattle.std.proofs.Common.{◌≡◌, ◌+◌, map, length, sym, ap, ◌∙◌, arith}
use Rattle.std.specs.Iterator.Adapters.{enumerate_source, enumerate_count}
use Rattle.std.specs.Slice.Iter.{chunks_exact_rest}
use Rattle.fields.specs.Elements.{code_of}
use Rattle.cards.specs.Cards.{terms, heads, term_count}
use Rattle.cards.specs.Overwriting.{over}
use Rattle.cards.proofs.Overwriting.{over_nothing}
use Rattle.cards.proofs.Generators.{row_generators, row_next, row_length, row_none, row_all, heads_step}
use Rattle.cards.proofs.chains.write_heads.Goals as goal

pub loop-i-preserved : goal.loop-i-preserved
loop-i-preserved g c =
    let f = g.F.Field in
    let row = c.in-Some.row.now in
    let steps = c.in-Some.ensures.steps in
    let step = steps.0.1 in
    let full : length row ≡ 17 = step.1 ∙ c.loop-i.invariant.size in
    let long = row_length (code_of f.number f.member) _ row _ step.0 full in
    let split = row_next (code_of f.number f.member) _ row _ step.0 full in
    let counts = c.count_terms-count.ensures.value in
    record {
      size = steps.0.0 ∙ c.loop-i.invariant.size;
      rows = omega (arith, steps.2, long, c.loop-i.invariant.rows);
      one = omega (arith, c.loop-i.invariant.one);
      few = omega (arith, steps.2, c.count_terms-count.ensures.bound, full, c.loop-i.invariant.few);
      counted = omega (arith, counts, ap term_count split, c.loop-i.invariant.counted);
      written =
          heads_step (3 + c.in-Some.i) (3 + enumerate_count c.next.new.self) c.loop-i.next c.count_terms-count.result c.unwrap_or.result (terms 0 (map (code_of f.number f.member) row)) _ _ c.loop-i.buffer
          (omega (arith, steps.1, steps.2)) counts (c.unwrap_or.ensures ∙ c.link.ensures _ counts) split
          ∙ ap (λ i. over (3 + i) (heads c.loop-i.next (row_generators (code_of f.number f.member) (chunks_exact_rest (enumerate_source c.loop-i.i-iterator)))) c.loop-i.buffer) steps.1
          ∙ c.loop-i.invariant.written;
    }

pub returns : goal.returns
returns g c =
    let f = g.F.Field in
    let k = 3 + enumerate_count c.loop-i.i-iterator in
    let i = c.loop-i.invariant in
    let none = row_none (code_of f.number f.member) (chunks_exact_rest (enumerate_source c.loop-i.i-iterator)) (omega (arith, c.in-None.ensures.steps.0.1.0, i.size)) in
    let all = row_all (code_of f.number f.member) c.args.n c.args.table.now (omega (arith, c.requires)) in
    record {
      count = omega (arith, ap term_count none, ap term_count all, i.counted);
      bound = omega (arith, i.few, i.rows);
      after =
          sym (over_nothing k c.loop-i.buffer)
          ∙ ap (λ gs. over k (heads c.loop-i.next gs) c.loop-i.buffer) (sym none)
          ∙ i.written
          ∙ ap (λ gs. over 3 (heads 1 gs) c.args.buffer.now) all;
    }

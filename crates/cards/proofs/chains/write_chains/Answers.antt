use Rattle.std.proofs.Common.{◌≡◌, ◌+◌, ◌-◌, ◌*◌, map, length, sym, ap, ◌∙◌, arith}
use Rattle.std.specs.Slice.Iter.{chunks_exact_rest}
use Rattle.fields.specs.Elements.{code_of}
use Rattle.cards.specs.Cards.{terms, chains}
use Rattle.cards.specs.Overwriting.{over}
use Rattle.cards.proofs.Overwriting.{over_nothing}
use Rattle.cards.proofs.Generators.{row_next, row_length, row_none, row_all, chains_step, length_row_terms}
use Rattle.cards.proofs.chains.write_chains.Goals as goal

pub write_chain-next-requires-clause-room : goal.write_chain-next-requires-clause-room
write_chain-next-requires-clause-room g c =
    let f = g.F.Field in
    let row = c.in-Some.row.now in
    let step = c.in-Some.ensures.steps.1 in
    let full : length row ≡ 17 = step.1 ∙ c.loop-row.invariant.size in
    let some = length_row_terms (code_of f.number f.member) row in
    omega (arith, some, full, row_length (code_of f.number f.member) _ row _ step.0 full, c.loop-row.invariant.few, c.loop-row.auto.buffer, c.requires)

pub loop-row-preserved : goal.loop-row-preserved
loop-row-preserved g c =
    let f = g.F.Field in
    let n = c.args.n in
    let next = c.loop-row.next in
    let row = c.in-Some.row.now in
    let step = c.in-Some.ensures.steps.1 in
    let full : length row ≡ 17 = step.1 ∙ c.loop-row.invariant.size in
    let some = length_row_terms (code_of f.number f.member) row in
    let after = c.write_chain-next.ensures.next in
    record {
      size = c.in-Some.ensures.steps.0 ∙ c.loop-row.invariant.size;
      one = omega (arith, after, c.loop-row.invariant.one);
      few = omega (arith, after, some, full, row_length (code_of f.number f.member) _ row _ step.0 full, c.loop-row.invariant.few);
      written =
          chains_step (3 + n + 4 * (next - 1)) (3 + n + 4 * (c.write_chain-next.result - 1)) next c.write_chain-next.result (terms 0 (map (code_of f.number f.member) row)) _ _ c.loop-row.buffer c.write_chain-next.new.buffer
          after (omega (arith, after, c.loop-row.invariant.one)) c.write_chain-next.ensures.after (row_next (code_of f.number f.member) _ row _ step.0 full)
          ∙ c.loop-row.invariant.written;
    }

pub returns : goal.returns
returns g c =
    let f = g.F.Field in
    let k = 3 + c.args.n + 4 * (c.loop-row.next - 1) in
    let none = row_none (code_of f.number f.member) (chunks_exact_rest c.loop-row.row-iterator) (omega (arith, c.in-None.ensures.steps.1.0, c.loop-row.invariant.size)) in
    let all = row_all (code_of f.number f.member) c.args.n c.args.table.now (omega (arith, c.requires)) in
    sym (over_nothing k c.loop-row.buffer)
    ∙ ap (λ gs. over k (chains c.loop-row.next gs) c.loop-row.buffer) (sym none)
    ∙ c.loop-row.invariant.written
    ∙ ap (λ gs. over (3 + c.args.n) (chains 1 gs) c.args.buffer.now) all

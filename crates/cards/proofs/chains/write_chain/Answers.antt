use Rattle.std.proofs.Common.{◌≡◌, ◌+◌, length, unwrap_or, sym, ap, ◌∙◌, arith}
use Rattle.fields.specs.Elements.{code_of}
use Rattle.cards.specs.Cards.{link, records}
use Rattle.cards.specs.Overwriting.{over}
use Rattle.cards.proofs.Overwriting.{over_nothing}
use Rattle.cards.proofs.Terms.{terms_from, from_zero, from_nonzero, from_all, records_step}
use Rattle.cards.proofs.chains.write_chain.Goals as goal
use Rattle.cards.proofs.chains.write_chain.Goals.{then-code-ne0, else-code-ne0}

pub overflow_sub-left : goal.overflow_sub-left
overflow_sub-left g c =
    let f = g.F.Field in
    let e = ap length (from_nonzero (code_of f.number f.member) c.loop-power.power c.args.row.now c.index-row-power.result c.code-code.result c.loop-power-test.true c.index-row-power.is c.code-code.ensures c.if-code-ne0.true) in
    omega (arith, e, c.loop-power.invariant)

pub write_record-requires : goal.write_record-requires
write_record-requires g c =
    let f = g.F.Field in
    let e = ap length (from_nonzero (code_of f.number f.member) c.loop-power.power c.args.row.now c.index-row-power.result c.code-code.result c.loop-power-test.true c.index-row-power.is c.code-code.ensures c.if-code-ne0.true) in
    omega (arith, e, c.loop-power.invariant)

pub loop-power-preserved : goal.loop-power-preserved
loop-power-preserved g c =
    let f = g.F.Field in
    elim c.if-code-ne0.branch [
      | then-code-ne0 w ↦
          let e = from_nonzero (code_of f.number f.member) c.loop-power.power c.args.row.now c.index-row-power.result c.code-code.result c.loop-power-test.true c.index-row-power.is c.code-code.ensures w.if-code-ne0.true in
          let n = ap length e in
          let left : c.if-code-ne0.left ≡ length (terms_from (code_of f.number f.member) (c.loop-power.power + 1) c.args.row.now) = omega (arith, w.left-is, n, c.loop-power.invariant) in (
            left,
            omega (arith, w.next-is, c.loop-power.invariant),
            omega (arith, w.left-is, w.next-is, n, c.loop-power.invariant),
            omega (arith, w.left-is, w.at-is, n, c.if-code-ne0.auto.buffer, c.loop-power.invariant),
            records_step c.loop-power.at c.loop-power.next c.loop-power.power c.code-code.result (unwrap_or w.link.result 0) _ _ c.loop-power.buffer _ _ _
                w.at-is w.next-is (w.buffer-is ∙ w.write_record.ensures) e (w.link.ensures _ (omega (arith, w.left-is, left)) ∙ ap (λ k. link k (terms_from (code_of f.number f.member) (c.loop-power.power + 1) c.args.row.now)) (sym w.next-is))
                ∙ c.loop-power.invariant.4,
          )
      | else-code-ne0 w ↦
          let e = from_zero (code_of f.number f.member) c.loop-power.power c.args.row.now c.index-row-power.result c.code-code.result c.loop-power-test.true c.index-row-power.is c.code-code.ensures w.if-code-ne0.false in
          let n = ap length e in (
            omega (arith, w.left-is, n, c.loop-power.invariant),
            omega (arith, w.next-is, c.loop-power.invariant),
            omega (arith, w.left-is, w.next-is, c.loop-power.invariant),
            omega (arith, w.left-is, w.at-is, c.if-code-ne0.auto.buffer, c.loop-power.invariant),
            cc (w.at-is, w.next-is, w.buffer-is, e, c.loop-power.invariant.4),
          )
    ]

pub returns : goal.returns
returns g c =
    let f = g.F.Field in
    let e = from_all (code_of f.number f.member) c.loop-power.power c.args.row.now c.loop-power-test.false in
    let n = ap length e in
    record {
      next = omega (arith, n, c.loop-power.invariant);
      after =
          sym (over_nothing c.loop-power.at c.loop-power.buffer)
          ∙ ap (λ ts. over c.loop-power.at (records c.loop-power.next ts) c.loop-power.buffer) (sym e)
          ∙ c.loop-power.invariant.4;
    }

use Rattle.std.proofs.Common.{length, ap, arith}
use Rattle.fields.specs.Elements.{code_of}
use Rattle.cards.proofs.Terms.{from_zero, from_nonzero, from_all}
use Rattle.cards.proofs.chains.count_terms.Goals as goal
use Rattle.cards.proofs.chains.count_terms.Goals.{then-code-ne0, else-code-ne0}

pub loop-x-preserved : goal.loop-x-preserved
loop-x-preserved g c =
    let f = g.F.Field in
    elim c.if-code-ne0.branch [
      | then-code-ne0 w ↦
          let e = ap length (from_nonzero (code_of f.number f.member) c.loop-x.x-index c.args.row.now c.x-item.result c.code.result c.loop-x-test.true c.x-item.is c.code.ensures w.if-code-ne0.true) in
          (omega (arith, w.count-is), omega (arith, w.count-is, e, c.loop-x.invariant))
      | else-code-ne0 w ↦
          let e = ap length (from_zero (code_of f.number f.member) c.loop-x.x-index c.args.row.now c.x-item.result c.code.result c.loop-x-test.true c.x-item.is c.code.ensures w.if-code-ne0.false) in
          (omega (arith, w.count-is), omega (arith, w.count-is, e, c.loop-x.invariant))
    ]

pub returns : goal.returns
returns g c =
    let f = g.F.Field in
    let e = ap length (from_all (code_of f.number f.member) c.loop-x.x-index c.args.row.now c.loop-x-test.false) in
    record { value = omega (arith, e, c.loop-x.invariant); bound = omega (arith, c.loop-x.invariant) }

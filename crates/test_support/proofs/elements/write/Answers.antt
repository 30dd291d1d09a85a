use Rattle.std.proofs.Common.{rules, ℕ, ◌<◌, length, All, subst, sym}
use Rattle.std.proofs.lemmas.List.{take_all}
use Rattle.std.proofs.lemmas.List.Elements.{All-more}
use Rattle.test_support.proofs.elements.write.Goals as goal

pub loop-place-preserved : goal.loop-place-preserved
loop-place-preserved g c =
    All-more (λ (k : ℕ × ℕ). (k.0 < length c.args.table.now) × (k.1 < g.F.Field.order)) c.args.cells.now c.loop-place.place-index (0, 0) c.loop-place-test.true c.loop-place.invariant
    (search rules, search rules)

pub returns : goal.returns
returns g c = λ _.
    let whole = take_all _ _ c.loop-place-test.false in
    let within = subst (λ cells. All (λ (k : ℕ × ℕ). (k.0 < length c.args.table.now) × (k.1 < g.F.Field.order)) cells) whole c.loop-place.invariant in
    subst (λ n. All (λ (k : ℕ × ℕ). (k.0 < n) × (k.1 < g.F.Field.order)) c.args.cells.now) (sym c.loop-place.auto.table) within

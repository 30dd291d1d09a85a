use Rattle.std.proofs.Common.{subst, refl, rules, List, Iter, Bor}
use borrow.Author.Tests.{tests}
use Rattle.std.specs.Iterator.Runs.{ItemsMapTo}
use Rattle.elimination.proofs.Found.{pivot_found}
use Rattle.elimination.proofs.step.find_pivot.Goals as goal

pub returns : goal.returns
returns g c =
    let f = g.F.Field in
    let run = c.find_map.ensures.runs in
    let p = run.0 in
    let skip = c.skip-entries.ensures.runs p p.seen run.1 in
    let q = skip.0 in
    let count = c.enumerate.ensures.runs q q.seen skip.1 in
    let r = count.1.0 in
    let before = subst (λ (s : Iter g.row.F.Denot). ItemsMapTo r (λ (y : Bor g.row.F.Denot). y.now) s.rest.now) count.1.1 (c.iter.ensures.runs r r.seen) in
    let items = subst (λ (xs : List g.row.F.Denot). ItemsMapTo r (λ (y : Bor g.row.F.Denot). y.now) xs) c.iter.ensures.rest before in
    pivot_found f.ops f.member (λ (y : Bor g.row.F.Denot). y.now) (λ y. y.row) (λ y. f.member y.inverse) _ _ _ c.args.column.now c.args.rank p q r c.find_map.result run.2
    skip.2 count.0 count.1.2.0 count.1.2.1 items (λ a r h called. refl) (λ y x called. search (rules, tests)) (λ x called. search (rules, tests))

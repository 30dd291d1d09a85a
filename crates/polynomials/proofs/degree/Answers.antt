use Rattle.std.proofs.Common.{length, List, subst, refl, rules, Iter, Bor}
use borrow.Author.Tests.{tests}
use Rattle.std.specs.Iterator.Runs.{ItemsMapToReversed}
use Rattle.tables.specs.Places.{at}
use Rattle.polynomials.specs.Polynomials.{DegreeOf}
use Rattle.polynomials.proofs.Highest.{degree_found}
use Rattle.polynomials.proofs.degree.Goals as goal

pub returns : goal.returns
returns g c =
    let f = g.F.Field in
    let run = c.rposition.ensures.runs in
    let p = run.0 in
    let items = subst (λ (s : Iter g.row.F.Denot). ItemsMapToReversed p (λ (y : Bor g.row.F.Denot). y.now) s.rest.now) run.1 (c.iter.ensures.runs_back p p.seen) in
    subst (λ (xs : List g.row.F.Denot). DegreeOf f.ops (length xs) (at f.ops f.member xs) c.rposition.result) c.iter.ensures.rest
    (degree_found f.ops f.member (λ (y : Bor g.row.F.Denot). y.now) _ _ _ c.iter.result.rest.now p c.rposition.result items c.rposition.ensures.bound run.2
    (λ a r h called. refl) (λ x called. search (rules, tests)) (λ x called. search (rules, tests)))

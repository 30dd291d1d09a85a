use Rattle.std.proofs.Common.{◌≡◌, ℕ, suc, ◌-◌, ◌<◌, Err, None, refl, sym, ap, ◌∙◌, arith}
use Rattle.std.proofs.lemmas.Option.{MatchOption-at_none}
use Rattle.std.proofs.lemmas.Result.{err_from_is_err_and}
use Rattle.std.specs.Option.{ok_or}
use Rattle.std.specs.Result.{is_ok}
use Rattle.algebra.proofs.Fields.{field_of}
use Rattle.elimination.specs.Steps.{entry_at}
use Rattle.frames.specs.Rows.{Highest}
use Rattle.framing.specs.Framing.{column_in}
use Rattle.framing.proofs.ColumnDegrees.{highest_degree}
use Rattle.judging.specs.declared.objection.Objection.TheVariants.{Degrees}
use Rattle.judging.specs.Columns.{check_degree}
use Rattle.judging.specs.Questions.{not_in_degree, first_inside}
use Rattle.judging.proofs.LeadingTest as Test
use Rattle.judging.proofs.Sent.{some_found}
use Rattle.judging.proofs.offer.Offer.judge_degrees.Goals as goal

pub returns-then-not-in_order : goal.returns-then-not-in_order
returns-then-not-in_order g c =
    let f = g.F.Field in
    let field = field_of g.met.F.Field.laws g.met.F.Field.numbered g.met.F.Field.invertible in
    let n = c.args.self.now.n in
    let same = c.of-graded.ensures.same in
    let degrees = c.of-graded.ensures.degrees in
    not_in_degree refl (Test.unordered f.ops field n (n - 1) (column_in f.ops f.member c.args.self.now.offered.now) (check_degree c.of-graded.result.degrees) (λ j h. degrees (suc j) (omega arith)) c.args.d (rw same at c.if-not-in_order.ensures))

pub returns-in_err-ok_or : goal.returns-in_err-ok_or
returns-in_err-ok_or g c =
    let f = g.F.Field in
    let field = field_of g.met.F.Field.laws g.met.F.Field.numbered g.met.F.Field.invertible in
    let n = c.args.self.now.n in
    let same = c.of-graded.ensures.same in
    let degrees = c.of-graded.ensures.degrees in
    let none : c.eliminate.result ≡ None = grind arith in
    let dependent = rw same at (MatchOption-at_none _ _ none c.eliminate.ensures.answer) in
    let was : Err c.in_err-ok_or.field-0.0 ≡ ok_or c.eliminate.result Degrees = sym c.in_err-ok_or.was ∙ c.ok_or.ensures.value in
    let x : c.in_err-ok_or.field-0.0 ≡ Degrees = cc (was ∙ ap (λ r. ok_or r Degrees) none) in
    let p = err_from_is_err_and c.from_residual.result c.from_residual.ensures.1 in
    rw (p.1, p.2)
    (not_in_degree x (Test.dependent f.ops field n (n - 1) (column_in f.ops f.member c.args.self.now.offered.now) (check_degree c.of-graded.result.degrees) (λ j h. degrees (suc j) (omega arith)) c.args.d dependent))

pub outside-requires-clause-independent : goal.outside-requires-clause-independent
outside-requires-clause-independent g c =
    let f = g.F.Field in
    let field = field_of g.met.F.Field.laws g.met.F.Field.numbered g.met.F.Field.invertible in
    let graded = c.of-graded.result in
    let count = c.count_no_higher-count in
    let degrees = rw (← c.of-graded.ensures.same) at c.of-graded.ensures.degrees in
    let independent = rw (← c.of-graded.ensures.same) at (some_found _ _ c.eliminate.result (sym c.ok_or.ensures.variant ∙ ap is_ok c.in_ok-ok_or.was) c.eliminate.ensures.answer) in
    Test.first_independent f.ops field graded.offer.now.n (graded.offer.now.n - 1) (column_in f.ops f.member graded.offer.now.offered.now) (check_degree graded.degrees) (λ j h. degrees (suc j) (omega arith)) count.result count.ensures.within
    independent

pub returns-then-not-outside : goal.returns-then-not-outside
returns-then-not-outside g c =
    let f = g.F.Field in
    let field = field_of g.met.F.Field.laws g.met.F.Field.numbered g.met.F.Field.invertible in
    let n = c.args.self.now.n in
    let columns = column_in f.ops f.member c.args.self.now.offered.now in
    let δ = check_degree c.of-graded.result.degrees in
    let e = entry_at c.of-graded.result.degrees 0 in
    let same = c.of-graded.ensures.same in
    let degrees = c.of-graded.ensures.degrees in
    let found : (j : ℕ) → j < n - 1 → Highest f.ops n (columns (suc j)) (δ j) = λ j h. degrees (suc j) (omega arith) in
    let order = rw same at c.if-not-in_order.ensures in
    let independent = rw same at (some_found _ _ c.eliminate.result (sym c.ok_or.ensures.variant ∙ ap is_ok c.in_ok-ok_or.was) c.eliminate.ensures.answer) in
    let few = rw same at c.count_no_higher-count.ensures in
    let inside = rw same at c.if-not-outside.ensures in
    let first = highest_degree f.ops n e (columns 0) (degrees 0 (omega arith)) c.requires.nonzero in
    first_inside refl (Test.in_degree f.ops field n (n - 1) columns δ found c.args.d order independent)
    (λ out. inside (λ s. Test.outside_no f.ops field n (n - 1) columns δ found e c.count_no_higher-count.result first few order.0 independent s out))

pub returns : goal.returns
returns g c =
    let f = g.F.Field in
    let field = field_of g.met.F.Field.laws g.met.F.Field.numbered g.met.F.Field.invertible in
    let n = c.args.self.now.n in
    let columns = column_in f.ops f.member c.args.self.now.offered.now in
    let δ = check_degree c.of-graded.result.degrees in
    let e = entry_at c.of-graded.result.degrees 0 in
    let same = c.of-graded.ensures.same in
    let degrees = c.of-graded.ensures.degrees in
    let found : (j : ℕ) → j < n - 1 → Highest f.ops n (columns (suc j)) (δ j) = λ j h. degrees (suc j) (omega arith) in
    let order = rw same at c.if-not-in_order.ensures in
    let independent = rw same at (some_found _ _ c.eliminate.result (sym c.ok_or.ensures.variant ∙ ap is_ok c.in_ok-ok_or.was) c.eliminate.ensures.answer) in
    let few = rw same at c.count_no_higher-count.ensures in
    let outside = rw same at c.if-not-outside.ensures in
    let first = highest_degree f.ops n e (columns 0) (degrees 0 (omega arith)) c.requires.nonzero in (
      Test.in_degree f.ops field n (n - 1) columns δ found c.args.d order independent,
      Test.outside_yes f.ops field n (n - 1) columns δ found e c.count_no_higher-count.result first few order.0 outside,
    )

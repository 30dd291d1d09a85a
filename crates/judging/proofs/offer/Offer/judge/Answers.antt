use Rattle.std.proofs.Common.{◌≡◌, ◌-◌, Some, None, sym, refl, ◌∙◌, arith}
use Rattle.std.proofs.lemmas.Option.{MatchOption-at_none, MatchOption-at_some}
use Rattle.std.proofs.lemmas.Result.{err_from_is_err_and}
use Rattle.std.proofs.lemmas.List.{length-take-le}
use Rattle.algebra.specs.Series.{dot, series}
use Rattle.algebra.proofs.Fields.{field_of}
use Rattle.tables.proofs.Slices.{part_is}
use Rattle.frames.specs.Rows.{generator_in, gcd_in}
use Rattle.framing.specs.Framing.{column_in}
use Rattle.framing.proofs.Whole.{degrees_within}
use Rattle.judging.specs.Offers.{Objects, every_zero, first_differs, no_syzygy, by_degree}
use Rattle.judging.specs.declared.objection.Objection.TheVariants.{AllZero, First, Check}
use Rattle.judging.proofs.Behind.{passed_behind}
use Rattle.judging.proofs.Exactness.{first_nonzero, test_passed, passed_optimal, objects_never, row_divided, column_polynomial}
use Rattle.judging.proofs.offer.Offer.judge.Goals as goal

pub returns-in_err-degrees-clause-exact : goal.returns-in_err-degrees-clause-exact
returns-in_err-degrees-clause-exact g c =
    let f = g.F.Field in
    let field = field_of g.met.F.Field.laws g.met.F.Field.numbered g.met.F.Field.invertible in
    let n = c.args.self.now.n in
    let row = generator_in f.ops f.member c.args.self.now.generators.now in
    let offered = c.args.self.now.offered.now in
    let none : c.divide_by_gcd.result ≡ None = grind arith in
    let p = err_from_is_err_and c.from_residual.result c.from_residual.ensures.1 in
    rw p.1 (objects_never f.ops field n row (column_in f.ops f.member offered) AllZero (omega arith) (column_polynomial f.ops f.member offered) (every_zero refl (MatchOption-at_none _ _ none c.divide_by_gcd.ensures).0))

pub returns-then-not-product_is : goal.returns-then-not-product_is
returns-then-not-product_is g c =
    let f = g.F.Field in
    let field = field_of g.met.F.Field.laws g.met.F.Field.numbered g.met.F.Field.invertible in
    let n = c.args.self.now.n in
    let generators = c.args.self.now.generators.now in
    let row = generator_in f.ops f.member generators in
    let offered = c.args.self.now.offered.now in
    let columns = column_in f.ops f.member offered in
    let work = c.divide_by_gcd.new.work in
    let divisor = gcd_in f.ops f.member work in
    let found = c.in_ok-degrees.degrees in
    let some : c.divide_by_gcd.result ≡ Some found = grind arith in
    let row_of = row_divided f.ops f.member n found.divisor found.row generators work (MatchOption-at_some _ _ found some c.divide_by_gcd.ensures) in
    let objects : Objects f.ops n (n - 1) row columns First = first_differs divisor found.row row_of refl (λ e. c.if-not-product_is.ensures (e ∙ sym (part_is f.ops f.member work 4368 17))) in
    record { answer = objects; exact = objects_never f.ops field n row columns First (omega arith) (column_polynomial f.ops f.member offered) objects }

pub returns-in-Some : goal.returns-in-Some
returns-in-Some g c =
    let f = g.F.Field in
    let field = field_of g.met.F.Field.laws g.met.F.Field.numbered g.met.F.Field.invertible in
    let n = c.args.self.now.n in
    let generators = c.args.self.now.generators.now in
    let row = generator_in f.ops f.member generators in
    let offered = c.args.self.now.offered.now in
    let columns = column_in f.ops f.member offered in
    let work = c.divide_by_gcd.new.work in
    let divisor = gcd_in f.ops f.member work in
    let found = c.in_ok-degrees.degrees in
    let some : c.divide_by_gcd.result ≡ Some found = grind arith in
    let row_of = row_divided f.ops f.member n found.divisor found.row generators work (MatchOption-at_some _ _ found some c.divide_by_gcd.ensures) in
    let j = c.in-Some.j in
    let first : dot (series f.ops) n row (columns 0) ≡ divisor = c.if-not-product_is.ensures ∙ part_is f.ops f.member work 4368 17 in
    let objects : Objects f.ops n (n - 1) row columns (Check j) = no_syzygy divisor found.row row_of first j refl c.in-Some.ensures in
    record { answer = objects; exact = objects_never f.ops field n row columns (Check j) (omega arith) (column_polynomial f.ops f.member offered) objects }

pub slice_bounds-judge_degrees-end-2 : goal.slice_bounds-judge_degrees-end-2
slice_bounds-judge_degrees-end-2 g c = omega (arith, length-take-le 4368 c.divide_by_gcd.new.work (omega (arith, c.divide_by_gcd.auto.work)))

pub judge_degrees-requires-clause-room : goal.judge_degrees-requires-clause-room
judge_degrees-requires-clause-room g c = let low = length-take-le 4368 c.divide_by_gcd.new.work (omega (arith, c.divide_by_gcd.auto.work)) in omega (arith, low)

pub judge_degrees-requires-clause-nonzero : goal.judge_degrees-requires-clause-nonzero
judge_degrees-requires-clause-nonzero g c =
    let f = g.F.Field in
    let field = field_of g.met.F.Field.laws g.met.F.Field.numbered g.met.F.Field.invertible in
    let found = c.in_ok-degrees.degrees in
    let some : c.divide_by_gcd.result ≡ Some found = grind arith in
    let all = MatchOption-at_some _ _ found some c.divide_by_gcd.ensures in
    let divisor = gcd_in f.ops f.member c.divide_by_gcd.new.work in
    first_nonzero f.ops field c.args.self.now.n (generator_in f.ops f.member c.args.self.now.generators.now) divisor (column_in f.ops f.member c.args.self.now.offered.now 0) all.gcd
    (c.if-not-product_is.ensures ∙ part_is f.ops f.member c.divide_by_gcd.new.work 4368 17)

pub returns-in_err-judge_degrees : goal.returns-in_err-judge_degrees
returns-in_err-judge_degrees g c =
    let f = g.F.Field in
    let field = field_of g.met.F.Field.laws g.met.F.Field.numbered g.met.F.Field.invertible in
    let n = c.args.self.now.n in
    let generators = c.args.self.now.generators.now in
    let row = generator_in f.ops f.member generators in
    let offered = c.args.self.now.offered.now in
    let columns = column_in f.ops f.member offered in
    let work = c.divide_by_gcd.new.work in
    let divisor = gcd_in f.ops f.member work in
    let found = c.in_ok-degrees.degrees in
    let some : c.divide_by_gcd.result ≡ Some found = grind arith in
    let row_of = row_divided f.ops f.member n found.divisor found.row generators work (MatchOption-at_some _ _ found some c.divide_by_gcd.ensures) in
    let first : dot (series f.ops) n row (columns 0) ≡ divisor = c.if-not-product_is.ensures ∙ part_is f.ops f.member work 4368 17 in
    let x = c.in_err-judge_degrees.field-0.0 in
    let objects : Objects f.ops n (n - 1) row columns x = by_degree divisor found.row row_of first c.in_default.ensures c.in_err-judge_degrees.ensures in
    let p = err_from_is_err_and c.from_residual-in_err-judge_degrees.result c.from_residual-in_err-judge_degrees.ensures.1 in
    rw (p.1, p.2) record { answer = objects; exact = objects_never f.ops field n row columns x (omega arith) (column_polynomial f.ops f.member offered) objects }

pub returns : goal.returns
returns g c =
    let f = g.F.Field in
    let R = f.Member in
    let o = f.ops in
    let field = field_of g.met.F.Field.laws g.met.F.Field.numbered g.met.F.Field.invertible in
    let n = c.args.self.now.n in
    let generators = c.args.self.now.generators.now in
    let row = generator_in o f.member generators in
    let offered = c.args.self.now.offered.now in
    let columns = column_in o f.member offered in
    let work = c.divide_by_gcd.new.work in
    let divisor = gcd_in o f.member work in
    let found = c.in_ok-degrees.degrees in
    let some : c.divide_by_gcd.result ≡ Some found = grind arith in
    let all = MatchOption-at_some _ _ found some c.divide_by_gcd.ensures in
    let d = found.row in
    let row_of = row_divided o f.member n found.divisor d generators work all in
    let first : dot (series o) n row (columns 0) ≡ divisor = c.if-not-product_is.ensures ∙ part_is o f.member work 4368 17 in
    let passed = c.in_ok-judge_degrees.ensures in
    let test = test_passed o field n row divisor d columns (omega arith) first c.in_default.ensures passed.0 passed.1 in
    record {
      answer =
          passed_behind o f.member work c.judge_degrees.new.table (let low = length-take-le 4368 work (omega (arith, c.divide_by_gcd.auto.work)) in omega (arith, c.judge_degrees.auto.table, low)) n generators offered d found.divisor
          record {
            row_of = row_of;
            divisor_degree = all.degree;
            test = test;
            within = degrees_within o field f.member n found.divisor d generators work all;
          };
      exact = (divisor, passed_optimal o field n row divisor d columns (omega arith) (column_polynomial o f.member offered) row_of test);
    }

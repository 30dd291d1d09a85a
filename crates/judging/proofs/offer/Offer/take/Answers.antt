use Rattle.std.proofs.Common.{ℕ, ◌-◌, sym, refl, subst, subst₂, arith}
use Rattle.std.proofs.lemmas.Result.{err_from_is_err_and}
use Rattle.algebra.specs.Series.{Degree}
use Rattle.algebra.specs.DegreeTest.{PassesTest}
use Rattle.algebra.proofs.Fields.{field_of}
use Rattle.frames.specs.Rows.{generator_in, gcd_in}
use Rattle.framing.specs.Framing.{column_in, divisor_in}
use Rattle.judging.specs.Offers.{RowOf}
use Rattle.judging.proofs.Copied.{test_of_copy, columns_nonzero}
use Rattle.judging.proofs.Exactness.{passed_optimal, column_polynomial}
use Rattle.judging.proofs.offer.Offer.take.Goals as goal

pub returns-in_err-degrees-clause-answer : goal.returns-in_err-degrees-clause-answer
returns-in_err-degrees-clause-answer g c = let p = err_from_is_err_and c.from_residual.result c.from_residual.ensures.1 in rw (p.1, p.2) (c.in_err-degrees.ensures.answer, refl)

pub of-requires-clause-nonzero : goal.of-requires-clause-nonzero
of-requires-clause-nonzero g c =
    let f = g.F.Field in
    let field = field_of g.met.F.Field.laws g.met.F.Field.numbered g.met.F.Field.invertible in
    let n = c.args.self.now.n in
    let row = generator_in f.ops f.member c.args.self.now.generators.now in
    let passed = c.in_ok-degrees.ensures.answer in
    let divisor = gcd_in f.ops f.member c.judge.new.work in
    let d = c.in_ok-degrees.degrees.row in
    let offered = column_in f.ops f.member c.args.self.now.offered.now in
    let taken = column_in f.ops f.member c.take_columns.new.frame in
    let test = test_of_copy f.ops field n row divisor d offered taken (omega arith) c.take_columns.ensures.copied passed.test in
    columns_nonzero f.ops field n row divisor d taken (omega arith) passed.row_of.gcd test

pub returns-clause-answer : goal.returns-clause-answer
returns-clause-answer g c =
    let f = g.F.Field in
    let R = f.Member in
    let field = field_of g.met.F.Field.laws g.met.F.Field.numbered g.met.F.Field.invertible in
    let n = c.args.self.now.n in
    let row = generator_in f.ops f.member c.args.self.now.generators.now in
    let passed = c.in_ok-degrees.ensures.answer in
    let divisor = gcd_in f.ops f.member c.judge.new.work in
    let d = c.in_ok-degrees.degrees.row in
    let frame = c.take_columns.new.frame in
    let offered = column_in f.ops f.member c.args.self.now.offered.now in
    let taken = column_in f.ops f.member frame in
    let same = sym c.take_columns.ensures.divisor in
    let numbers = c.of.ensures.degrees in
    let row_of = subst (λ (h : ℕ → R). RowOf f.ops n row h d) same passed.row_of in
    let test = subst (λ (h : ℕ → R). PassesTest f.ops (n - 1) row h d taken) same (test_of_copy f.ops field n row divisor d offered taken (omega arith) c.take_columns.ensures.copied passed.test) in
    record {
      row_of = subst (λ (k : ℕ). RowOf f.ops n row (divisor_in f.ops f.member frame) k) (sym numbers.0) row_of;
      copied = c.take_columns.ensures.copied;
      optimal = passed_optimal f.ops field n row (divisor_in f.ops f.member frame) d taken (omega arith) (column_polynomial f.ops f.member frame) row_of test;
      divisor_degree = subst₂ (λ (h : ℕ → R) (k : ℕ). Degree f.ops h k) same (sym numbers.1) passed.divisor_degree;
      column_degrees = c.of.ensures.columns;
      rest = c.take_columns.ensures.rest;
      within = let low = passed.within in omega arith;
    }

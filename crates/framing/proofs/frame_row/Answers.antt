use Rattle.std.proofs.Common.{◌≡◌, ℕ, suc, ◌-◌, ◌≤◌, sym, subst, subst₂, arith}
use Rattle.algebra.specs.Series.{Degree}
use Rattle.algebra.specs.Divisors.{AllZero}
use Rattle.algebra.specs.Frames.{IsFrame}
use Rattle.algebra.proofs.DividedRow as DividedRows
use Rattle.algebra.proofs.Fields.{field_of}
use Rattle.frames.specs.Rows.{generator_in, gcd_in, quotient_in, column_in}
use Rattle.framing.proofs.Whole.{degrees_within, columns_nonzero, frame_of_columns}
use Rattle.framing.proofs.frame_row.Goals as goal

pub write_frame-requires-clause-sized : goal.write_frame-requires-clause-sized
write_frame-requires-clause-sized g c =
    let f = g.F.Field in
    let field = field_of g.met.F.Field.laws g.met.F.Field.numbered g.met.F.Field.invertible in
    let low = degrees_within f.ops field f.member c.args.n c.in_ok-degrees.degrees.divisor c.in_ok-degrees.degrees.row c.args.generators.now c.divide_by_gcd.new.work c.in_ok-degrees.ensures in
    (omega arith, (omega arith, omega arith))

pub write_frame-requires-clause-coprime : goal.write_frame-requires-clause-coprime
write_frame-requires-clause-coprime g c =
    let f = g.F.Field in
    let field = field_of g.met.F.Field.laws g.met.F.Field.numbered g.met.F.Field.invertible in
    let all = c.in_ok-degrees.ensures in
    DividedRows.one_is_combination f.ops field c.args.n (generator_in f.ops f.member c.args.generators.now) (gcd_in f.ops f.member c.divide_by_gcd.new.work) (quotient_in f.ops f.member c.divide_by_gcd.new.work) all.gcd all.divided

pub of-requires-clause-nonzero : goal.of-requires-clause-nonzero
of-requires-clause-nonzero g c =
    let f = g.F.Field in
    let field = field_of g.met.F.Field.laws g.met.F.Field.numbered g.met.F.Field.invertible in
    let all = c.in_ok-degrees.ensures in
    let n = c.args.n in
    let two : 2 ≤ n = omega arith in
    let e : n ≡ suc (n - 1) = omega arith in
    let frame = frame_of_columns f.ops field n two (generator_in f.ops f.member c.args.generators.now) (gcd_in f.ops f.member c.divide_by_gcd.new.work) (quotient_in f.ops f.member c.divide_by_gcd.new.work) c.in_ok-degrees.degrees.row (column_in f.ops f.member c.write_frame.new.frame) all.gcd all.divided all.highest c.write_frame.ensures.columns in
    λ k h none. columns_nonzero f.ops field (n - 1) _ _ _ _ frame k (omega arith) (subst (λ (i : ℕ). AllZero f.ops i (column_in f.ops f.member c.write_frame.new.frame k)) e none)

pub returns-clause-answer : goal.returns-clause-answer
returns-clause-answer g c =
    let f = g.F.Field in
    let R = f.Member in
    let field = field_of g.met.F.Field.laws g.met.F.Field.numbered g.met.F.Field.invertible in
    let all = c.in_ok-degrees.ensures in
    let n = c.args.n in
    let two : 2 ≤ n = omega arith in
    let row = generator_in f.ops f.member c.args.generators.now in
    let columns = column_in f.ops f.member c.write_frame.new.frame in
    let d = c.in_ok-degrees.degrees.row in
    let frame = frame_of_columns f.ops field n two row (gcd_in f.ops f.member c.divide_by_gcd.new.work) (quotient_in f.ops f.member c.divide_by_gcd.new.work) d columns all.gcd all.divided all.highest c.write_frame.ensures.columns in
    let same = sym c.write_frame.ensures.divisor in
    let numbers = c.of.ensures.degrees in
    record {
      is_frame = subst₂ (λ (h : ℕ → R) (k : ℕ). IsFrame f.ops (n - 1) row h k columns) same (sym numbers.0) frame;
      divisor_degree = subst₂ (λ (h : ℕ → R) (k : ℕ). Degree f.ops h k) same (sym numbers.1) all.degree;
      column_degrees = c.of.ensures.columns;
      rest = c.write_frame.ensures.rest;
      within = let low = degrees_within f.ops field f.member n c.in_ok-degrees.degrees.divisor d c.args.generators.now c.divide_by_gcd.new.work all in omega arith;
    }

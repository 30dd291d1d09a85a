use Rattle.std.proofs.Common.{◌++◌, Option, sym, ap, ◌∙◌, subst, ℕ}
use mathlib.Core.Path.{fun_ext}
use Rattle.std.specs.Option.{MatchOption}
use Rattle.tables.specs.Places.{at, Cleared}
use Rattle.algebra.specs.Divisors.{AllZero}
use Rattle.frames.specs.declared.row.Degrees.{Degrees}
use Rattle.frames.specs.Rows.{generator_in, DividedByGcd}
use Rattle.frames.proofs.RowSteps.{parts_of, row_of_zero, monic_divides, placed_gcd, placed_row, placed_rest, placed_zero, divided_by_gcd}
use Rattle.frames.proofs.row.divide_by_gcd.Goals as goal

pub gather-requires-clause-cleared : goal.gather-requires-clause-cleared
gather-requires-clause-cleared g c =
    let f = g.F.Field in
    let L = g.met.F.Field.laws.ring in
    let tables = c.split_at_mut-tables in
    let front = c.split_at_mut-front in
    let spare = c.split_at_mut-spare in
    let parts = parts_of f.ops L f.member c.clear.new.table tables.result.0.now tables.result.1.now front.result.0.now front.result.1.now spare.result.0.now spare.result.1.now
    c.clear.ensures (c.clear.auto.table ∙ c.requires.1.1) tables.ensures.front tables.ensures.back front.ensures.front front.ensures.back spare.ensures.front spare.ensures.back in
    (fun_ext parts.spare_zero, fun_ext parts.divisor_zero)

pub divide_row-requires-clause-divides : goal.divide_row-requires-clause-divides
divide_row-requires-clause-divides g c =
    let f = g.F.Field in
    monic_divides f.ops g.met.F.Field.laws.ring c.args.n c.in_ok-e.e (generator_in f.ops f.member c.args.generators.now) (at f.ops f.member c.gather.new.divisor) (at f.ops f.member c.make_monic.new.divisor)
    c.gather.ensures.divisors c.in_ok-e.ensures

pub divide_row-requires-clause-cleared : goal.divide_row-requires-clause-cleared
divide_row-requires-clause-cleared g c =
    let f = g.F.Field in
    let L = g.met.F.Field.laws.ring in
    let tables = c.split_at_mut-tables in
    let front = c.split_at_mut-front in
    let spare = c.split_at_mut-spare in
    let parts = parts_of f.ops L f.member c.clear.new.table tables.result.0.now tables.result.1.now front.result.0.now front.result.1.now spare.result.0.now spare.result.1.now
    c.clear.ensures (c.clear.auto.table ∙ c.requires.1.1) tables.ensures.front tables.ensures.back front.ensures.front front.ensures.back spare.ensures.front spare.ensures.back in
    (c.gather.ensures.rest, parts.row_zero)

pub returns-in_err-e : goal.returns-in_err-e
returns-in_err-e g c =
    let f = g.F.Field in
    let L = g.met.F.Field.laws.ring in
    let tables = c.split_at_mut-tables in
    let front = c.split_at_mut-front in
    let spare = c.split_at_mut-spare in
    let parts = parts_of f.ops L f.member c.clear.new.table tables.result.0.now tables.result.1.now front.result.0.now front.result.1.now spare.result.0.now spare.result.1.now
    c.clear.ensures (c.clear.auto.table ∙ c.requires.1.1) tables.ensures.front tables.ensures.back front.ensures.front front.ensures.back spare.ensures.front spare.ensures.back in
    let d = c.make_monic.new.divisor in
    let s = c.gather.new.spare in
    let t = spare.result.1.now in
    let r = tables.result.1.now in
    let generators = c.args.generators.now in
    let after = s ++ t ++ d ++ r in
    subst (λ (x : Option Degrees). MatchOption x (AllZero f.ops c.args.n (generator_in f.ops f.member generators) × Cleared f.ops f.member after) (λ y. DividedByGcd f.ops f.member c.args.n generators after y.divisor y.row)) (sym c.from_residual.ensures) (
      row_of_zero f.ops L c.args.n (generator_in f.ops f.member generators) (at f.ops f.member c.gather.new.divisor) c.gather.ensures.divisors c.in_err-e.ensures.0,
      placed_zero f.ops L f.member s t d r (c.gather.auto.spare ∙ parts.spare_long) parts.unused_long (c.make_monic.auto.divisor ∙ c.gather.auto.divisor ∙ parts.divisor_long)
          (λ k. ap (λ (p : ℕ → f.Member). p k) c.gather.ensures.rest) parts.unused_zero (λ k. ap (λ (p : ℕ → f.Member). p k) c.in_err-e.ensures.1) parts.row_zero,
    )

pub returns : goal.returns
returns g c =
    let f = g.F.Field in
    let L = g.met.F.Field.laws.ring in
    let tables = c.split_at_mut-tables in
    let front = c.split_at_mut-front in
    let spare = c.split_at_mut-spare in
    let parts = parts_of f.ops L f.member c.clear.new.table tables.result.0.now tables.result.1.now front.result.0.now front.result.1.now spare.result.0.now spare.result.1.now
    c.clear.ensures (c.clear.auto.table ∙ c.requires.1.1) tables.ensures.front tables.ensures.back front.ensures.front front.ensures.back spare.ensures.front spare.ensures.back in
    let d = c.make_monic.new.divisor in
    let s = c.divide_row.new.spare in
    let t = spare.result.1.now in
    let r = c.divide_row.new.row in
    let s_long = c.divide_row.auto.spare ∙ c.gather.auto.spare ∙ parts.spare_long in
    let d_long = c.make_monic.auto.divisor ∙ c.gather.auto.divisor ∙ parts.divisor_long in
    divided_by_gcd f.ops L f.member g.met.F.Field.laws c.args.n c.in_ok-e.e c.row_degree.result (at f.ops f.member c.gather.new.divisor) (at f.ops f.member d) c.args.generators.now r (s ++ t ++ d ++ r)
    c.gather.ensures.divisors c.in_ok-e.ensures (c.divide_row.ensures.row, c.divide_row.ensures.behind) c.row_degree.ensures.value
    (placed_gcd f.ops L f.member s t d r s_long parts.unused_long d_long) (placed_row f.ops L f.member s t d r s_long parts.unused_long d_long)
    (placed_rest f.ops L f.member s t d r s_long parts.unused_long d_long c.args.n (λ k. ap (λ (p : ℕ → f.Member). p k) c.divide_row.ensures.rest) parts.unused_zero c.divide_row.ensures.behind)

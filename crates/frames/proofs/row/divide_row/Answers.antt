use Rattle.std.proofs.Common.{◌≡◌, ◌<◌, ◌*◌, ◌+◌, ◌-◌, ℕ, take, drop, length, sym, ap, ◌∙◌, subst, arith}
use Rattle.std.specs.Iterator.Adapters.{enumerate_source, enumerate_count}
use Rattle.std.specs.Slice.Iter.{chunks_exact_rest, chunks_exact_size}
use borrow.Rule.Slice.PartMut.{put_mid}
use Rattle.algebra.specs.Divisors.{Divides}
use Rattle.tables.specs.Places.{at}
use Rattle.tables.proofs.Slices.{range_is, put_range, kept_range}
use Rattle.frames.specs.Rows.{generator_in}
use Rattle.frames.proofs.RowSteps.{chunk_next, chunk_last, DividedFirst, divide_step, zero_part}
use Rattle.frames.proofs.row.divide_row.Goals as goal

pub loop-i-init : goal.loop-i-init
loop-i-init g c =
    let f = g.F.Field in
    let both = c.into_iter-i-iterator.ensures.into_iter_gives in
    let start = c.enumerate-i-items.ensures in
    let none : enumerate_count c.into_iter-i-iterator.result ≡ 0 = ap enumerate_count both ∙ start.count in
    record {
      size = ap (λ z. chunks_exact_size (enumerate_source z)) both ∙ ap chunks_exact_size start.source ∙ c.chunks_exact.ensures.size;
      left = ap (λ z. chunks_exact_rest (enumerate_source z)) both ∙ ap chunks_exact_rest start.source ∙ c.chunks_exact.ensures.rest
          ∙ ap (λ k. drop (17 * k) (take (17 * c.args.n) c.args.generators.now)) (sym none);
      few = omega (arith, none);
      divided = (λ j l. absurd (omega (arith, none)), λ k h. c.requires.cleared.1 k);
      spare = c.requires.cleared.0;
    }

pub divide_exactly-requires-clause-divides : goal.divide_exactly-requires-clause-divides
divide_exactly-requires-clause-divides g c =
    let f = g.F.Field in
    let generators = c.args.generators.now in
    let steps = c.in-Some.ensures.steps in
    let k = enumerate_count c.loop-i.i-iterator in
    let is : c.in-Some.i ≡ k = steps.1 in
    let next = chunk_next f.ops g.met.F.Field.laws.ring f.member generators (chunks_exact_rest (enumerate_source c.loop-i.i-iterator)) c.in-Some.generator.now (chunks_exact_rest (enumerate_source c.next.new.self)) c.args.n k c.requires.room.0 c.loop-i.invariant.left steps.0.1.0 (steps.0.1.1 ∙ c.loop-i.invariant.size) in
    let few : k < c.args.n = next.0 in
    let copied : at f.ops f.member c.copy_from_slice.new.self ≡ generator_in f.ops f.member generators c.in-Some.i =
    ap (at f.ops f.member) c.copy_from_slice.ensures.after ∙ next.2 ∙ ap (generator_in f.ops f.member generators) (sym is) in
    subst (Divides f.ops (at f.ops f.member c.args.divisor.now)) (sym copied) (c.requires.divides c.in-Some.i (omega arith))

pub divide_exactly-requires-clause-cleared : goal.divide_exactly-requires-clause-cleared
divide_exactly-requires-clause-cleared g c =
    let f = g.F.Field in
    let row = c.loop-i.row in
    let i = c.in-Some.i in
    let is : i ≡ enumerate_count c.loop-i.i-iterator = c.in-Some.ensures.steps.1 in
    range_is f.ops f.member row (17 * i) (17 * i + 17) 17 (omega arith)
    ∙ zero_part f.ops g.met.F.Field.laws.ring f.member row (17 * i) 17 (λ j h. c.loop-i.invariant.divided.1 (17 * i + j) (omega arith))

pub loop-i-preserved : goal.loop-i-preserved
loop-i-preserved g c =
    let f = g.F.Field in
    let L = g.met.F.Field.laws.ring in
    let generators = c.args.generators.now in
    let row = c.loop-i.row in
    let q = c.divide_exactly.new.quotient in
    let steps = c.in-Some.ensures.steps in
    let k = enumerate_count c.loop-i.i-iterator in
    let i = c.in-Some.i in
    let is : i ≡ k = steps.1 in
    let count : enumerate_count c.next.new.self ≡ k + 1 = steps.2 in
    let next = chunk_next f.ops L f.member generators (chunks_exact_rest (enumerate_source c.loop-i.i-iterator)) c.in-Some.generator.now (chunks_exact_rest (enumerate_source c.next.new.self)) c.args.n k c.requires.room.0 c.loop-i.invariant.left steps.0.1.0 (steps.0.1.1 ∙ c.loop-i.invariant.size) in
    let few : k < c.args.n = next.0 in
    let copied : at f.ops f.member c.copy_from_slice.new.self ≡ generator_in f.ops f.member generators i =
    ap (at f.ops f.member) c.copy_from_slice.ensures.after ∙ next.2 ∙ ap (generator_in f.ops f.member generators) (sym is) in
    let more = divide_step f.ops L f.member i (generator_in f.ops f.member generators) (at f.ops f.member c.args.divisor.now) (at f.ops f.member q)
    row (put_mid (17 * i) (17 * i + 17 - 17 * i) row q)
    (subst (λ (j : ℕ). DividedFirst f.ops L f.member j (generator_in f.ops f.member generators) (at f.ops f.member c.args.divisor.now) row) (sym is) c.loop-i.invariant.divided)
    (c.divide_exactly.ensures.quotient ∙ copied)
    (put_range f.ops f.member (17 * i) (17 * i + 17) 17 row q (omega arith) (omega arith) c.divide_exactly.auto.quotient)
    (kept_range f.ops f.member (17 * i) (17 * i + 17) 17 row q (omega arith) (omega arith) c.divide_exactly.auto.quotient) in
    let after : i + 1 ≡ enumerate_count c.next.new.self = omega arith in
    record {
      size = steps.0.0 ∙ c.loop-i.invariant.size;
      left = next.1 ∙ ap (λ j. drop (17 * j) (take (17 * c.args.n) generators)) (sym count);
      few = omega arith;
      divided = subst (λ (j : ℕ). DividedFirst f.ops L f.member j (generator_in f.ops f.member generators) (at f.ops f.member c.args.divisor.now) (put_mid (17 * i) (17 * i + 17 - 17 * i) row q)) after more;
      spare = c.divide_exactly.ensures.cleared;
    }

pub returns-clause-row : goal.returns-clause-row
returns-clause-row g c =
    let f = g.F.Field in
    let L = g.met.F.Field.laws.ring in
    let generators = c.args.generators.now in
    let rest = chunks_exact_rest (enumerate_source c.loop-i.i-iterator) in
    let i = enumerate_count c.loop-i.i-iterator in
    let short : length rest < 17 = omega (arith, c.in-None.ensures.steps.0.1.0, c.loop-i.invariant.size) in
    let all : i ≡ c.args.n = chunk_last f.ops L f.member generators rest c.args.n i c.requires.room.0 c.loop-i.invariant.left short c.loop-i.invariant.few in
    (subst (λ (i : ℕ). DividedFirst f.ops L f.member i (generator_in f.ops f.member generators) (at f.ops f.member c.args.divisor.now) c.loop-i.row) all c.loop-i.invariant.divided).0

use Rattle.std.proofs.Common.{◌≡◌, ◌<◌, ◌*◌, ◌+◌, ℕ, [], ◌∷◌, ◌++◌, take, drop, length, length-append, sym, ap, ◌∙◌, subst, arith}
use Rattle.std.specs.Slice.Iter.{chunks_exact_rest, chunks_exact_size}
use Rattle.frames.specs.Common.{GcdOfFirst}
use Rattle.tables.specs.Places.{at}
use Rattle.frames.specs.Rows.{generator_in}
use Rattle.frames.proofs.RowSteps.{chunk_next, chunk_last, gcd_of_none, gcd_of_more}
use Rattle.frames.proofs.row.gather.Goals as goal

pub loop-generator-init : goal.loop-generator-init
loop-generator-init g c =
    let f = g.F.Field in
    let start = c.into_iter-generator-iterator.ensures.into_iter_gives in
    record {
      size = ap chunks_exact_size start ∙ c.chunks_exact-generator-items.ensures.size;
      left = ap chunks_exact_rest start ∙ c.chunks_exact-generator-items.ensures.rest;
      few = omega arith;
      divisors = gcd_of_none f.ops g.met.F.Field.laws.ring (generator_in f.ops f.member c.args.generators.now) (at f.ops f.member c.args.divisor.now) c.requires.cleared.1;
      spare = c.requires.cleared.0;
    }

pub loop-generator-preserved : goal.loop-generator-preserved
loop-generator-preserved g c =
    let f = g.F.Field in
    let L = g.met.F.Field.laws.ring in
    let generators = c.args.generators.now in
    let part = c.in-Some.generator.now in
    let i = length c.loop-generator.yielded in
    let steps = c.in-Some.ensures.steps in
    let next = chunk_next f.ops L f.member generators (chunks_exact_rest c.loop-generator.generator-iterator) part (chunks_exact_rest c.next.new.self) c.args.n i c.requires.room.0 c.loop-generator.invariant.left steps.1.0 (steps.1.1 ∙ c.loop-generator.invariant.size) in
    let few : i < c.args.n = next.0 in
    let count : length (c.loop-generator.yielded ++ c.in-Some.generator ∷ []) ≡ i + 1 = length-append c.loop-generator.yielded (c.in-Some.generator ∷ []) in
    let more = gcd_of_more f.ops L i (generator_in f.ops f.member generators)
    (at f.ops f.member c.loop-generator.divisor) (at f.ops f.member c.copy_from_slice.new.self) (at f.ops f.member c.euclid.new.left)
    c.loop-generator.invariant.divisors c.euclid.ensures.divisors (ap (at f.ops f.member) c.copy_from_slice.ensures.after ∙ next.2) in
    record {
      size = steps.0 ∙ c.loop-generator.invariant.size;
      left = next.1 ∙ ap (λ k. drop (17 * k) (take (17 * c.args.n) generators)) (sym count);
      few = omega arith;
      divisors = subst (λ (k : ℕ). GcdOfFirst f.ops k (generator_in f.ops f.member generators) (at f.ops f.member c.euclid.new.left)) (sym count) more;
      spare = c.euclid.ensures.cleared;
    }

pub returns-clause-divisors : goal.returns-clause-divisors
returns-clause-divisors g c =
    let f = g.F.Field in
    let generators = c.args.generators.now in
    let rest = chunks_exact_rest c.loop-generator.generator-iterator in
    let i = length c.loop-generator.yielded in
    let short : length rest < 17 = omega (arith, c.in-None.ensures.steps.1.0, c.loop-generator.invariant.size) in
    let all : i ≡ c.args.n = chunk_last f.ops g.met.F.Field.laws.ring f.member generators rest c.args.n i c.requires.room.0 c.loop-generator.invariant.left short c.loop-generator.invariant.few in
    subst (λ (k : ℕ). GcdOfFirst f.ops k (generator_in f.ops f.member generators) (at f.ops f.member c.loop-generator.divisor)) all c.loop-generator.invariant.divisors

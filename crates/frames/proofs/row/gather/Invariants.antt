use Rattle.std.proofs.Common.{◌≡◌, ◌*◌, ◌≤◌, length, take, drop}
use Rattle.std.specs.Slice.Iter.{chunks_exact_rest, chunks_exact_size}
use Rattle.algebra.specs.Series.{series}
use Rattle.tables.specs.Places.{at}
use Rattle.frames.specs.Common.{GcdOfFirst}
use Rattle.frames.specs.Rows.{generator_in}
use Rattle.frames.proofs.row.gather.Given as goal

abbrev pub invariant-loop-generator : goal.invariant-loop-generator
invariant-loop-generator g l =
    let f = g.F.Field in
    let i = length l.yielded in
    record {
      size : chunks_exact_size l.generator-iterator ≡ 17;
      left : chunks_exact_rest l.generator-iterator ≡ drop (17 * i) (take (17 * l.n) l.generators);
      few : i ≤ l.n;
      divisors : GcdOfFirst f.ops i (generator_in f.ops f.member l.generators) (at f.ops f.member l.divisor);
      spare : at f.ops f.member l.spare ≡ (series f.ops).zero;
    }

use Rattle.std.proofs.Common.{◌≡◌, ◌*◌, ◌≤◌, take, drop}
use Rattle.std.specs.Iterator.Adapters.{enumerate_source, enumerate_count}
use Rattle.std.specs.Slice.Iter.{chunks_exact_rest, chunks_exact_size}
use Rattle.algebra.specs.Series.{series}
use Rattle.tables.specs.Places.{at}
use Rattle.frames.specs.Rows.{generator_in}
use Rattle.frames.proofs.RowSteps.{DividedFirst}
use Rattle.frames.proofs.row.divide_row.Given as goal

abbrev pub invariant-loop-i : goal.invariant-loop-i
invariant-loop-i g l =
    let f = g.F.Field in
    let i = enumerate_count l.i-iterator in
    record {
      size : chunks_exact_size (enumerate_source l.i-iterator) ≡ 17;
      left : chunks_exact_rest (enumerate_source l.i-iterator) ≡ drop (17 * i) (take (17 * l.n) l.generators);
      few : i ≤ l.n;
      divided : DividedFirst f.ops g.met.F.Field.laws.ring f.member i (generator_in f.ops f.member l.generators) (at f.ops f.member l.divisor) l.row;
      spare : at f.ops f.member l.spare ≡ (series f.ops).zero;
    }

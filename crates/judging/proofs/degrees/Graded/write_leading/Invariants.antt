use Rattle.std.proofs.Common.{◌≡◌, ℕ, ◌+◌, ◌*◌, ◌<◌, ◌≤◌, take, drop}
use Rattle.std.specs.List.{between}
use Rattle.std.specs.Iterator.Adapters.{enumerate_source, enumerate_count}
use Rattle.std.specs.Slice.Iter.{chunks_exact_rest, chunks_exact_size}
use Rattle.tables.specs.Places.{at}
use Rattle.judging.specs.Columns.{coefficients_in}
use Rattle.judging.proofs.degrees.Graded.write_leading.Given as goal

abbrev pub invariant-loop-i : goal.invariant-loop-i
invariant-loop-i g l =
    let f = g.F.Field in
    let i = enumerate_count l.i-iterator in
    record {
      size : chunks_exact_size (enumerate_source l.i-iterator) ≡ 17;
      left : chunks_exact_rest (enumerate_source l.i-iterator) ≡ drop (17 * i) (take (17 * l.self.offer.now.n) (between (136 * l.j) (136 * l.j + 136) l.self.offer.now.offered.now));
      few : i ≤ l.self.offer.now.n;
      written : (k : ℕ) → k < i → at f.ops f.member l.column k ≡ coefficients_in f.ops f.member l.self.offer.now.offered.now l.j l.degree k;
    }

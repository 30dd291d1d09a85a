use Rattle.std.proofs.Common.{◌≡◌, ◌*◌, ◌≤◌, length, take, drop}
use Rattle.std.specs.Iterator.Adapters.{zip_first, zip_second}
use Rattle.std.specs.Slice.Iter.{chunks_exact_rest, chunks_exact_size}
use Rattle.algebra.specs.Series.{dot, series}
use Rattle.frames.specs.Rows.{generator_in, row_in}
use Rattle.tables.specs.Places.{at}
use Rattle.judging.proofs.offer.Offer.write_product.Given as goal

abbrev pub invariant-loop-generator : goal.invariant-loop-generator
invariant-loop-generator g l =
    let f = g.F.Field in
    let i = length l.yielded in
    let generators = zip_first l.generator-iterator in
    let components = zip_second l.generator-iterator in
    record {
      size : chunks_exact_size generators ≡ 17;
      width : chunks_exact_size components ≡ 17;
      left : chunks_exact_rest generators ≡ drop (17 * i) (take (17 * l.self.n) l.self.generators.now);
      behind : chunks_exact_rest components ≡ drop (17 * i) (take (17 * 8) l.column);
      few : i ≤ l.self.n;
      sent : at f.ops f.member l.product ≡ dot (series f.ops) i (generator_in f.ops f.member l.self.generators.now) (row_in f.ops f.member l.column 0);
    }

use Rattle.std.proofs.Common.{◌≡◌, ◌+◌, ◌-◌, ◌*◌, ◌^◌, ◌<◌, ◌≤◌, length, take, drop}
use Rattle.std.specs.Iterator.Adapters.{rev_source}
use Rattle.std.specs.Slice.Iter.{chunks_exact_rest, chunks_exact_size}
use Rattle.framing.specs.Framing.{DegreesFrom}
use Rattle.framing.proofs.packing.pack_degrees.Given as goal

abbrev pub invariant-loop-column : goal.invariant-loop-column
invariant-loop-column g l =
    let f = g.F.Field in
    let m = l.n - l.j - length l.yielded in
    record {
      few : length l.yielded ≤ l.n - l.j;
      size : chunks_exact_size (rev_source l.column-iterator) ≡ 136;
      left : chunks_exact_rest (rev_source l.column-iterator) ≡ take (136 * m) (drop (136 * l.j) l.frame);
      degrees : DegreesFrom f.ops f.member l.n l.frame (l.j + m) l.packed;
      bound : l.packed < 256 ^ length l.yielded;
    }

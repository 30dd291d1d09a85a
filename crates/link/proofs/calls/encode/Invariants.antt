use Rattle.std.proofs.Common.{◌≡◌, ℕ, ◌<◌}
use Rattle.algebra.specs.Series.{series}
use Rattle.frames.specs.Rows.{generator_in}
use Rattle.link.specs.Blocks.{message_series, stream}
use Rattle.link.proofs.calls.encode.Given as goal

abbrev pub invariant-loop-t : goal.invariant-loop-t
invariant-loop-t g l =
    let f = g.F.Field in
    (i t : ℕ) → i < l.n → t < l.t → stream f.ops f.member l.n l.block i t ≡ (series f.ops).product (message_series f.ops f.member l.message) (generator_in f.ops f.member l.generators i) t

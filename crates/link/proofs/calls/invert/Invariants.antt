use Rattle.std.proofs.Common.{◌≡◌, ℕ, ◌-◌, ◌<◌}
use Rattle.algebra.specs.Link.{inverted}
use Rattle.framing.specs.Framing.{column_in}
use Rattle.link.specs.Blocks.{message_series, stream}
use Rattle.link.proofs.calls.invert.Given as goal

abbrev pub invariant-loop-k : goal.invariant-loop-k
invariant-loop-k g l =
    let f = g.F.Field in
    (k : ℕ) → k < l.k → message_series f.ops f.member l.message k ≡ inverted f.ops (l.framed.n - 1) (column_in f.ops f.member l.frame) (stream f.ops f.member l.framed.n l.block) k

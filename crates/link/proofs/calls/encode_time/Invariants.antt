use Rattle.std.proofs.Common.{◌≡◌, ℕ, ◌<◌}
use Rattle.algebra.specs.Series.{series}
use Rattle.frames.specs.Rows.{generator_in}
use Rattle.tables.specs.Places.{at}
use Rattle.link.proofs.calls.encode_time.Given as goal

abbrev pub invariant-loop-i : goal.invariant-loop-i
invariant-loop-i g l =
    let f = g.F.Field in
    (i : ℕ) → i < l.i → at f.ops f.member l.symbols i ≡ (series f.ops).product (at f.ops f.member l.message.symbols.now) (generator_in f.ops f.member l.generators i) l.t

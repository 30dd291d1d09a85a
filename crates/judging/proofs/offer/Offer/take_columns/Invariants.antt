use Rattle.std.proofs.Common.{◌≡◌, ℕ, ◌+◌, ◌*◌, ◌<◌}
use Rattle.tables.specs.Places.{at, Within}
use Rattle.judging.proofs.offer.Offer.take_columns.Given as goal

abbrev pub invariant-loop-j : goal.invariant-loop-j
invariant-loop-j g l =
    let f = g.F.Field in
    ((t k : ℕ) → t < l.j → k < 17 * l.self.n → at f.ops f.member l.frame (136 * t + k) ≡ at f.ops f.member l.self.offered.now (136 * t + k))
    × ((k : ℕ) → ((t : ℕ) → t < l.j → Within (136 * t) (17 * l.self.n) k → ⊥) → at f.ops f.member l.frame k ≡ at f.ops f.member l.initial.frame k)

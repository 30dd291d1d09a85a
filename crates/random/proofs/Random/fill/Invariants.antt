use Rattle.std.proofs.Common.{◌≡◌, map, take}
use Rattle.random.specs.Sequences.{later, draws}
use Rattle.random.proofs.Random.fill.Given as goal

abbrev pub invariant-loop-x : goal.invariant-loop-x
invariant-loop-x g l =
    (l.self.state ≡ later l.x-index l.initial.self.state)
    × (map (λ x. g.F.Field.number (g.F.Field.member x)) (take l.x-index l.x-items) ≡ draws g.F.Field.order l.x-index l.initial.self.state)

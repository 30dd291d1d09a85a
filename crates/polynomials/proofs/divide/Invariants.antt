use Rattle.std.proofs.Common.{◌≡◌, ℕ, ◌+◌, ◌<◌}
use Rattle.tables.specs.Places.{at}
use Rattle.polynomials.proofs.Divisions.{Divided}
use Rattle.polynomials.proofs.divide.Given as goal

abbrev pub invariant-loop-k : goal.invariant-loop-k
invariant-loop-k g l =
    let f = g.F.Field in
    record {
      divided : Divided f.ops g.met.F.Field.laws.ring l.k (at f.ops f.member l.initial.dividend) (at f.ops f.member l.divisor) (at f.ops f.member l.quotient) (at f.ops f.member l.dividend);
      unwritten : (j : ℕ) → j + l.e < l.k → at f.ops f.member l.quotient j ≡ f.ops.zero;
    }

use Rattle.tables.specs.Places.{at}
use Rattle.polynomials.proofs.Divisions.{Reduced}
use Rattle.polynomials.proofs.reduce.Given as goal

abbrev pub invariant-loop-k : goal.invariant-loop-k
invariant-loop-k g l = let f = g.F.Field in Reduced f.ops g.met.F.Field.laws.ring l.k (at f.ops f.member l.initial.dividend) (at f.ops f.member l.divisor) (at f.ops f.member l.dividend)

use Rattle.link.proofs.Turns.{Met}
use Rattle.link.proofs.products.Streams.coefficient.Given as goal

abbrev pub invariant-loop-k : goal.invariant-loop-k
invariant-loop-k g l = let f = g.F.Field in Met f.ops f.member l.self.n l.self.times l.i l.t l.last l.self.symbols.now l.polynomial l.k (f.member l.sum)

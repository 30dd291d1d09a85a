use Rattle.std.proofs.Common.{length, arith}
use Rattle.algebra.proofs.Fields.{field_of}
use Rattle.tables.specs.Places.{at}
use Rattle.tables.proofs.Slices.{at_below}
use Rattle.polynomials.proofs.Divisions.{exactly_divided}
use Rattle.polynomials.proofs.divide_exactly.Goals as goal

pub returns : goal.returns
returns g c =
    let f = g.F.Field in
    let q = c.divide.new.quotient in
    let both = exactly_divided f.ops (field_of g.met.F.Field.laws g.met.F.Field.numbered g.met.F.Field.invertible)
    (at f.ops f.member c.args.dividend.now) (at f.ops f.member c.args.divisor.now) (at f.ops f.member q) (at f.ops f.member c.divide.new.dividend) c.args.e c.requires.degree c.requires.divides
    (length q, at_below f.ops f.member q (length q) (omega arith))
    c.divide.ensures.small c.divide.ensures.division in
    record { quotient = both.0; cleared = both.1 }

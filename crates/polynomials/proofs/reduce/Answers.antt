use Rattle.std.proofs.Common.{◌≡◌, ◌+◌, ◌-◌, ◌∙◌, length, ap, arith}
use Rattle.tables.specs.Places.{at}
use Rattle.tables.proofs.Slices.{at_below}
use Rattle.polynomials.proofs.Divisions.{degree_within, reduced_none, reduced_step, reduced_all}
use Rattle.polynomials.proofs.reduce.Goals as goal

pub inverse_at-inverse-requires-clause-room : goal.inverse_at-inverse-requires-clause-room
inverse_at-inverse-requires-clause-room g c = let f = g.F.Field in degree_within f.ops g.met.F.Field.laws.ring f.member c.args.divisor.now c.args.e c.requires

pub loop-k-init : goal.loop-k-init
loop-k-init g c =
    let f = g.F.Field in
    let p = c.args.dividend.now in
    reduced_none f.ops g.met.F.Field.laws.ring (length p) (at f.ops f.member p) (at f.ops f.member c.args.divisor.now) (at_below f.ops f.member p (length p) (omega arith))

pub loop-k-preserved : goal.loop-k-preserved
loop-k-preserved g c =
    let f = g.F.Field in
    let k = c.loop-k.k - 1 in
    let place : k - c.args.e + c.args.e ≡ k = omega arith in
    reduced_step f.ops g.met.F.Field.laws.ring c.args.e c.loop-k.k k (k - c.args.e) (f.member c.cancel.result) (f.member c.inverse_at-inverse.result)
    (at f.ops f.member c.args.dividend.now) (at f.ops f.member c.args.divisor.now) (at f.ops f.member c.loop-k.dividend) (at f.ops f.member c.cancel.new.target)
    c.requires.below c.inverse_at-inverse.ensures (omega arith) (omega arith)
    (c.cancel.ensures.ratio ∙ ap (λ i. f.ops.product (f.member c.inverse_at-inverse.result) (at f.ops f.member c.loop-k.dividend i)) place)
    c.cancel.ensures.rest c.loop-k.invariant

pub returns : goal.returns
returns g c =
    let f = g.F.Field in
    reduced_all f.ops g.met.F.Field.laws.ring c.args.e c.loop-k.k (at f.ops f.member c.args.dividend.now) (at f.ops f.member c.args.divisor.now) (at f.ops f.member c.loop-k.dividend) (omega arith) c.loop-k.invariant

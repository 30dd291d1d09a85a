use Rattle.std.proofs.Common.{length-take-le, suc, ◌≡◌, ◌+◌, ℕ, sym, ap, ap₂, ◌∙◌, arith}
use Rattle.algebra.proofs.Bounds.{below_mono}
use Rattle.algebra.specs.Series.{series, shift, scale}
use Rattle.tables.specs.Places.{at}
use Rattle.tables.proofs.Places.{at_read}
use Rattle.tables.proofs.Slices.{at_cut}
use Rattle.polynomials.proofs.Divisions.{degree_within}
use Rattle.polynomials.proofs.cancel.Goals as goal

pub slice_bounds-add_multiple-end : goal.slice_bounds-add_multiple-end
slice_bounds-add_multiple-end g c =
    let f = g.F.Field in
    let within = degree_within f.ops g.met.F.Field.laws.ring f.member c.args.divisor.now c.args.e c.requires.degree in
    sym (length-take-le (c.args.e + 1) c.args.divisor.now (omega arith))

pub returns : goal.returns
returns g c =
    let f = g.F.Field in
    let t = c.args.target.now in
    let top = c.args.power + c.args.e in
    let read : at f.ops f.member t top ≡ f.member c.index-target-power.result = at_read f.ops f.member t top c.index-target-power.result (omega arith) ∙ ap f.member (sym c.index-target-power.is) in
    let whole = at_cut f.ops f.member c.args.divisor.now (c.args.e + 1) (below_mono f.ops g.met.F.Field.laws.ring (suc c.args.e) (c.args.e + 1) (at f.ops f.member c.args.divisor.now) (omega arith) c.requires.degree.below) in
    record {
      ratio = c.multiply-ratio.ensures ∙ ap (f.ops.product (f.member c.args.inverse)) (sym read);
      rest = c.add_multiple.ensures ∙ ap₂ (λ x (p : ℕ → f.Member). (series f.ops).sum (at f.ops f.member t) (shift f.ops c.args.power (scale f.ops x p))) c.negate.ensures whole;
    }

use Rattle.std.proofs.Common.{◌≡◌, ℕ, ◌+◌, sym, ap, ◌∙◌, arith}
use Rattle.algebra.specs.Series.{series, constant, shift}
use Rattle.tables.specs.Places.{at, poly_at}
use Rattle.tables.proofs.Parts.{poly_at_below}
use Rattle.tables.proofs.Places.{at_read}
use Rattle.tables.proofs.Slices.{whole_is}
use Rattle.polynomials.proofs.Divisions.{multiplied_none, multiplied_step, factor_more}
use Rattle.polynomials.proofs.multiply_into.Goals as goal

pub loop-k-init : goal.loop-k-init
loop-k-init g c =
    let f = g.F.Field in
    let left = c.args.left.now in
    multiplied_none f.ops g.met.F.Field.laws.ring (at f.ops f.member c.args.target.now) (poly_at f.ops f.member left 0 0) (at f.ops f.member c.args.right.now) (poly_at_below f.ops f.member left 0 0)

pub loop-k-preserved : goal.loop-k-preserved
loop-k-preserved g c =
    let f = g.F.Field in
    let L = g.met.F.Field.laws.ring in
    let left = c.args.left.now in
    let k = c.loop-k.k in
    let x = f.member c.index-left-k.result in
    let p = poly_at f.ops f.member left 0 in
    let read : at f.ops f.member left k ≡ x = at_read f.ops f.member left k c.index-left-k.result (omega arith) ∙ ap f.member (sym c.index-left-k.is) in
    multiplied_step f.ops L k x (at f.ops f.member c.args.target.now) (p k) (p (k + 1)) (at f.ops f.member c.args.right.now) (at f.ops f.member c.loop-k.target) (at f.ops f.member c.add_multiple.new.target)
    (factor_more f.ops L f.member left k ∙ ap (λ y. (series f.ops).sum (p k) (shift f.ops k (constant f.ops y))) read)
    c.loop-k.invariant c.add_multiple.ensures

pub returns : goal.returns
returns g c =
    let f = g.F.Field in
    let whole = whole_is f.ops f.member c.args.left.now c.loop-k.k (omega arith) in
    c.loop-k.invariant ∙ ap (λ (p : ℕ → f.Member). (series f.ops).sum (at f.ops f.member c.args.target.now) ((series f.ops).product p (at f.ops f.member c.args.right.now))) whole

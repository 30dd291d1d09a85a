use Rattle.std.proofs.Common.{◌≡◌, ◌+◌, ◌-◌, ◌∙◌, length, sym, ap, subst, arith, ℕ}
use Rattle.tables.specs.Places.{at}
use Rattle.tables.proofs.Places.{at_set_other}
use Rattle.tables.proofs.Slices.{at_below}
use Rattle.polynomials.proofs.Divisions.{degree_within, Divided, divided_none, divided_step, at_set_zero}
use Rattle.polynomials.proofs.divide.Goals as goal

pub inverse_at-inverse-requires-clause-room : goal.inverse_at-inverse-requires-clause-room
inverse_at-inverse-requires-clause-room g c = let f = g.F.Field in degree_within f.ops g.met.F.Field.laws.ring f.member c.args.divisor.now c.args.e c.requires.degree

pub loop-k-init : goal.loop-k-init
loop-k-init g c =
    let f = g.F.Field in
    let p = c.args.dividend.now in
    record {
      divided = divided_none f.ops g.met.F.Field.laws.ring (length p) (at f.ops f.member p) (at f.ops f.member c.args.divisor.now) (at f.ops f.member c.args.quotient.now) (at_below f.ops f.member p (length p) (omega arith)) c.requires.cleared;
      unwritten = λ j h. ap (λ (t : ℕ → f.Member). t j) c.requires.cleared;
    }

pub loop-k-preserved : goal.loop-k-preserved
loop-k-preserved g c =
    let f = g.F.Field in
    let L = g.met.F.Field.laws.ring in
    let k = c.loop-k.k - 1 in
    let j = k - c.args.e in
    let q = c.loop-k.quotient in
    let place : j + c.args.e ≡ k = omega arith in
    let written = at_set_zero f.ops L f.member q j c.cancel.result (omega arith) (c.loop-k.invariant.unwritten j (omega arith)) in
    record {
      divided = subst (λ (t : ℕ → f.Member). Divided f.ops L k (at f.ops f.member c.args.dividend.now) (at f.ops f.member c.args.divisor.now) t (at f.ops f.member c.cancel.new.target)) (sym written)
          (divided_step f.ops L c.args.e c.loop-k.k k j (f.member c.cancel.result) (f.member c.inverse_at-inverse.result)
          (at f.ops f.member c.args.dividend.now) (at f.ops f.member c.args.divisor.now) (at f.ops f.member q) (at f.ops f.member c.loop-k.dividend) (at f.ops f.member c.cancel.new.target)
          c.requires.degree.below c.inverse_at-inverse.ensures (omega arith) (omega arith)
          (c.cancel.ensures.ratio ∙ ap (λ i. f.ops.product (f.member c.inverse_at-inverse.result) (at f.ops f.member c.loop-k.dividend i)) place)
          c.cancel.ensures.rest c.loop-k.invariant.divided);
      unwritten = λ i h. at_set_other f.ops f.member q j i c.cancel.result (λ e. omega (arith, e, h)) ∙ c.loop-k.invariant.unwritten i (omega (arith, h));
    }

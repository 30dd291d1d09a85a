use Rattle.std.proofs.Common.{◌≡◌, ◌<◌, ℕ, length, take, length-take-le, sym, ◌∙◌, subst, arith}
use Rattle.algebra.specs.Series.{Degree}
use Rattle.tables.specs.Places.{at}
use Rattle.tables.proofs.Slices.{at_below, at_cut}
use Rattle.frames.proofs.Steps.{same_common_trans, gcd_at_end}
use Rattle.frames.proofs.euclid.euclid.Goals as goal

pub loop-e-init : goal.loop-e-init
loop-e-init g c =
    let f = g.F.Field in
    let left = c.args.left.now in
    let right = c.args.right.now in
    record {
      common = λ h. (λ d. d, λ d. d);
      upper = at_below f.ops f.member left (length left) (omega arith);
      lower = at_below f.ops f.member right (length right) (omega arith);
      left_room = omega arith;
      right_room = omega arith;
    }

pub euclid_step-requires-clause-degree : goal.euclid_step-requires-clause-degree
euclid_step-requires-clause-degree g c =
    let f = g.F.Field in
    let now = c.loop-e.right in
    subst (λ (p : ℕ → f.Member). Degree f.ops p c.in-Some.e) (at_cut f.ops f.member now c.loop-e.lower c.loop-e.invariant.lower) c.in-Some.ensures.1

pub loop-e-preserved : goal.loop-e-preserved
loop-e-preserved g c =
    let f = g.F.Field in
    let size : length (take c.loop-e.lower c.loop-e.right) ≡ c.loop-e.lower = length-take-le c.loop-e.lower c.loop-e.right c.loop-e.invariant.right_room in
    let within : c.in-Some.e < length (take c.loop-e.lower c.loop-e.right) = c.in-Some.ensures.0 in
    let start : ℕ → f.Member = at f.ops f.member c.args.left.now in
    record {
      common = same_common_trans f.ops start (at f.ops f.member c.args.right.now)
          (at f.ops f.member c.loop-e.left) (at f.ops f.member c.loop-e.right)
          (at f.ops f.member c.euclid_step.new.left) (at f.ops f.member c.euclid_step.new.right)
          c.loop-e.invariant.common c.euclid_step.ensures.divisors;
      upper = c.euclid_step.ensures.upper;
      lower = c.euclid_step.ensures.lower;
      left_room = omega arith;
      right_room = omega arith;
    }

pub returns : goal.returns
returns g c =
    let f = g.F.Field in
    let now = c.loop-e.right in
    let zero = sym (at_cut f.ops f.member now c.loop-e.lower c.loop-e.invariant.lower) ∙ c.in_default.ensures in
    record {
      divisors = gcd_at_end f.ops g.met.F.Field.laws.ring (at f.ops f.member c.args.left.now) (at f.ops f.member c.args.right.now)
          (at f.ops f.member c.loop-e.left) (at f.ops f.member now) zero c.loop-e.invariant.common;
      cleared = zero;
    }

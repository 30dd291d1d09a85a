use Rattle.std.proofs.Common.{◌≡◌, length, ◌∙◌, subst, length-take-le, arith, ℕ}
use Rattle.algebra.proofs.Fields.{field_of}
use Rattle.tables.specs.Places.{at}
use Rattle.tables.proofs.Slices.{at_cut, put_front}
use Rattle.polynomials.specs.Polynomials.{LeavesRemainder}
use Rattle.frames.proofs.Steps.{euclid_turn}
use Rattle.frames.proofs.euclid.euclid_step.Goals as goal

pub returns : goal.returns
returns g c =
    let f = g.F.Field in
    let left = c.args.left.now in
    let right = c.args.right.now in
    let rest = c.reduce.new.dividend in
    let size : length rest ≡ c.args.bound = c.reduce.auto.dividend ∙ length-take-le c.args.bound left (omega arith) in
    let all = euclid_turn f.ops (field_of g.met.F.Field.laws g.met.F.Field.numbered g.met.F.Field.invertible) c.args.e
    (at f.ops f.member left) (at f.ops f.member right) (at f.ops f.member rest) (at f.ops f.member c.swap.new.left) (at f.ops f.member c.swap.new.right)
    c.requires.degree
    (subst (λ (p : ℕ → f.Member). LeavesRemainder f.ops c.args.e p (at f.ops f.member right) (at f.ops f.member rest)) (at_cut f.ops f.member left c.args.bound c.requires.below) c.reduce.ensures)
    c.swap.ensures.first
    (c.swap.ensures.second ∙ put_front f.ops f.member left rest c.args.bound size c.requires.below) in
    record { divisors = all.0; upper = all.1; lower = all.2 }

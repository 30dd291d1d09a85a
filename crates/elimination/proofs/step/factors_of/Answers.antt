use Rattle.std.proofs.Common.{◌≡◌, ◌+◌, ◌-◌, ◌*◌, take, drop, ap, ◌∙◌, arith}
use Rattle.tables.specs.Places.{at}
use Rattle.elimination.proofs.Tables.{at_part}
use Rattle.elimination.proofs.step.factors_of.Goals as goal

pub returns-clause-value : goal.returns-clause-value
returns-clause-value g c =
    let f = g.F.Field in
    let base = c.args.rows * c.args.t in
    let size : base + c.args.rows - base ≡ c.args.rows = omega arith in
    ap (λ n. at f.ops f.member (take n (drop base c.args.steps.now))) size ∙ at_part f.ops f.member base c.args.rows c.args.steps.now

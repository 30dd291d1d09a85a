use Rattle.std.proofs.Common.{ℕ, ◌-◌, sym, subst, subst₂, rules}
use Rattle.algebra.proofs.Fields.{field_of}
use Rattle.algebra.proofs.OptimalFrames.{frame_optimal}
use Rattle.frames.specs.Rows.{generator_in}
use Rattle.framing.specs.Framing.{HoldsFrame, divisor_in, column_in}
use Rattle.design.proofs.draft.Draft.frame.Goals as goal

pub returns-clause-granted : goal.returns-clause-granted
returns-clause-granted g c =
    let f = g.F.Field in
    let field = field_of g.met.F.Field.laws g.met.F.Field.numbered g.met.F.Field.invertible in
    let numbers = c.of-2.ensures in
    let generators = c.args.generators.now in
    let frame = c.frame_row.new.frame in
    let n = c.args.self.n in
    let found = c.in-Some.numbers in
    let counted = subst (λ (k : ℕ). HoldsFrame f.ops f.member k generators frame found.degree found.divisor found.columns) c.count.ensures c.in-Some.ensures.answer in
    let degree = subst (λ (d : ℕ). HoldsFrame f.ops f.member n generators frame d found.divisor found.columns) (sym numbers.1.0) counted in
    let holds = subst₂ (λ (e p : ℕ). HoldsFrame f.ops f.member n generators frame c.of-2.result.degree e p) (sym numbers.1.1.0) (sym numbers.1.1.1) degree in
    record {
      asked = search rules;
      same_count = numbers.0;
      holds = holds;
      optimal = frame_optimal f.ops field (n - 1) (generator_in f.ops f.member generators) (divisor_in f.ops f.member frame) c.of-2.result.degree (column_in f.ops f.member frame) holds.is_frame;
      cleared = c.in-Some.ensures.cleared;
    }

use Rattle.std.proofs.Common.{ℕ, ◌-◌, sym, ◌∙◌, subst, subst₂, rules}
use Rattle.frames.specs.Rows.{generator_in}
use Rattle.framing.specs.Framing.{column_in}
use Rattle.judging.specs.Offers.{Objects, OptimalFor, HoldsOffer}
use Rattle.design.specs.Offers.{by_objection}
use Rattle.design.proofs.draft.Draft.offer.Goals as goal

pub returns-in-Err-clause-refused : goal.returns-in-Err-clause-refused
returns-in-Err-clause-refused g c =
    let f = g.F.Field in
    let row = generator_in f.ops f.member c.args.generators.now in
    let columns = column_in f.ops f.member c.args.offered.now in
    let said = c.in-Err.ensures in
    let handed = c.of-in-Err.ensures in
    let objects = subst (λ (k : ℕ). Objects f.ops k (k - 1) row columns c.in-Err.objection) c.count.ensures said.answer.0 in
    (by_objection (search rules) c.in-Err.objection (handed.1 ∙ c.from.ensures) objects said.cleared, handed.0, said.answer.1)

pub returns-in-Err-clause-exact : goal.returns-in-Err-clause-exact
returns-in-Err-clause-exact g c =
    let f = g.F.Field in
    λ asked. subst (λ (k : ℕ). OptimalFor f.ops (k - 1) (generator_in f.ops f.member c.args.generators.now) (column_in f.ops f.member c.args.offered.now) → ⊥) c.count.ensures c.in-Err.ensures.exact

pub returns-in-Ok-clause-granted : goal.returns-in-Ok-clause-granted
returns-in-Ok-clause-granted g c =
    let f = g.F.Field in
    let numbers = c.of-in-Ok.ensures in
    let generators = c.args.generators.now in
    let offered = c.args.offered.now in
    let frame = c.offer_row.new.frame in
    let n = c.args.self.n in
    let said = c.in-Ok.ensures in
    let found = c.in-Ok.numbers in
    let counted = subst (λ (k : ℕ). HoldsOffer f.ops f.member k generators offered frame found.degree found.divisor found.columns) c.count.ensures said.answer in
    let degree = subst (λ (d : ℕ). HoldsOffer f.ops f.member n generators offered frame d found.divisor found.columns) (sym numbers.1.0) counted in
    let holds = subst₂ (λ (e p : ℕ). HoldsOffer f.ops f.member n generators offered frame c.of-in-Ok.result.degree e p) (sym numbers.1.1.0) (sym numbers.1.1.1) degree in
    record {
      asked = search rules;
      same_count = numbers.0;
      holds = holds;
      stands = record {
        optimal = holds.optimal;
        row = holds.row_of.row;
        divided = holds.row_of.divided;
        row_degree = holds.row_of.degree;
        divisor_degree = holds.divisor_degree;
        column_degrees = holds.column_degrees;
      };
      cleared = said.cleared;
    }

pub returns-in-Ok-clause-exact : goal.returns-in-Ok-clause-exact
returns-in-Ok-clause-exact g c =
    let f = g.F.Field in
    λ asked. subst (λ (k : ℕ). OptimalFor f.ops (k - 1) (generator_in f.ops f.member c.args.generators.now) (column_in f.ops f.member c.args.offered.now)) c.count.ensures c.in-Ok.ensures.exact

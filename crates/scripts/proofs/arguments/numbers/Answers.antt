use Rattle.std.proofs.Common.{◌≡◌, ℕ, List, ◌∷◌, vec_items, sym, subst, rules}
use Rattle.std.proofs.lemmas.Option.{MatchOption-at_some, MatchOption-at_none}
use Rattle.scripts.specs.Meaning.{Numbers}
use Rattle.scripts.specs.Numbers.{Number}
use Rattle.scripts.proofs.Each.{Sofar, sofar_more, sofar_stuck}
use Rattle.scripts.proofs.Following.{fails_never, refused}
use Rattle.scripts.proofs.arguments.numbers.Goals as goal

pub returns-in_err-n : goal.returns-in_err-n
returns-in_err-n g c =
    let whole = g.P.Parts.parts c.args.parts in
    let step : g.P.Parts.parts c.loop-part.part-iterator ≡ c.in-Some.part.now ∷ g.P.Parts.parts c.next.new.self = search rules in
    refused (λ v. Numbers whole (vec_items v)) ((ns : List ℕ) × Numbers whole ns) c.from_residual.result _ ⊥ c.from_residual.ensures.1 (fails_never _) (λ _ m. sofar_stuck Number whole (g.P.Parts.parts c.loop-part.part-iterator) (vec_items c.loop-part.out) c.in-Some.part.now (g.P.Parts.parts c.next.new.self) c.loop-part.invariant.sofar step (λ n h. MatchOption-at_none _ _ c.in_err-n.ensures.ok_part c.number.ensures h.0) m.0 m.1)

pub loop-part-preserved : goal.loop-part-preserved
loop-part-preserved g c =
    let whole = g.P.Parts.parts c.args.parts in
    let left = g.P.Parts.parts c.next.new.self in
    let step : g.P.Parts.parts c.loop-part.part-iterator ≡ c.in-Some.part.now ∷ g.P.Parts.parts c.next.new.self = search rules in
    record {
      may = search rules;
      ends = search rules;
      sofar = subst (λ (l : List ℕ). Sofar Number whole left l) (sym c.in_ok-push.ensures.items)
          (sofar_more Number whole (g.P.Parts.parts c.loop-part.part-iterator) (vec_items c.loop-part.out) c.in-Some.part.now left c.in_ok-n.n c.loop-part.invariant.sofar step (MatchOption-at_some _ _ c.in_ok-n.n c.in_ok-n.ensures.ok_part c.number.ensures));
    }

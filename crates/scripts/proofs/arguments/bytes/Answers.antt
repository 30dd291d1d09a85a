use Rattle.std.proofs.Common.{ℕ, List, vec_items, sym, subst}
use Rattle.std.proofs.lemmas.Option.{MatchOption-at_some, MatchOption-at_none}
use Rattle.scripts.specs.Meaning.{Bytes}
use Rattle.scripts.specs.Numbers.{Byte}
use Rattle.scripts.specs.Words.{words, words_left}
use Rattle.scripts.proofs.Each.{Sofar, sofar_more, sofar_stuck}
use Rattle.scripts.proofs.Following.{fails_never, refused}
use Rattle.scripts.proofs.arguments.bytes.Goals as goal

pub returns-in_err-b : goal.returns-in_err-b
returns-in_err-b c =
    let whole = words c.args.text.now in
    refused (λ v. Bytes whole (vec_items v)) ((ns : List ℕ) × Bytes whole ns) c.from_residual.result _ ⊥ c.from_residual.ensures.1 (fails_never _) (λ _ m. sofar_stuck Byte whole (words_left c.loop-word.word-iterator) (vec_items c.loop-word.out) c.in-Some.word.now (words_left c.next.new.self) c.loop-word.invariant c.in-Some.ensures.steps (λ n h. MatchOption-at_none _ _ c.in_err-b.ensures.ok_part c.byte.ensures n h) m.0 m.1)

pub loop-word-preserved : goal.loop-word-preserved
loop-word-preserved c =
    let whole = words c.args.text.now in
    let left = words_left c.next.new.self in
    subst (λ (l : List ℕ). Sofar Byte whole left l) (sym c.in_ok-push.ensures.items)
    (sofar_more Byte whole (words_left c.loop-word.word-iterator) (vec_items c.loop-word.out) c.in-Some.word.now left c.in_ok-b.b c.loop-word.invariant c.in-Some.ensures.steps (MatchOption-at_some _ _ c.in_ok-b.b c.in_ok-b.ensures.ok_part c.byte.ensures))

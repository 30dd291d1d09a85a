use Rattle.std.proofs.Common.{◌≡◌, ℕ, ◌<◌, ◌∷◌, length, drop, get_or, true, ap, sym, ◌∙◌, rules}
use Rattle.scripts.specs.declared.words.Mark.TheVariants.{Blank}
use Rattle.scripts.specs.Words.{marks, words}
use Rattle.scripts.proofs.Pieces.{words_after, words_none}
use Rattle.scripts.proofs.words.first_word.Goals as goal

pub returns-in_err-start-clause-words : goal.returns-in_err-start-clause-words
returns-in_err-start-clause-words c =
    let text = c.args.text.now in
    let all : (k : ℕ) → k < length text → marks Blank (get_or text k 0) ≡ true = search rules in
    rw c.from_residual.ensures (words_none text all)

pub returns-clause-words : goal.returns-clause-words
returns-clause-words c =
    let text = c.args.text.now in
    let start = c.in_ok-start.start in
    let left = c.split_at.result.1.now in
    let all : (k : ℕ) → k < start → marks Blank (get_or text k 0) ≡ true = search rules in
    words_after start text (search rules) all ∙ ap words (sym c.split_at.ensures.back) ∙ c.word_length.ensures.word
    ∙ ap (λ w. w ∷ words (drop c.word_length.result left)) (sym c.split_at-2.ensures.front)
    ∙ ap (λ l. c.split_at-2.result.0.now ∷ words l) (sym c.split_at-2.ensures.back)

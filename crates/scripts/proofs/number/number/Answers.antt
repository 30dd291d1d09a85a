use Rattle.std.proofs.Common.{◌≡◌, ℕ, ◌+◌, ◌-◌, ◌*◌, ◌^◌, ◌<◌, min, length, take, ap, sym, ◌∙◌, arith}
use Rattle.std.proofs.lemmas.Int.Digits.{digits_value_more, digits_more}
use Rattle.std.proofs.lemmas.Str.Parse.{digit_at}
use Rattle.std.specs.Char.{digit_value}
use Rattle.std.specs.Str.Parse.{digits_value}
use Rattle.scripts.proofs.number.number.Goals as goal

-- one more digit
saturates : (v d n r s : ℕ) → n ≡ min v (2 ^ 32 - 1) → r ≡ min (n * 10) (2 ^ 32 - 1) → s ≡ min (r + d) (2 ^ 32 - 1) → s ≡ min (v * 10 + d) (2 ^ 32 - 1)
saturates v d n r s a b c = omega (arith, a, b, c)

pub returns-in_err-digit : goal.returns-in_err-digit
returns-in_err-digit c = rw c.from_residual.ensures (λ w. let range = digit_at c.args.word.now c.loop-b.b-index w.1 (omega arith) in omega (arith, range, c.in_err-digit.ensures.cases))

pub loop-b-preserved : goal.loop-b-preserved
loop-b-preserved c =
    let word = c.args.word.now in
    let i = c.loop-b.b-index in
    let in_range : i < length word = omega arith in
    let told = c.in_ok-digit.ensures.value in
    let step : digits_value 10 (take (i + 1) word) ≡ digits_value 10 (take i word) * 10 + c.in_ok-digit.digit = digits_value_more 10 word i in_range ∙ ap (λ d. digits_value 10 (take i word) * 10 + d) (sym (told.1 ∙ ap digit_value c.from.ensures)) in
    (digits_more 10 word i in_range c.loop-b.invariant.0 (rw (← c.from.ensures) told.0), rw step (saturates _ _ _ _ _ c.loop-b.invariant.1 c.saturating_mul.ensures c.saturating_add-n.ensures))

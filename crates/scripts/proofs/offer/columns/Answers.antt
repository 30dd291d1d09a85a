use Rattle.std.proofs.Common.{◌≡◌, ℕ, ◌<◌, rules, List, [], length, vec_items, Vec, sym, refl, ap, ◌∙◌, subst, arith}
use Rattle.std.specs.declared.alloc.Global.{Global}
use Rattle.scripts.specs.Meaning.{Polynomial, Columns, bar}
use Rattle.scripts.specs.Words.{words, words_left, pieces}
use Rattle.scripts.proofs.Bars.{Column, Reading, reading_none, reading_word, reading_close, reading_next, pieces_bar, empty_refuted, word_refuted}
use Rattle.scripts.proofs.Each.{sofar_all}
use Rattle.scripts.proofs.Following.{refused}
use Rattle.scripts.proofs.offer.columns.Goals as goal

abbrev Component_vec : Type 0
Component_vec = Vec ℕ Global

abbrev Column_vec : Type 0
Column_vec = Vec (Vec ℕ Global) Global

-- a start, and two equal lists of what was read
moved : {whole left : List (List ℕ)} {cs ds : List Column_vec} {ps qs : List Component_vec} → cs ≡ ds → ps ≡ qs → Reading whole left ds qs → Reading whole left cs ps
moved {whole = whole} {left = left} {cs = cs} {qs = qs} e f r =
    subst (λ (l : List Component_vec). Reading whole left cs l) (sym f) (subst (λ (l : List Column_vec). Reading whole left l qs) (sym e) r)

is_none : (n : ℕ) → ((0 < n) → ⊥) → n ≡ 0
is_none n never = omega arith

pub loop-word-init : goal.loop-word-init
loop-word-init c =
    let whole = words c.args.text.now in
    let start : words_left c.into_iter-word-iterator.result ≡ whole = search rules in
    moved c.new-read.ensures.items c.new-column.ensures.items (rw start (reading_none whole))

pub returns-in_err-close : goal.returns-in_err-close
returns-in_err-close c =
    let whole = words c.args.text.now in
    let w = c.in-Some.word.now in
    let rest = words_left c.next.new.self in
    let left = words_left c.loop-word.word-iterator in
    refused (λ v. Columns whole (vec_items v)) ((cs : List Column_vec) × Columns whole cs) c.from_residual.result _ (0 < length (vec_items c.loop-word.column)) c.from_residual.ensures.1 c.in_err-close.ensures
    (λ never m. empty_refuted whole left _ _ c.loop-word.invariant (pieces bar rest) (pieces_bar left w rest c.in-Some.ensures.steps (sym c.is_bar.ensures ∙ c.if-is_bar.true)) (is_none _ never) m.0 m.1)

pub loop-word-preserved-then-is_bar : goal.loop-word-preserved-then-is_bar
loop-word-preserved-then-is_bar c =
    let w = c.in-Some.word.now in
    let rest = words_left c.next.new.self in
    let left = words_left c.loop-word.word-iterator in
    moved c.in_ok-close.ensures.1 c.new-column-then-is_bar.ensures.items
    (reading_next (words c.args.text.now) rest _ (reading_close (words c.args.text.now) left _ c.loop-word.column (pieces bar rest) c.loop-word.invariant (pieces_bar left w rest c.in-Some.ensures.steps (sym c.is_bar.ensures ∙ c.if-is_bar.true)) c.in_ok-close.ensures.0))

pub returns-in_err-component : goal.returns-in_err-component
returns-in_err-component c =
    let whole = words c.args.text.now in
    let w = c.in-Some.word.now in
    let rest = words_left c.next.new.self in
    let left = words_left c.loop-word.word-iterator in
    refused (λ v. Columns whole (vec_items v)) ((cs : List Column_vec) × Columns whole cs) c.from_residual-in_err-component.result _ ((ns : List ℕ) × Polynomial w ns) c.from_residual-in_err-component.ensures.1 c.in_err-component.ensures
    (λ never m. word_refuted whole left _ _ c.loop-word.invariant w rest c.in-Some.ensures.steps (sym c.is_bar.ensures ∙ c.if-is_bar.false) (λ ns h. never (ns, h)) m.0 m.1)

pub loop-word-preserved : goal.loop-word-preserved
loop-word-preserved c =
    let w = c.in-Some.word.now in
    let rest = words_left c.next.new.self in
    let left = words_left c.loop-word.word-iterator in
    moved refl c.in_ok-push.ensures.items
    (reading_word (words c.args.text.now) left _ _ w rest c.in_ok-component.component c.loop-word.invariant c.in-Some.ensures.steps (sym c.is_bar.ensures ∙ c.if-is_bar.false) c.in_ok-component.ensures)

pub returns-in_err-close-2 : goal.returns-in_err-close-2
returns-in_err-close-2 c =
    let whole = words c.args.text.now in
    refused (λ v. Columns whole (vec_items v)) ((cs : List Column_vec) × Columns whole cs) c.from_residual-in_err-close-2.result _ (0 < length (vec_items c.loop-word.column)) c.from_residual-in_err-close-2.ensures.1 c.in_err-close-2.ensures
    (λ never m. empty_refuted whole (words_left c.loop-word.word-iterator) _ _ c.loop-word.invariant [] (ap (pieces bar) c.in-None.ensures.steps.0) (is_none _ never) m.0 m.1)

pub returns : goal.returns
returns c =
    let whole = words c.args.text.now in
    subst (λ (l : List Column_vec). Columns whole l) (sym c.in_ok-close-2.ensures.1)
    (sofar_all Column (pieces bar whole) [] _ (reading_close whole (words_left c.loop-word.word-iterator) _ c.loop-word.column [] c.loop-word.invariant (ap (pieces bar) c.in-None.ensures.steps.0) c.in_ok-close-2.ensures.0) refl)

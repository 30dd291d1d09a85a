-- A row of a table, written on its own and put back. Assumes nothing.
use Rattle.std.proofs.Common.{◌≡◌, ℕ, ◌+◌, ◌*◌, ◌<◌, ◌≤◌, List, length, sym, refl, ap, ◌∙◌, arith}
use borrow.Rule.Slice.PartMut.{put_mid}
use Rattle.algebra.specs.Rings.{RingOps}
use Rattle.tables.specs.Places.{at}
use Rattle.tables.proofs.Parts.{poly_at_in}
use Rattle.tables.proofs.Slices.{put_part, kept_put}
use Rattle.cards.specs.Reading.{Entered}

-- one chain, entered into a row that is put back in its table
pub entered_row : {F R : Type 0} (o : RingOps R) (member : F → R) (number : R → ℕ) (order : ℕ) (card : List ℕ) (floor place i : ℕ) (table row row' : List F)
    → 17 * i + 17 ≤ length table → length row' ≡ 17 → Entered o member number order card floor place 0 row row' → Entered o member number order card floor place i table (put_mid (17 * i) 17 table row')
entered_row {R = R} o member number order card floor place i table row row' l e one =
    record {
      terms = one.terms;
      chain = one.chain;
      row = λ k h. ap number (here k h) ∙ (let z : k ≡ 17 * 0 + k = omega arith in ap (λ (p : ℕ). number (at o member row' p)) z) ∙ one.row k h;
      others = λ j k h ne. kept_put o member (17 * i) 17 table row' l e 17 refl (17 * j + k) (λ within. ne (omega (arith, within)));
    }
  where
    here : (k : ℕ) → k < 17 → at o member (put_mid (17 * i) 17 table row') (17 * i + k) ≡ at o member row' k
    here k h =
        sym (poly_at_in o member (put_mid (17 * i) 17 table row') (17 * i) 17 k h)
        ∙ ap (λ (f : ℕ → R). f k) (put_part o member (17 * i) 17 table row' l e 17 refl)

-- One more column: what its reduced form says of it, and the steps after it.
use Rattle.std.proofs.Common.{◌≡◌, ℕ, suc, ◌*◌, ◌<◌, ◌≤◌, List, length, set, sym, ap, ◌∙◌, subst, arith, get_or-set_other, get_or-set_same}
use Rattle.algebra.specs.Rings.{RingOps, FieldLaws}
use Rattle.algebra.specs.Series.{total}
use Rattle.algebra.specs.Independence.{All, Spanned}
use Rattle.tables.specs.Places.{at}
use Rattle.tables.proofs.Places.{at_past}
use Rattle.elimination.specs.Steps.{write, reduced, column_at, entry_at, AreSteps, Reduces, IsPivot, IsSum}
use Rattle.elimination.proofs.Tables.{columns_same}
use Rattle.elimination.proofs.Relations as Relations

module _ {F M : Type 0} (o : RingOps M) (m : F → M) (L : FieldLaws o) (rows rank : ℕ) (steps : List F) (pivots : List ℕ) (column now : List F) (long : length column ≡ rows) (is : at o m now ≡ reduced o (column_at o m rows steps) (entry_at pivots) rank (at o m column)) where
  behind : (r : ℕ) → rows ≤ r → at o m column r ≡ o.zero
  behind r h = at_past o m column r (omega arith)

  pub taken_sum : AreSteps o rows rank (column_at o m rows steps) (entry_at pivots) → ((r : ℕ) → rank ≤ r → at o m now r ≡ o.zero) → (V : ℕ → ℕ → M) → Reduces o rows rank (column_at o m rows steps) (entry_at pivots) V → IsSum o rows rank V (at o m column) (at o m now)
  taken_sum s z V turns = record {
    is = subst (λ u. (r : ℕ) → r < rows → at o m column r ≡ total o rank (λ t. o.product (u t) (V t r))) (sym is)
        (Relations.judged_sum o L.ring rows rank (column_at o m rows steps) (entry_at pivots) V turns s (at o m column) (λ r h. ap (λ f. f r) (sym is) ∙ z r h));
    zeros = z;
  }

  module _ (q : ℕ) (x : F) (pivot : IsPivot o rows rank (at o m now) q (m x)) where
    pub taken_pivotal : (V : ℕ → ℕ → M) → Reduces o rows rank (column_at o m rows steps) (entry_at pivots) V → Spanned o All rank rows V (at o m column) → ⊥
    taken_pivotal V turns = Relations.judged_pivotal o L.ring rows rank (column_at o m rows steps) (entry_at pivots) V turns L.zero_not_one (at o m column) behind q (m x) (subst (λ u. IsPivot o rows rank u q (m x)) is pivot)

    module _ (after : List F) (here : column_at o m rows after rank ≡ write q (m x) (at o m now)) (others : (k : ℕ) → k < rows * rank → at o m after k ≡ at o m steps k) (room : rank < length pivots) where
      row_new : entry_at (set pivots rank q) rank ≡ q
      row_new = get_or-set_same pivots rank q 0 room

      row_old : (t : ℕ) → t < rank → entry_at (set pivots rank q) t ≡ entry_at pivots t
      row_old t h = get_or-set_other pivots rank t q 0 (λ e. omega arith)

      pub taken_steps : AreSteps o rows rank (column_at o m rows steps) (entry_at pivots) → AreSteps o rows (suc rank) (column_at o m rows after) (entry_at (set pivots rank q))
      taken_steps = Relations.steps_more o L.ring rows rank (column_at o m rows steps) (column_at o m rows after) (entry_at pivots) (entry_at (set pivots rank q)) (columns_same o m rows rank steps after others) row_old (at o m now) (m x)
          (subst (λ k. IsPivot o rows rank (at o m now) k (m x)) (sym row_new) pivot) (here ∙ ap (λ k. write k (m x) (at o m now)) (sym row_new))

      pub taken_reduces : (V : ℕ → ℕ → M) → Reduces o rows rank (column_at o m rows steps) (entry_at pivots) V → Reduces o rows (suc rank) (column_at o m rows after) (entry_at (set pivots rank q)) (write rank (at o m column) V)
      taken_reduces V turns = Relations.reduces_more o L.ring rows rank (column_at o m rows steps) (column_at o m rows after) (entry_at pivots) (entry_at (set pivots rank q)) (columns_same o m rows rank steps after others) row_old (at o m now) (m x)
          (subst (λ k. IsPivot o rows rank (at o m now) k (m x)) (sym row_new) pivot) (here ∙ ap (λ k. write k (m x) (at o m now)) (sym row_new)) V turns (at o m column) behind (sym is)

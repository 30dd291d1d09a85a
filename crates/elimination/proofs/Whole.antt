-- A whole matrix, column by column.
use Rattle.std.proofs.Common.{◌≡◌, ℕ, suc, ◌+◌, ◌*◌, ◌<◌, ◌≤◌, Bool, true, false, List, length, set, ap, ◌∙◌, mul-suc, add-one, arith}
use Rattle.algebra.specs.Rings.{RingOps, RingLaws}
use Rattle.tables.specs.Places.{at, Kept}
use Rattle.elimination.specs.Steps.{column_at, entry_at, rank_after}
use Rattle.elimination.specs.Echelon.{Relations, Eliminated, TakesNext, places_after}
use Rattle.elimination.proofs.Tables.{front_ext, columns_same}
use Rattle.elimination.proofs.Echelons as E
use Rattle.elimination.proofs.Next.{place_new, place_old}

-- after q columns of the matrix start
pub record Progress {F M : Type 0} (o : RingOps M) (m : F → M) (rows : ℕ) (start : List F) (q rank : ℕ) (steps : List F) (pivots places : List ℕ) (matrix : List F) : Type 0 where
  pub eliminated : Eliminated o rows (column_at o m rows start) q rank (column_at o m rows steps) (entry_at pivots) (entry_at places)
  pub relations : Relations o rows (column_at o m rows start) (column_at o m rows matrix) q rank (entry_at places)
  pub left : (k : ℕ) → rows * q ≤ k → at o m matrix k ≡ at o m start k

module _ {F M : Type 0} (o : RingOps M) (m : F → M) (L : RingLaws o) (rows : ℕ) (start : List F) where
  abbrev W : ℕ → ℕ → M
  W = column_at o m rows start

  module _ (q rank : ℕ) (steps : List F) (pivots places : List ℕ) (matrix : List F) (X : Progress o m rows start q rank steps pivots places matrix)
      (after : List F) (rows_after : List ℕ) (now : List F) (others : Kept o m (rows * q) rows matrix now) where
    -- column q is as at the start
    column_new : (r : ℕ) → r < rows → column_at o m rows matrix q r ≡ W q r
    column_new r l = ap (λ c. c r) (front_ext o rows (λ r. at o m matrix (rows * q + r)) (λ r. at o m start (rows * q + r)) (λ r l. X.left (rows * q + r) (omega arith)))

    columns_old : (j : ℕ) → j < q → column_at o m rows now j ≡ column_at o m rows matrix j
    columns_old = columns_same o m rows q matrix now (λ k h. others k (λ w. omega arith))

    left_more : (k : ℕ) → rows * suc q ≤ k → at o m now k ≡ at o m start k
    left_more k h = let l : rows * q + rows ≤ k = omega (arith, mul-suc rows q) in others k (λ w. omega arith) ∙ X.left k (omega arith)

    pub progress_more : (pivotal : Bool) → rank_after rank pivotal ≤ rows → rows ≤ length places → TakesNext o rows q rank (column_at o m rows steps) (entry_at pivots) places (column_at o m rows matrix q) (column_at o m rows after) (entry_at rows_after) (column_at o m rows now q) pivotal → Progress o m rows start (q + 1) (rank_after rank pivotal) after rows_after (places_after rank q places pivotal) now
    progress_more true bound room T = rw (add-one q) (record {
      eliminated = T.eliminated W column_new X.eliminated;
      relations = E.relations_pivotal o L rows W (column_at o m rows matrix) (column_at o m rows now) q rank (entry_at places) X.eliminated.echelon columns_old X.relations (entry_at (set places rank q)) (place_old rank q places) (place_new rank q places (omega arith));
      left = left_more;
    })
    progress_more false bound room T = rw (add-one q) (record {
      eliminated = T.eliminated W column_new X.eliminated;
      relations = E.relations_spanned o L rows W (column_at o m rows matrix) (column_at o m rows now) q rank (entry_at places) X.eliminated.echelon columns_old X.relations (T.judged W column_new X.eliminated);
      left = left_more;
    })

-- Columns taken one after the other. Main results: eliminated_none, eliminated_pivotal, eliminated_spanned, eliminated_skipped (what is
-- known after no column, and after one column more that is pivotal, is not, or is known not to be), sum_of_column, place_or_none,
-- relations_pivotal, relations_spanned.
use Rattle.std.proofs.Common.{◌≡◌, ℕ, zero, suc, ◌<◌, ◌≤◌, true, false, ◌⊎◌, sym, ap, ◌∙◌, subst, ap₂, inl, inr, suc-le-suc, zero-le, le_refl, not-suc-le-zero, arith}
use native.Mathlib.Decide.{ℕ_discrete, dec_lt}
use Rattle.algebra.specs.Rings.{RingOps, RingLaws}
use Rattle.algebra.specs.Series.{total}
use Rattle.algebra.specs.Independence.{All, Spanned, Independent}
use Rattle.algebra.proofs.Sums as Sums
use Rattle.algebra.proofs.Spans as Spans
use Rattle.algebra.proofs.Rows as Rows
use Rattle.elimination.specs.Steps.{write, Takes, IsSum}
use Rattle.elimination.specs.Echelon.{NoPlace, Echelon, Relations, Eliminated}
use Rattle.elimination.proofs.StepMaps.{write_same, write_other}
use Rattle.elimination.proofs.Relations as R

-- whether j is one of the places
pub place_or_none : (rank : ℕ) (place : ℕ → ℕ) (j : ℕ) → ((t : ℕ) × (t < rank) × (place t ≡ j)) ⊎ NoPlace rank place j
place_or_none zero place j = inr (λ t h. absurd (not-suc-le-zero h))
place_or_none (suc rank) place j = go (ℕ_discrete (place rank) j) (place_or_none rank place j)
  where
    go : Dec (place rank ≡ j) → ((t : ℕ) × (t < rank) × (place t ≡ j)) ⊎ NoPlace rank place j → ((t : ℕ) × (t < suc rank) × (place t ≡ j)) ⊎ NoPlace (suc rank) place j
    go (yes e) r = inl (rank, le_refl (suc rank), e)
    go (no n) (inl (t, h, e)) = inl (t, omega arith, e)
    go (no n) (inr off) = inr (λ t h e. elim (ℕ_discrete t rank) [ yes d ↦ n (ap place (sym d) ∙ e) | no k ↦ off t (omega arith) e ])

module _ {M : Type 0} (o : RingOps M) (L : RingLaws o) where
  open o use {zero as O, one as I, sum as ◌+◌, negative as -◌, product as ◌·◌}

  infixl 60 ◌+◌
  infixl 70 ◌·◌
  infix 80 -◌
  -- each of the vectors is a sum of multiples of them
  pub span_member : (t w : ℕ) (v : ℕ → ℕ → M) (j : ℕ) → j < t → Spanned o All t w v (v j)
  span_member t w v j h = record {
    factor = Rows.slot j I (λ i. O);
    inside = λ i l. tt;
    is = λ k l. sym (Spans.total_slot o L t j I (λ i. v i k) h ∙ Sums.one_product o L (v j k));
  }

  span_more : (t w : ℕ) (u : ℕ → ℕ → M) (x : M) (y z : ℕ → M) → Spanned o All t w u y → Spanned o All t w u z → Spanned o All t w u (λ k. x · y k + z k)
  span_more t w u x y z p q = record {
    factor = λ j. x · p.factor j + q.factor j;
    inside = λ j l. tt;
    is = λ k l.
        ap₂ ◌+◌ (ap (λ s. x · s) (p.is k l) ∙ sym (Sums.total_scale o L t x (λ j. p.factor j · u j k))) (q.is k l)
        ∙ sym (Sums.total_sum o L t (λ j. x · (p.factor j · u j k)) (λ j. q.factor j · u j k))
        ∙ Sums.total_ext o L t (λ j. x · (p.factor j · u j k) + q.factor j · u j k) (λ j. (x · p.factor j + q.factor j) · u j k)
        (λ j b. sym (Sums.sum_product o L (x · p.factor j) (q.factor j) (u j k) ∙ ap (λ s. s + q.factor j · u j k) (L.product_assoc x (p.factor j) (u j k))));
  }

  span_sums : (t w s : ℕ) (u : ℕ → ℕ → M) (x : ℕ → M) (v : ℕ → ℕ → M) → ((j : ℕ) → j < s → Spanned o All t w u (v j)) → Spanned o All t w u (λ k. total o s (λ j. x j · v j k))
  span_sums t w zero u x v p = record { factor = λ j. O; inside = λ j l. tt; is = λ k l. sym (Sums.total_zero o L t (λ j. O · u j k) (λ j b. Sums.zero_product o L (u j k))) }
  span_sums t w (suc s) u x v p =
      span_more t w u (x 0) (v 0) (λ k. total o s (λ j. x (suc j) · v (suc j) k)) (p 0 (suc-le-suc zero-le))
      (span_sums t w s u (λ j. x (suc j)) (λ j. v (suc j)) (λ j h. p (suc j) (suc-le-suc h)))

  -- sums of multiples of sums of multiples
  pub span_trans : (t s w : ℕ) (u v : ℕ → ℕ → M) (y : ℕ → M) → ((j : ℕ) → j < s → Spanned o All t w u (v j)) → Spanned o All s w v y → Spanned o All t w u y
  span_trans t s w u v y p q =
      let z = span_sums t w s u q.factor v p in
      record { factor = z.factor; inside = λ j l. tt; is = λ k l. q.is k l ∙ z.is k l }

  module _ (rows : ℕ) (W : ℕ → ℕ → M) where
    pub echelon_none : (place : ℕ → ℕ) → Echelon o rows W 0 0 place
    echelon_none place = record {
      bound = zero-le;
      within = λ t h. absurd (not-suc-le-zero h);
      rising = λ s t h l. absurd (not-suc-le-zero l);
      pivotal = λ t h. absurd (not-suc-le-zero h);
      non_pivotal = λ j h. absurd (not-suc-le-zero h);
      independent = λ x i z j h. absurd (not-suc-le-zero h);
      spans = λ j h. absurd (not-suc-le-zero h);
    }

    module _ (q rank : ℕ) (place : ℕ → ℕ) (X : Echelon o rows W q rank place) where
      below : (P : ℕ → Type 0) (n : ℕ) → ((j : ℕ) → j < n → P j) → P n → (j : ℕ) → j < suc n → P j
      below P n a b j h = elim (ℕ_discrete j n) [ yes e ↦ subst P (sym e) b | no d ↦ a j (omega arith) ]

      -- a column that is a sum of multiples of the pivotal columns
      pub echelon_spanned : Spanned o All rank rows (λ t. W (place t)) (W q) → Echelon o rows W (suc q) rank place
      echelon_spanned s = record {
        bound = X.bound;
        within = λ t h. let l = X.within t h in omega arith;
        rising = X.rising;
        pivotal = X.pivotal;
        non_pivotal = below (λ j. NoPlace rank place j → Spanned o All j rows W (W j)) q X.non_pivotal (λ n. span_trans q rank rows W (λ t. W (place t)) (W q) (λ t h. span_member q rows W (place t) (X.within t h)) s);
        independent = X.independent;
        spans = below (λ j. Spanned o All rank rows (λ t. W (place t)) (W j)) q X.spans s;
      }

      -- a column that is a sum of multiples of the columns before it
      pub echelon_skipped : Spanned o All q rows W (W q) → Echelon o rows W (suc q) rank place
      echelon_skipped s = echelon_spanned (span_trans rank q rows (λ t. W (place t)) W (W q) X.spans s)

      -- a column that is no sum of multiples of the pivotal columns; next has its place behind theirs
      pub echelon_pivotal : (next : ℕ → ℕ) → ((t : ℕ) → t < rank → next t ≡ place t) → next rank ≡ q → suc rank ≤ rows → Independent o All (suc rank) rows (λ t. W (next t)) → (Spanned o All rank rows (λ t. W (place t)) (W q) → ⊥) → Echelon o rows W (suc q) (suc rank) next
      echelon_pivotal next old new bound independent apart = record {
        bound = bound;
        within = below (λ t. next t < suc q) rank (λ t h. let l = X.within t h in let e = old t h in omega arith) (omega arith);
        rising = λ s t l h. below (λ t. s < t → next s < next t) rank (λ t h l. let e = old t h in let d = old s (omega arith) in let r = X.rising s t l h in omega arith) (λ l. let d = old s l in let r = X.within s l in omega arith) t h l;
        pivotal = below (λ t. Spanned o All (next t) rows W (W (next t)) → ⊥) rank
            (λ t h. subst (λ j. Spanned o All j rows W (W j) → ⊥) (sym (old t h)) (X.pivotal t h))
            (subst (λ j. Spanned o All j rows W (W j) → ⊥) (sym new) (λ s. apart (span_trans rank q rows (λ t. W (place t)) W (W q) X.spans s)));
        non_pivotal = below (λ j. NoPlace (suc rank) next j → Spanned o All j rows W (W j)) q
            (λ j h n. X.non_pivotal j h (λ t l e. n t (omega arith) (old t l ∙ e)))
            (λ n. absurd (n rank (le_refl (suc rank)) new));
        independent = independent;
        spans = below (λ j. Spanned o All (suc rank) rows (λ t. W (next t)) (W j)) q
            (λ j h. span_trans (suc rank) rank rows (λ t. W (next t)) (λ t. W (place t)) (W j) (λ t l. subst (λ i. Spanned o All (suc rank) rows (λ t. W (next t)) (W i)) (old t l) (span_member (suc rank) rows (λ t. W (next t)) t (omega arith))) (X.spans j h))
            (subst (λ i. Spanned o All (suc rank) rows (λ t. W (next t)) (W i)) new (span_member (suc rank) rows (λ t. W (next t)) rank (le_refl (suc rank))));
      }

    pub eliminated_none : (e : ℕ → ℕ → M) (p place : ℕ → ℕ) → Eliminated o rows W 0 0 e p place
    eliminated_none e p place = record { valid = λ t h. absurd (not-suc-le-zero h); turns = λ t h. absurd (not-suc-le-zero h); echelon = echelon_none place }

    module _ (q rank : ℕ) (e : ℕ → ℕ → M) (p place : ℕ → ℕ) (X : Eliminated o rows W q rank e p place) where
      -- a column that is a sum of multiples of those before it need not be taken
      pub eliminated_skipped : Spanned o All q rows W (W q) → Eliminated o rows W (suc q) rank e p place
      eliminated_skipped s = record { valid = X.valid; turns = X.turns; echelon = echelon_skipped q rank place X.echelon s }

      -- column q was taken as c
      module _ (c : ℕ → M) (is : (r : ℕ) → r < rows → c r ≡ W q r) (f : ℕ → ℕ → M) (p' : ℕ → ℕ) (E : ℕ → M) where
        pub sum_of_column : Takes o rows rank e p c f p' E false → IsSum o rows rank (λ t. W (place t)) (W q) E
        sum_of_column T = let s = T.judged (λ t. W (place t)) X.turns in record { is = λ r l. sym (is r l) ∙ s.is r l; zeros = s.zeros }

        pub eliminated_spanned : Takes o rows rank e p c f p' E false → Eliminated o rows W (suc q) rank f p' place
        eliminated_spanned T = record {
          valid = T.valid;
          turns = T.reduces (λ t. W (place t)) X.turns;
          echelon = echelon_spanned q rank place X.echelon (record { factor = E; inside = λ j l. tt; is = (sum_of_column T).is });
        }

        -- next has the place of the column behind those of the pivotal columns before it
        module _ (next : ℕ → ℕ) (old : (t : ℕ) → t < rank → next t ≡ place t) (new : next rank ≡ q) where
          columns_next : (t r : ℕ) → t < suc rank → r < rows → W (next t) r ≡ write rank c (λ t. W (place t)) t r
          columns_next t r h l = elim (ℕ_discrete t rank) [
            | yes d ↦ ap (λ i. W (next i) r) d ∙ ap (λ i. W i r) new ∙ sym (is r l) ∙ sym (ap (λ i. write rank c (λ t. W (place t)) i r) d ∙ ap (λ v. v r) (write_same rank c (λ t. W (place t))))
            | no n ↦ ap (λ i. W i r) (old t (omega arith)) ∙ sym (ap (λ v. v r) (write_other rank c (λ t. W (place t)) t n))
          ]

          pub eliminated_pivotal : Takes o rows rank e p c f p' E true → Eliminated o rows W (suc q) (suc rank) f p' next
          eliminated_pivotal T =
              let turns = R.reduces_ext o L rows (suc rank) f p' (write rank c (λ t. W (place t))) (λ t. W (next t)) columns_next (T.reduces (λ t. W (place t)) X.turns) in
              record {
                valid = T.valid;
                turns = turns;
                echelon = echelon_pivotal q rank place X.echelon next old new T.bound (R.independent_of_steps o L rows (suc rank) f p' (λ t. W (next t)) turns)
                    (λ s. T.judged (λ t. W (place t)) X.turns (record { factor = s.factor; inside = s.inside; is = λ r l. is r l ∙ s.is r l }));
              }

    pub relations_none : (E : ℕ → ℕ → M) (place : ℕ → ℕ) → Relations o rows W E 0 0 place
    relations_none E place = record { is = λ j h. absurd (not-suc-le-zero h); zeros = λ j t h. absurd (not-suc-le-zero h) }

    module _ (E D : ℕ → ℕ → M) (q rank : ℕ) (place : ℕ → ℕ) (X : Echelon o rows W q rank place) (same : (j : ℕ) → j < q → D j ≡ E j) (Y : Relations o rows W E q rank place) where
      pub relations_spanned : IsSum o rows rank (λ t. W (place t)) (W q) (D q) → Relations o rows W D (suc q) rank place
      relations_spanned s = record {
        is = below q rank place X (λ j. NoPlace rank place j → (r : ℕ) → r < rows → W j r ≡ total o rank (λ t. D j t · W (place t) r)) q
            (λ j h n r l. subst (λ u. W j r ≡ total o rank (λ t. u t · W (place t) r)) (sym (same j h)) (Y.is j h n r l))
            (λ n. s.is);
        zeros = λ j t h. below q rank place X (λ j. NoPlace rank place j → (t < rank → j < place t) → D j t ≡ O) q
            (λ j h n z. ap (λ u. u t) (same j h) ∙ Y.zeros j t h n z)
            (λ n z. s.zeros t (elim (dec_lt t rank) [ yes l ↦ let a = z l in let b = X.within t l in absurd (omega arith) | no d ↦ omega arith ])) j h;
      }

      pub relations_pivotal : (next : ℕ → ℕ) → ((t : ℕ) → t < rank → next t ≡ place t) → next rank ≡ q → Relations o rows W D (suc q) (suc rank) next
      relations_pivotal next old new = record {
        is = below q rank place X (λ j. NoPlace (suc rank) next j → (r : ℕ) → r < rows → W j r ≡ total o (suc rank) (λ t. D j t · W (next t) r)) q
            (λ j h n r l.
            let off : NoPlace rank place j = λ i k e. n i (omega arith) (old i k ∙ e) in
            Y.is j h off r l
            ∙ sym
            (Sums.total_last o L rank (λ t. D j t · W (next t) r)
            ∙ ap₂ ◌+◌
            (Sums.total_ext o L rank (λ t. D j t · W (next t) r) (λ t. E j t · W (place t) r) (λ t k. ap₂ (λ u i. u t · W i r) (same j h) (old t k)))
            (ap (λ y. y · W (next rank) r) (ap (λ u. u rank) (same j h) ∙ Y.zeros j rank h off (λ k. omega arith)) ∙ Sums.zero_product o L (W (next rank) r))
            ∙ L.sum_zero (total o rank (λ t. E j t · W (place t) r))))
            (λ n. absurd (n rank (le_refl (suc rank)) new));
        zeros = λ j t h. below q rank place X (λ j. NoPlace (suc rank) next j → (t < suc rank → j < next t) → D j t ≡ O) q
            (λ j h n z. ap (λ u. u t) (same j h) ∙ Y.zeros j t h (λ i l e. n i (omega arith) (old i l ∙ e)) (λ l. let a = z (omega arith) in let b = old t l in omega arith))
            (λ n z. absurd (n rank (le_refl (suc rank)) new)) j h;
      }

-- What the steps say of the columns that they turn into unit vectors. Main results: judged_sum (a column with no pivot is their sum),
-- judged_pivotal (one with a pivot is no such sum), independent_of_steps, steps_more and reduces_more (one step more).
use Rattle.std.proofs.Common.{◌≡◌, ℕ, suc, ◌<◌, ◌≤◌, sym, refl, ap, ◌∙◌, subst, ap₂, subst₂, arith}
use mathlib.Core.Path.{fun_ext}
use native.Mathlib.Decide.{ℕ_discrete, dec_lt}
use Rattle.algebra.specs.Rings.{RingOps, RingLaws}
use Rattle.algebra.specs.Series.{total}
use Rattle.algebra.specs.Independence.{All, Spanned, Independent}
use Rattle.algebra.proofs.Sums as Sums
use Rattle.elimination.specs.Steps.{write, front, unit_vector, step, reduced, IsStep, AreSteps, Reduces, IsPivot}
use Rattle.elimination.proofs.StepMaps as Maps
use Rattle.elimination.proofs.StepMaps.{write_same, write_other, front_low, front_high, front_is}
use Rattle.elimination.proofs.Tables.{front_ext}

-- there are no more steps than rows
pub rank_bound : {M : Type 0} (o : RingOps M) (rows rank : ℕ) (e : ℕ → ℕ → M) (p : ℕ → ℕ) → AreSteps o rows rank e p → rank ≤ rows
rank_bound o rows rank e p s = elim (dec_lt rows rank) [ yes l ↦ let q = s rows l in absurd (omega (arith, q.low, q.within)) | no n ↦ omega arith ]

module _ {M : Type 0} (o : RingOps M) (L : RingLaws o) where
  open o use {zero as O, one as I, sum as ◌+◌, negative as -◌, product as ◌·◌}

  infixl 60 ◌+◌
  infixl 70 ◌·◌
  infix 80 -◌
  pub unit_at : (t : ℕ) → unit_vector o t t ≡ I
  unit_at t = write_same t I (λ r. O)

  pub unit_off : (t r : ℕ) → (r ≡ t → ⊥) → unit_vector o t r ≡ O
  unit_off t r n = write_other t I (λ r. O) r n

  -- the sum of multiples of the first unit vectors
  pub units_low : (n : ℕ) (x : ℕ → M) (r : ℕ) → r < n → total o n (λ t. x t · unit_vector o t r) ≡ x r
  units_low n x r h =
      Sums.total_one o L n r (λ t. x t · unit_vector o t r) h (λ k l d. ap (λ y. x k · y) (unit_off k r (λ e. d (sym e))) ∙ Sums.product_zero o L (x k))
      ∙ ap (λ y. x r · y) (unit_at r)
      ∙ L.product_one (x r)

  pub units_high : (n : ℕ) (x : ℕ → M) (r : ℕ) → n ≤ r → total o n (λ t. x t · unit_vector o t r) ≡ O
  units_high n x r h = Sums.total_zero o L n (λ t. x t · unit_vector o t r) (λ k l. ap (λ y. x k · y) (unit_off k r (λ e. omega arith)) ∙ Sums.product_zero o L (x k))

  module _ (rows rank : ℕ) (e : ℕ → ℕ → M) (p : ℕ → ℕ) (V : ℕ → ℕ → M) (turns : Reduces o rows rank e p V) where
    -- a sum of multiples of the columns is turned into that of the unit vectors
    pub reduced_combination : (x : ℕ → M) → reduced o e p rank (λ r. total o rank (λ t. x t · front o rows (V t) r)) ≡ (λ r. total o rank (λ t. x t · unit_vector o t r))
    reduced_combination x =
        Maps.reduced_total o L e p rank rank x (λ t. front o rows (V t))
        ∙ fun_ext (λ r. Sums.total_ext o L rank (λ t. x t · reduced o e p rank (front o rows (V t)) r) (λ t. x t · unit_vector o t r) (λ t h. ap (λ v. x t · v r) (turns t h)))

    -- a sum of multiples, zero behind the rows
    pub combination_is : (x : ℕ → M) (c : ℕ → M) → ((r : ℕ) → r < rows → c r ≡ total o rank (λ t. x t · V t r)) → ((r : ℕ) → rows ≤ r → c r ≡ O) → c ≡ (λ r. total o rank (λ t. x t · front o rows (V t) r))
    combination_is x c a b = fun_ext (λ r. elim (dec_lt r rows) [
      | yes l ↦ a r l ∙ Sums.total_ext o L rank (λ t. x t · V t r) (λ t. x t · front o rows (V t) r) (λ t h. ap (λ y. x t · y) (sym (front_low o rows (V t) r l)))
      | no n ↦
          let l : rows ≤ r = omega arith in
          b r l ∙ sym (Sums.total_zero o L rank (λ t. x t · front o rows (V t) r) (λ t h. ap (λ y. x t · y) (front_high o rows (V t) r l) ∙ Sums.product_zero o L (x t)))
    ])

    pub reduced_sum_of : (x : ℕ → M) (c : ℕ → M) → ((r : ℕ) → r < rows → c r ≡ total o rank (λ t. x t · V t r)) → ((r : ℕ) → rows ≤ r → c r ≡ O) → reduced o e p rank c ≡ (λ r. total o rank (λ t. x t · unit_vector o t r))
    reduced_sum_of x c a b = ap (reduced o e p rank) (combination_is x c a b) ∙ reduced_combination x

    pub independent_of_steps : Independent o All rank rows V
    independent_of_steps x i z j h =
        sym (units_low rank x j h)
        ∙ sym (ap (λ f. f j) (reduced_sum_of x (λ r. O) (λ r l. sym (z r l)) (λ r l. refl)))
        ∙ ap (λ f. f j) (Maps.reduced_zero o L e p rank)

    -- a reduced column that is zero from row rank on has the multipliers
    pub judged_sum : AreSteps o rows rank e p → (c : ℕ → M) → ((r : ℕ) → rank ≤ r → reduced o e p rank c r ≡ O) → (r : ℕ) → r < rows → c r ≡ total o rank (λ t. reduced o e p rank c t · V t r)
    judged_sum s c z r l =
        Sums.equal_of_difference o L (c r) (total o rank (λ t. u t · V t r))
        (ap (λ y. c r + y) (sym (Sums.total_negative o L rank (λ t. u t · V t r)) ∙ Sums.total_ext o L rank (λ t. - (u t · V t r)) (λ t. (- u t) · front o rows (V t) r) (λ t h. sym (ap (λ y. (- u t) · y) (front_low o rows (V t) r l) ∙ Sums.negative_product o L (u t) (V t r))))
        ∙ Maps.reduced_kernel o L e p rows rank s (λ k. c k + total o rank (λ t. (- u t) · front o rows (V t) k)) difference r)
      where
        u : ℕ → M
        u = reduced o e p rank c

        off : (k : ℕ) → u k + total o rank (λ t. (- u t) · unit_vector o t k) ≡ O
        off k = elim (dec_lt k rank) [
          | yes h ↦ ap (λ y. u k + y) (units_low rank (λ t. - u t) k h) ∙ L.sum_negative (u k)
          | no n ↦ let h : rank ≤ k = omega arith in ap₂ ◌+◌ (z k h) (units_high rank (λ t. - u t) k h) ∙ L.sum_zero O
        ]

        difference : (k : ℕ) → reduced o e p rank (λ k. c k + total o rank (λ t. (- u t) · front o rows (V t) k)) k ≡ O
        difference k =
            ap (λ f. f k) (Maps.reduced_sum o L e p rank c (λ k. total o rank (λ t. (- u t) · front o rows (V t) k)))
            ∙ ap (λ f. u k + f k) (reduced_combination (λ t. - u t))
            ∙ off k

    -- a reduced column with a pivot is of no sum of multiples
    pub judged_pivotal : (O ≡ I → ⊥) → (c : ℕ → M) → ((r : ℕ) → rows ≤ r → c r ≡ O) → (q : ℕ) (i : M) → IsPivot o rows rank (reduced o e p rank c) q i → Spanned o All rank rows V c → ⊥
    judged_pivotal nontrivial c b q i pivot s =
        let zero_there : reduced o e p rank c q ≡ O = ap (λ f. f q) (reduced_sum_of s.factor c s.is b) ∙ units_high rank s.factor q pivot.low in
        nontrivial (sym (Sums.zero_product o L i) ∙ ap (λ y. y · i) (sym zero_there) ∙ pivot.inverse)

  -- the steps e, p, and one more, made of the vector u and its pivot
  module _ (rows rank : ℕ) (e f : ℕ → ℕ → M) (p q : ℕ → ℕ) (same : (t : ℕ) → t < rank → f t ≡ e t) (rows_same : (t : ℕ) → t < rank → q t ≡ p t) (u : ℕ → M) (i : M) (pivot : IsPivot o rows rank u (q rank) i) (last : f rank ≡ write (q rank) i u) where
    pub steps_more : AreSteps o rows rank e p → AreSteps o rows (suc rank) f q
    steps_more s t h = elim (ℕ_discrete t rank) [
      | yes d ↦ subst (λ k. IsStep o rows k (f k) (q k)) (sym d) (subst (λ g. IsStep o rows rank g (q rank)) (sym last) (Maps.is_step_of_pivot o L rows rank (q rank) u i pivot.low pivot.within pivot.inverse pivot.zeros))
      | no n ↦ let l : t < rank = omega arith in subst₂ (λ g k. IsStep o rows t g k) (sym (same t l)) (sym (rows_same t l)) (s t l)
    ]

    pub reduces_more : (V : ℕ → ℕ → M) → Reduces o rows rank e p V → (c : ℕ → M) → ((r : ℕ) → rows ≤ r → c r ≡ O) → reduced o e p rank c ≡ u → Reduces o rows (suc rank) f q (write rank c V)
    reduces_more V turns c b is t h = elim (ℕ_discrete t rank) [
      | yes d ↦
          ap (λ k. reduced o f q (suc rank) (front o rows (write rank c V k))) d
          ∙ ap (λ v. reduced o f q (suc rank) (front o rows v)) (write_same rank c V)
          ∙ ap (λ v. reduced o f q (suc rank) v) (sym (front_is o rows c c (λ r l. refl) b))
          ∙ ap (step o (f rank) rank (q rank)) (Maps.reduced_ext o L rank f e q p c same rows_same ∙ is)
          ∙ ap (λ g. step o g rank (q rank) u) last
          ∙ Maps.step_of_pivot o L rank (q rank) u i pivot.low pivot.inverse pivot.zeros
          ∙ ap (unit_vector o) (sym d)
      | no n ↦
          let l : t < rank = omega arith in
          ap (λ v. reduced o f q (suc rank) (front o rows v)) (write_other rank c V t n)
          ∙ ap (step o (f rank) rank (q rank)) (Maps.reduced_ext o L rank f e q p (front o rows (V t)) same rows_same ∙ turns t l)
          ∙ Maps.step_keeps o L rows rank (f rank) (q rank) pivot.low (unit_vector o t) (λ r k. unit_off t r (λ d. omega arith))
    ]

  -- the columns count only in their rows
  pub reduces_ext : (rows rank : ℕ) (e : ℕ → ℕ → M) (p : ℕ → ℕ) (V W : ℕ → ℕ → M) → ((t r : ℕ) → t < rank → r < rows → W t r ≡ V t r) → Reduces o rows rank e p V → Reduces o rows rank e p W
  reduces_ext rows rank e p V W same turns t h = ap (reduced o e p rank) (front_ext o rows (W t) (V t) (λ r l. same t r h l)) ∙ turns t h

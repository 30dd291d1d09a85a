-- The questions about degrees, answered by the degrees and the leading vectors that were found. Main results: in_degree (all answered yes),
-- unordered and dependent (one answered no), outside_yes and outside_no.
use Rattle.std.proofs.Common.{◌≡◌, ℕ, suc, ◌-◌, ◌<◌, ◌≤◌, sym, refl, ap, ◌∙◌, inl, inr, arith}
use native.Mathlib.Decide.{dec_lt}
use Rattle.algebra.specs.Rings.{RingOps, RingLaws, IsField}
use Rattle.algebra.specs.Series.{total}
use Rattle.algebra.specs.Divisors.{AllZero, VectorDegree}
use Rattle.algebra.specs.Independence.{All, Spanned, Independent}
use Rattle.algebra.proofs.Counting.{sum_ext}
use Rattle.algebra.proofs.Exchange as E
use Rattle.algebra.proofs.Naturals.{never_fall_far}
use Rattle.algebra.proofs.OptimalFrames.{vector_degree_unique}
use Rattle.algebra.proofs.Rows.{cut, cut_low, cut_high}
use Rattle.algebra.proofs.Spans as Spans
use Rattle.algebra.proofs.Sums as Sums
use Rattle.frames.specs.Rows.{Highest}
use Rattle.framing.proofs.ColumnDegrees.{highest_degree}
use Rattle.judging.specs.Columns.{InOrder, NoHigher}
use Rattle.judging.specs.Questions.{InDegree, FirstOutside}
use Rattle.judging.proofs.Vectors.{spanned_dependent}

module _ {M : Type 0} (o : RingOps M) (field : IsField o) where
  abbrev L : RingLaws o
  L = field.laws.ring

  pub independent_ext : (t w : ℕ) (u v : ℕ → ℕ → M) → ((j k : ℕ) → j < t → k < w → u j k ≡ v j k) → Independent o All t w u → Independent o All t w v
  independent_ext t w u v same i x inside zero =
      i x inside (λ k l. Sums.total_ext o L t (λ j. o.product (x j) (u j k)) (λ j. o.product (x j) (v j k)) (λ j h. ap (λ y. o.product (x j) y) (same j k h l)) ∙ zero k l)

  -- the degree that was found is the degree
  found_degree : (n : ℕ) (h : ℕ → ℕ → M) (d e : ℕ) → Highest o n h d → VectorDegree o n h e → d ≡ e
  found_degree n h d e (inl z) v = absurd (v.top (ap (λ (f : ℕ → M). f e) (z.0 v.component v.within)))
  found_degree n h d e (inr u) v = vector_degree_unique o field n h h d e (λ i l. refl) u v

  -- δ has the degrees that were found, 0 for a check column that is zero
  module _ (n m : ℕ) (c : ℕ → ℕ → ℕ → M) (δ : ℕ → ℕ) (found : (j : ℕ) → j < m → Highest o n (c (suc j)) (δ j)) where
    abbrev leading : ℕ → ℕ → M
    leading j i = c (suc j) i (δ j)

    same_degree : (degree : ℕ → ℕ) → ((j : ℕ) → j < m → VectorDegree o n (c (suc j)) (degree j)) → (j : ℕ) → j < m → δ j ≡ degree j
    same_degree degree v j h = found_degree n (c (suc j)) (δ j) (degree j) (found j h) (v j h)

    pub unordered : (d : ℕ) → (InOrder m d δ → ⊥) → InDegree o n m d c → ⊥
    unordered d no_order t =
        no_order (
          λ j h.
              let a = same_degree t.degree t.degrees j (omega arith) in
              let b = same_degree t.degree t.degrees (suc j) h in
              let l = t.never_fall j h in
              omega arith,
          sum_ext m δ t.degree (same_degree t.degree t.degrees) ∙ t.degrees_sum,
        )

    pub dependent : (d : ℕ) → (Independent o All m n leading → ⊥) → InDegree o n m d c → ⊥
    dependent d no_independence t =
        no_independence (independent_ext m n (λ j i. c (suc j) i (t.degree j)) leading (λ j k h l. ap (λ e. c (suc j) k e) (sym (same_degree t.degree t.degrees j h))) t.independent)

    nonzero : Independent o All m n leading → (j : ℕ) → j < m → AllZero o n (c (suc j)) → ⊥
    nonzero independent j h zero =
        spanned_dependent o field m n leading j h
        (Spans.spanned_ext o L All (E.domain_of_field o field) j n leading (λ k. o.zero) (leading j) (λ k l. sym (ap (λ (f : ℕ → M). f (δ j)) (zero k l))) (Spans.spanned_zero o L All (E.domain_of_field o field) j n leading))
        independent

    degrees : Independent o All m n leading → (j : ℕ) → j < m → VectorDegree o n (c (suc j)) (δ j)
    degrees independent j h = highest_degree o n (δ j) (c (suc j)) (found j h) (nonzero independent j h)

    pub in_degree : (d : ℕ) → InOrder m d δ → Independent o All m n leading → InDegree o n m d c
    in_degree d order independent = record { degree = δ; degrees = degrees independent; never_fall = order.0; degrees_sum = order.1; independent = independent }

    pub first_independent : (count : ℕ) → count ≤ m → Independent o All m n leading → Independent o All count n leading
    first_independent count h independent = Spans.independent_prefix o L All (E.domain_of_field o field) count m n leading h independent

    module _ (e count : ℕ) (first : VectorDegree o n (c 0) e) (few : NoHigher m e δ count) (rise : (j : ℕ) → suc j < m → δ j ≤ δ (suc j)) where
      higher : (j : ℕ) → count ≤ j → j < m → e < δ j
      higher j l h = let a = few.high (omega arith) in let b = never_fall_far m δ rise (j - count) count j (omega arith) h in omega arith

      -- a sum over all check columns with no multiple of a higher one is one over the first
      shorter : (x : ℕ → M) → ((j : ℕ) → count ≤ j → j < m → x j ≡ o.zero) → (k : ℕ) → total o m (λ j. o.product (x j) (leading j k)) ≡ total o count (λ j. o.product (x j) (leading j k))
      shorter x zero k = Spans.total_truncate o L count m (λ j. o.product (x j) (leading j k)) few.within (λ j l h. ap (λ y. o.product y (leading j k)) (zero j l h) ∙ Sums.zero_product o L (leading j k))

      pub outside_yes : (Spanned o All count n leading (λ i. c 0 i e) → ⊥) → FirstOutside o n m c
      outside_yes none degree d v w x zero is =
          none (record {
            factor = x;
            inside = λ j l. tt;
            is = λ k l.
                ap (λ (t : ℕ). c 0 k t) same
                ∙ is k l
                ∙ Sums.total_ext o L m (λ j. o.product (x j) (c (suc j) k (degree j))) (λ j. o.product (x j) (leading j k)) (λ j h. ap (λ t. o.product (x j) (c (suc j) k t)) (sym (same_degree degree v j h)))
                ∙ shorter x (λ j a h. zero j h (let p = higher j a h in let q = same_degree degree v j h in let r = same in omega arith)) k;
          })
        where
          same : e ≡ d
          same = vector_degree_unique o field n (c 0) (c 0) e d (λ i l. refl) first w

      pub outside_no : Independent o All m n leading → Spanned o All count n leading (λ i. c 0 i e) → FirstOutside o n m c → ⊥
      outside_no independent s out =
          out δ e (degrees independent) first x
          (λ j h l. cut_high o count s.factor j (elim (dec_lt j count) [ yes a ↦ let b = few.low j a in absurd (omega arith) | no a ↦ omega arith ]))
          (λ i l.
          s.is i l
          ∙ Sums.total_ext o L count (λ j. o.product (s.factor j) (leading j i)) (λ j. o.product (x j) (leading j i)) (λ j h. ap (λ y. o.product y (leading j i)) (sym (cut_low o count s.factor j h)))
          ∙ sym (shorter x (λ j a h. cut_high o count s.factor j a) i))
        where
          x : ℕ → M
          x = cut o count s.factor

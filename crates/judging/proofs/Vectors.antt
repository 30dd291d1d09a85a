-- Vectors taken by elimination, one behind the other. Main results: pivotal_more (a pivotal vector joins the others), non_pivotal
-- (another makes them dependent), outside_tells.
use Rattle.std.proofs.Common.{◌≡◌, ℕ, suc, ◌<◌, Bool, true, false, sym, ap, ◌∙◌, ap₂, arith}
use native.Mathlib.Decide.{ℕ_discrete}
use Rattle.algebra.specs.Rings.{RingOps, RingLaws, IsField}
use Rattle.algebra.specs.Series.{total}
use Rattle.algebra.specs.Independence.{All, Spanned, Independent}
use Rattle.algebra.proofs.Exchange as E
use Rattle.algebra.proofs.Fields as Fields
use Rattle.algebra.proofs.Spans as Spans
use Rattle.algebra.proofs.Sums as Sums
use Rattle.elimination.specs.Steps.{write, Reduces, Takes}
use Rattle.elimination.proofs.Relations.{reduces_ext}
use Rattle.elimination.proofs.StepMaps.{write_same, write_other}
use Rattle.judging.specs.Answers.{Tells}

module _ {M : Type 0} (o : RingOps M) (field : IsField o) where
  abbrev L : RingLaws o
  L = field.laws.ring

  -- independent vectors have none that is a sum of multiples of those before it
  pub spanned_dependent : (m w : ℕ) (v : ℕ → ℕ → M) (j : ℕ) → j < m → Spanned o All j w v (v j) → Independent o All m w v → ⊥
  spanned_dependent m w v j h s independent =
      Fields.nonzero_negative o field o.one (Fields.one_nonzero o field)
      (sym (write_same j (o.negative o.one) s.factor)
      ∙ Spans.independent_prefix o L All (E.domain_of_field o field) (suc j) m w v h independent x (λ t l. tt) zero j (omega arith))
    where
      x : ℕ → M
      x = write j (o.negative o.one) s.factor

      zero : (k : ℕ) → k < w → total o (suc j) (λ t. o.product (x t) (v t k)) ≡ o.zero
      zero k l =
          Sums.total_last o L j (λ t. o.product (x t) (v t k))
          ∙ ap₂ o.sum
          (Sums.total_ext o L j (λ t. o.product (x t) (v t k)) (λ t. o.product (s.factor t) (v t k)) (λ t b. ap (λ z. o.product z (v t k)) (write_other j (o.negative o.one) s.factor t (omega arith))) ∙ sym (s.is k l))
          (ap (λ z. o.product z (v j k)) (write_same j (o.negative o.one) s.factor) ∙ Sums.negative_product o L o.one (v j k) ∙ ap o.negative (Sums.one_product o L (v j k)))
          ∙ L.sum_negative (v j k)

  module _ (rows rank : ℕ) (e : ℕ → ℕ → M) (p : ℕ → ℕ) (c : ℕ → M) (f : ℕ → ℕ → M) (q : ℕ → ℕ) (E : ℕ → M) (V : ℕ → ℕ → M) (reduces : Reduces o rows rank e p V) where
    pub pivotal_more : Takes o rows rank e p c f q E true → ((r : ℕ) → r < rows → c r ≡ V rank r) → Reduces o rows (suc rank) f q V
    pivotal_more takes same = reduces_ext o L rows (suc rank) f q (write rank c V) V at (takes.reduces V reduces)
      where
        at : (t r : ℕ) → t < suc rank → r < rows → V t r ≡ write rank c V t r
        at t r h l = elim (ℕ_discrete t rank) [
          | yes d ↦ ap (λ i. V i r) d ∙ sym (same r l) ∙ sym (ap (λ (u : ℕ → M). u r) (ap (write rank c V) d ∙ write_same rank c V))
          | no d ↦ sym (ap (λ (u : ℕ → M). u r) (write_other rank c V t d))
        ]

    pub non_pivotal : Takes o rows rank e p c f q E false → (y : ℕ → M) → ((r : ℕ) → r < rows → c r ≡ y r) → Spanned o All rank rows V y
    non_pivotal takes y same = record { factor = E; inside = λ j l. tt; is = λ k l. sym (same k l) ∙ (takes.judged V reduces).is k l }

    pub outside_tells : (pivotal : Bool) → Takes o rows rank e p c f q E pivotal → (y : ℕ → M) → ((r : ℕ) → r < rows → c r ≡ y r) → Tells (Spanned o All rank rows V y → ⊥) pivotal
    outside_tells true takes y same = λ s. takes.judged V reduces (record { factor = s.factor; inside = s.inside; is = λ k l. same k l ∙ s.is k l })
    outside_tells false takes y same = λ n. n (non_pivotal takes y same)

-- The degree of a row that is known to have it. Main result: the_degree.
use mathlib.Core.Path.{◌≡◌, sym, subst}
use mathlib.Core.Logic.{◌⊎◌, inl, inr, ∥∥₁_elim}
use Prim.Native.Nat.{ℕ, zero, suc, ◌<◌}
use native.Mathlib.Nat.{not-suc-le-zero, le_refl, eq-or-lt_of_le, le_of_suc-le-suc}
use native.Mathlib.Omega.{arith}
use Rattle.algebra.specs.Rings.{RingOps, IsField}
use Rattle.algebra.specs.Divisors.{VectorDegree}

module _ {M : Type 0} (o : RingOps M) (field : IsField o) (h : ℕ → ℕ → M) (d : ℕ) where
  -- one of the first n coefficients of s^d is not zero, or each is
  top_or_none : (n : ℕ) → ((i : ℕ) × ((i < n) × (h i d ≡ o.zero → ⊥))) ⊎ ((i : ℕ) → i < n → h i d ≡ o.zero)
  top_or_none zero = inr (λ i l. absurd (not-suc-le-zero l))
  top_or_none (suc n) = elim (top_or_none n) [
    | inl x ↦ inl (x.0, (let l = x.1.0 in omega arith, x.1.1))
    | inr none ↦ elim (field.decides (h n d) o.zero) [
      | yes e ↦ inr (λ i l. elim (eq-or-lt_of_le (le_of_suc-le-suc l)) [ inl last ↦ subst (λ j. h j d ≡ o.zero) (sym last) e | inr less ↦ none i less ])
      | no ne ↦ inl (n, (le_refl (suc n), ne))
    ]
  ]

  pub the_degree : (n : ℕ) → ∥ VectorDegree o n h d ∥₁ → VectorDegree o n h d
  the_degree n known = elim (top_or_none n) [
    | inl x ↦ record {
      bounded = λ i l k a. elim (field.decides (h i k) o.zero) [ yes e ↦ e | no ne ↦ absurd (∥∥₁_elim known (λ x y. absurd x) (λ v. ne (v.bounded i l k a))) ];
      component = x.0;
      within = x.1.0;
      top = x.1.1;
    }
    | inr none ↦ absurd (∥∥₁_elim known (λ x y. absurd x) (λ v. v.top (none v.component v.within)))
  ]

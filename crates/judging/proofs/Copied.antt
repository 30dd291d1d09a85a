-- The test by degrees reads only the first rows and columns. Main results: test_of_copy (columns with the same first rows pass it too),
-- columns_nonzero.
use Rattle.std.proofs.Common.{◌≡◌, ℕ, zero, suc, ◌+◌, ◌-◌, ◌*◌, ◌<◌, ◌≤◌, List, drop, sym, ap, ◌∙◌, subst, suc-le-suc, zero-le, le_of_suc-le-suc, arith}
use Rattle.algebra.specs.Rings.{RingOps, RingLaws, IsField}
use Rattle.algebra.specs.Series.{dot, series, Below}
use Rattle.algebra.specs.Divisors.{AllZero, MonicGcd, VectorDegree}
use Rattle.algebra.specs.DegreeTest.{PassesTest}
use Rattle.algebra.proofs.Series as S
use Rattle.algebra.proofs.Spans.{dot_ext}
use Rattle.algebra.proofs.Sums as Sums
use Rattle.std.specs.List.{between}
use Rattle.tables.specs.Places.{at}
use Rattle.tables.proofs.Parts.{poly_at_in, poly_at_is, poly_at_below}
use Rattle.tables.proofs.Slices.{at_take, at_drop}
use Rattle.frames.specs.Rows.{row_in}
use Rattle.judging.proofs.Exactness.{first_nonzero}
use Rattle.judging.proofs.LeadingTest.{independent_ext}

module _ {M : Type 0} (o : RingOps M) (field : IsField o) where
  abbrev L : RingLaws o
  L = field.laws.ring

  vector_degree_ext : (n : ℕ) (u v : ℕ → ℕ → M) (d : ℕ) → ((i : ℕ) → i < n → u i ≡ v i) → VectorDegree o n u d → VectorDegree o n v d
  vector_degree_ext n u v d same w = record {
    bounded = λ i l. subst (λ (f : ℕ → M). Below o (suc d) f) (same i l) (w.bounded i l);
    component = w.component;
    within = w.within;
    top = λ z. w.top (ap (λ (f : ℕ → M). f d) (same w.component w.within) ∙ z);
  }

  module _ (m : ℕ) (a : ℕ → ℕ → M) (g : ℕ → M) (d : ℕ) (c b : ℕ → ℕ → ℕ → M) (same : (j i : ℕ) → j < suc m → i < suc m → c j i ≡ b j i) (t : PassesTest o m a g d c) where
    product_same : (j : ℕ) → j < suc m → dot (series o) (suc m) a (b j) ≡ dot (series o) (suc m) a (c j)
    product_same j h = dot_ext (series o) (S.series_laws o L) (suc m) a (b j) (c j) (λ i l. sym (same j i h l))

    test_at : PassesTest o m a g d b
    test_at = record {
      first = product_same 0 (suc-le-suc zero-le) ∙ t.first;
      check = λ j h. product_same (suc j) (suc-le-suc h) ∙ t.check j h;
      degree = t.degree;
      degrees = λ j h. vector_degree_ext (suc m) (c (suc j)) (b (suc j)) (t.degree j) (λ i l. same (suc j) i (suc-le-suc h) l) (t.degrees j h);
      never_fall = t.never_fall;
      degrees_sum = t.degrees_sum;
      independent = independent_ext o field m (suc m) (λ j i. c (suc j) i (t.degree j)) (λ j i. b (suc j) i (t.degree j)) (λ j i h l. ap (λ (f : ℕ → M). f (t.degree j)) (same (suc j) i (suc-le-suc h) l)) t.independent;
      outside = λ e v x none is.
          t.outside e (vector_degree_ext (suc m) (b 0) (c 0) e (λ i l. sym (same 0 i (suc-le-suc zero-le) l)) v) x none
          (λ i l.
          ap (λ (f : ℕ → M). f e) (same 0 i (suc-le-suc zero-le) l)
          ∙ is i l
          ∙ Sums.total_ext o L m (λ j. o.product (x j) (b (suc j) i (t.degree j))) (λ j. o.product (x j) (c (suc j) i (t.degree j))) (λ j h. ap (λ (f : ℕ → M). o.product (x j) (f (t.degree j))) (sym (same (suc j) i (suc-le-suc h) l))));
    }

  pub test_of_copy : (n : ℕ) (a : ℕ → ℕ → M) (g : ℕ → M) (d : ℕ) (c b : ℕ → ℕ → ℕ → M) → 2 ≤ n → ((j i : ℕ) → j < n → i < n → b j i ≡ c j i) → PassesTest o (n - 1) a g d c → PassesTest o (n - 1) a g d b
  test_of_copy n a g d c b two same t = test_at (n - 1) a g d c b (λ j i h l. sym (same j i (omega arith) (omega arith))) t

  nonzero_at : (m : ℕ) (a : ℕ → ℕ → M) (g : ℕ → M) (d : ℕ) (c : ℕ → ℕ → ℕ → M) → MonicGcd o (suc m) a g → PassesTest o m a g d c → (j : ℕ) → j < suc m → AllZero o (suc m) (c j) → ⊥
  nonzero_at m a g d c gcd t zero h none = first_nonzero o field (suc m) a g (c 0) gcd t.first none
  nonzero_at m a g d c gcd t (suc j) h none =
      let v = t.degrees j (le_of_suc-le-suc h) in
      v.top (ap (λ (f : ℕ → M). f (t.degree j)) (none v.component v.within))

  -- columns that pass the test are not zero
  pub columns_nonzero : (n : ℕ) (a : ℕ → ℕ → M) (g : ℕ → M) (d : ℕ) (c : ℕ → ℕ → ℕ → M) → 2 ≤ n → MonicGcd o n a g → PassesTest o (n - 1) a g d c → (j : ℕ) → j < n → AllZero o n (c j) → ⊥
  columns_nonzero n a g d c two gcd t j h none =
      let e : n ≡ suc (n - 1) = omega arith in
      nonzero_at (n - 1) a g d c (subst (λ (k : ℕ). MonicGcd o k a g) e gcd) t j (omega arith) (subst (λ (k : ℕ). AllZero o k (c j)) e none)

-- a column in a part of a table, `&table[base..end]`
pub dot_range : {F M : Type 0} (o : RingOps M) (L : RingLaws o) (member : F → M) (a : ℕ → ℕ → M) (table : List F) (base end n : ℕ) → base + 17 * n ≤ end
    → dot (series o) n a (row_in o member (between base end table) 0) ≡ dot (series o) n a (row_in o member table base)
dot_range o L member a table base end n room =
    dot_ext (series o) (S.series_laws o L) n a (row_in o member (between base end table) 0) (row_in o member table base)
    (λ i l.
    poly_at_is o member (between base end table) (0 + 17 * i) 17 (row_in o member table base i) (poly_at_below o member table (base + 17 * i) 17)
    (λ k h.
    at_take o member (end - base) (drop base table) (0 + 17 * i + k) (omega arith)
    ∙ at_drop o member base table (0 + 17 * i + k)
    ∙ ap (at o member table) (let e : base + (0 + 17 * i + k) ≡ base + 17 * i + k = omega arith in e)
    ∙ sym (poly_at_in o member table (base + 17 * i) 17 k h)))

-- What the answers to the questions say of degree-optimal columns. Main results: test_passed and passed_optimal (all answered yes),
-- objects_never (one answered no).
use Rattle.std.proofs.Common.{◌≡◌, ℕ, zero, suc, ◌+◌, ◌-◌, ◌*◌, ◌<◌, ◌≤◌, List, sym, refl, ap, ◌∙◌, subst, suc-le-suc, le_of_suc-le-suc, not-suc-le-zero, arith}
use Rattle.algebra.specs.Rings.{RingOps, RingLaws, IsField}
use Rattle.algebra.specs.Series.{dot, series, Polynomial}
use Rattle.algebra.specs.Divisors.{AllZero, MonicGcd}
use Rattle.algebra.specs.Optimal.{DegreeOptimal}
use Rattle.algebra.specs.DegreeTest.{PassesTest}
use Rattle.algebra.proofs.Gcd.{gcd_unique, row_of_gcd_nonzero}
use Rattle.algebra.proofs.OptimalFrames.{vector_degree_unique}
use Rattle.algebra.proofs.Series as S
use Rattle.algebra.proofs.Sums as Sums
use Rattle.algebra.proofs.TestExact.{test_exact}
use Rattle.tables.proofs.Parts.{poly_at_below}
use Rattle.frames.specs.Rows.{generator_in, gcd_in, quotient_in, DividedByGcd}
use Rattle.framing.specs.Framing.{column_in}
use Rattle.judging.specs.declared.objection.Objection.{Objection}
use Rattle.judging.specs.Columns.{AllSyzygies, LowestNoSyzygy}
use Rattle.judging.specs.Questions.{InDegree, FirstOutside, ObjectsByDegree, not_in_degree, first_inside}
use Rattle.judging.specs.Offers.{RowOf, Objects, every_zero, first_differs, no_syzygy, by_degree, OptimalFor}

module _ {M : Type 0} (o : RingOps M) (field : IsField o) where
  abbrev L : RingLaws o
  L = field.laws.ring

  -- a column whose product with the row is the divisor is not zero
  pub first_nonzero : (n : ℕ) (a : ℕ → ℕ → M) (g : ℕ → M) (h : ℕ → ℕ → M) → MonicGcd o n a g → dot (series o) n a h ≡ g → AllZero o n h → ⊥
  first_nonzero n a g h gcd e none =
      field.laws.zero_not_one
      (ap (λ (f : ℕ → M). f gcd.monic.degree)
      (sym (Sums.total_zero (series o) (S.series_laws o L) n (λ i. (series o).product (a i) (h i)) (λ i l. ap ((series o).product (a i)) (none i l) ∙ Sums.product_zero (series o) (S.series_laws o L) (a i)))
      ∙ e)
      ∙ gcd.monic.leading)

  test_at : (m : ℕ) (a : ℕ → ℕ → M) (g : ℕ → M) (d : ℕ) (c : ℕ → ℕ → ℕ → M) → dot (series o) (suc m) a (c 0) ≡ g → AllSyzygies o (suc m) a c
      → InDegree o (suc m) m d c → FirstOutside o (suc m) m c → PassesTest o m a g d c
  test_at m a g d c first check in_degree outside =
      record {
        first = first;
        check = λ j h. check (suc j) (omega arith) (suc-le-suc h);
        degree = in_degree.degree;
        degrees = in_degree.degrees;
        never_fall = in_degree.never_fall;
        degrees_sum = in_degree.degrees_sum;
        independent = in_degree.independent;
        outside = λ e v. outside in_degree.degree e in_degree.degrees v;
      }

  one_more : (n : ℕ) → 2 ≤ n → n ≡ suc (n - 1)
  one_more n two = omega arith

  pub test_passed : (n : ℕ) (a : ℕ → ℕ → M) (g : ℕ → M) (d : ℕ) (c : ℕ → ℕ → ℕ → M) → 2 ≤ n → dot (series o) n a (c 0) ≡ g → AllSyzygies o n a c
      → InDegree o n (n - 1) d c → FirstOutside o n (n - 1) c → PassesTest o (n - 1) a g d c
  test_passed n a g d c two first check in_degree outside =
      test_at (n - 1) a g d c
      (subst (λ (k : ℕ). dot (series o) k a (c 0) ≡ g) (one_more n two) first)
      (subst (λ (k : ℕ). AllSyzygies o k a c) (one_more n two) check)
      (subst (λ (k : ℕ). InDegree o k (n - 1) d c) (one_more n two) in_degree)
      (subst (λ (k : ℕ). FirstOutside o k (n - 1) c) (one_more n two) outside)

  pub passed_optimal : (n : ℕ) (a : ℕ → ℕ → M) (g : ℕ → M) (d : ℕ) (c : ℕ → ℕ → ℕ → M) → 2 ≤ n → ((j i : ℕ) → Polynomial o (c j i)) → RowOf o n a g d
      → PassesTest o (n - 1) a g d c → DegreeOptimal o (n - 1) a g c
  passed_optimal n a g d c two polynomials row_of test =
      let r = subst (λ (k : ℕ). RowOf o k a g d) (one_more n two) row_of in
      ((test_exact o field).exact (n - 1) a g r.row d c r.gcd r.divided r.degree (λ j h i l. polynomials j i)).0 test

  module _ (m : ℕ) (a : ℕ → ℕ → M) (c : ℕ → ℕ → ℕ → M) (polynomials : (j i : ℕ) → Polynomial o (c j i)) (h : ℕ → M) (optimal : DegreeOptimal o m a h c) where
    test : (g : ℕ → M) (d : ℕ) → RowOf o (suc m) a g d → PassesTest o m a g d c
    test g d r =
        ((test_exact o field).exact m a g r.row d c r.gcd r.divided r.degree (λ j l i b. polynomials j i)).1
        (subst (λ (f : ℕ → M). DegreeOptimal o m a f c) (gcd_unique o field (suc m) a h g optimal.divisor r.gcd) optimal)

    in_degree_of : (d : ℕ) (g : ℕ → M) → PassesTest o m a g d c → InDegree o (suc m) m d c
    in_degree_of d g t = record { degree = t.degree; degrees = t.degrees; never_fall = t.never_fall; degrees_sum = t.degrees_sum; independent = t.independent }

    outside_of : (d : ℕ) (g : ℕ → M) → PassesTest o m a g d c → FirstOutside o (suc m) m c
    outside_of d g t degree e v first x none is =
        t.outside e first x
        (λ j l b. none j l (let s = same j l in omega arith))
        (λ i l. is i l ∙ Sums.total_ext o L m (λ j. o.product (x j) (c (suc j) i (degree j))) (λ j. o.product (x j) (c (suc j) i (t.degree j))) (λ j b. ap (λ k. o.product (x j) (c (suc j) i k)) (same j b)))
      where
        same : (j : ℕ) → j < m → degree j ≡ t.degree j
        same j l = vector_degree_unique o field (suc m) (c (suc j)) (c (suc j)) (degree j) (t.degree j) (λ i b. refl) (v j l) (t.degrees j l)

    no_check : (g : ℕ → M) (d : ℕ) → PassesTest o m a g d c → (j : ℕ) → LowestNoSyzygy o (suc m) a c j → ⊥
    no_check g d t zero lowest = absurd (not-suc-le-zero lowest.low)
    no_check g d t (suc j) lowest = lowest.here (t.check j (le_of_suc-le-suc lowest.within))

    no_degree : (g : ℕ → M) (d : ℕ) (x : Objection) → PassesTest o m a g d c → ObjectsByDegree o (suc m) m d c x → ⊥
    no_degree g d x t (not_in_degree is none) = none (in_degree_of d g t)
    no_degree g d x t (first_inside is some none) = none (outside_of d g t)

    never : (x : Objection) → Objects o (suc m) m a c x → ⊥
    never x (every_zero is none) = row_of_gcd_nonzero o field (suc m) a h optimal.divisor none
    never x (first_differs g d r is differs) = differs (test g d r).first
    never x (no_syzygy g d r first j is lowest) = no_check g d (test g d r) j lowest
    never x (by_degree g d r first check objects) = no_degree g d x (test g d r) objects

  -- no degree-optimal columns meet an objection
  pub objects_never : (n : ℕ) (a : ℕ → ℕ → M) (c : ℕ → ℕ → ℕ → M) (x : Objection) → 2 ≤ n → ((j i : ℕ) → Polynomial o (c j i)) → Objects o n (n - 1) a c x → OptimalFor o (n - 1) a c → ⊥
  objects_never n a c x two polynomials objects optimal = never (n - 1) a c polynomials optimal.0 optimal.1 x (subst (λ (k : ℕ). Objects o k (n - 1) a c x) (one_more n two) objects)

module _ {F M : Type 0} (o : RingOps M) (member : F → M) where
  -- what dividing by the gcd leaves in the work table
  pub row_divided : (n e d : ℕ) (generators work : List F) → DividedByGcd o member n generators work e d → RowOf o n (generator_in o member generators) (gcd_in o member work) d
  row_divided n e d generators work all = record { gcd = all.gcd; row = quotient_in o member work; divided = all.divided; degree = all.highest }

  pub column_polynomial : (table : List F) (j i : ℕ) → Polynomial o (column_in o member table j i)
  column_polynomial table j i = (17, poly_at_below o member table (136 * j + 17 * i) 17)

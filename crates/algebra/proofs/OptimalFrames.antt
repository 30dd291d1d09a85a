-- The frame of a row, not all zero. Main results: frame_exists, frame_unique, frame_optimal, optimal_frames (all together).
use mathlib.Core.Path.{◌≡◌, sym, ap, ◌∙◌, subst, fun_ext}
use Prim.Native.Nat.{ℕ, suc, ◌<◌, zero-le, suc-le-suc, ◌*◌, ◌/◌, ◌%◌, ◌+◌ as ◌plus◌}
use native.Mathlib.Nat.{mod-lt}
use native.Mathlib.Decide.{dec_lt}
use native.Mathlib.Omega.{arith}
use Rattle.algebra.specs.Rings.{RingOps, RingLaws, IsField}
use Rattle.algebra.specs.Series.{sum_below, dot, series, shift, Polynomial}
use Rattle.algebra.specs.Divisors.{MonicGcd, AllZero, DividedRow, VectorDegree}
use Rattle.algebra.specs.Independence.{All, Spanned}
use Rattle.algebra.specs.Places.{place_list, NonPivotal, Basic}
use Rattle.algebra.specs.Frames.{ZeroOffPivotal, FrameColumns, IsFrame}
use Rattle.algebra.specs.Optimal.{PolynomialVector, OrderedSyzygies, DegreeOptimal}
use Rattle.algebra.specs.Theorems.{OptimalFrames}
use Rattle.algebra.proofs.Sums as Sums
use Rattle.algebra.proofs.Series as S
use Rattle.algebra.proofs.Bounds as B
use Rattle.algebra.proofs.Degrees as D
use Rattle.algebra.proofs.Gcd as G
use Rattle.algebra.proofs.DividedRow as R
use Rattle.algebra.proofs.BasicPlaces as Basics
use Rattle.algebra.proofs.Frames as Frames
use Rattle.algebra.proofs.Optimal as Optimal

-- what is said of a row depends on its n components only
module _ {M : Type 0} (o : RingOps M) (L : RingLaws o) (m d : ℕ) (r t : ℕ → ℕ → M) (same : (i : ℕ) → i < suc m → r i ≡ t i) where
  lists_same : place_list o (suc m) r ≡ place_list o (suc m) t
  lists_same = fun_ext (λ q. ap (shift o (q / suc m)) (same (q % suc m) (mod-lt q (suc-le-suc zero-le))))

  nonpivotal_same : (q : ℕ) → NonPivotal o (suc m) d r q → NonPivotal o (suc m) d t q
  nonpivotal_same q = subst (λ (l : ℕ → ℕ → M). Spanned o All q (suc (d plus d)) l (l q)) lists_same

  nonpivotal_back : (q : ℕ) → NonPivotal o (suc m) d t q → NonPivotal o (suc m) d r q
  nonpivotal_back q = subst (λ (l : ℕ → ℕ → M). Spanned o All q (suc (d plus d)) l (l q)) (sym lists_same)

  basic_same : (q : ℕ) → Basic o (suc m) d r q → Basic o (suc m) d t q
  basic_same q b = record { within = b.within; non_pivotal = nonpivotal_same q b.non_pivotal; first = λ p j s. b.first p j (nonpivotal_back p s) }

  basic_back : (q : ℕ) → Basic o (suc m) d t q → Basic o (suc m) d r q
  basic_back q b = record { within = b.within; non_pivotal = nonpivotal_back q b.non_pivotal; first = λ p j s. b.first p j (nonpivotal_same p s) }

  off_same : (e : ℕ → Type 0) (h : ℕ → ℕ → M) → ZeroOffPivotal o (suc m) d r e h → ZeroOffPivotal o (suc m) d t e h
  off_same e h z = record { bounded = z.bounded; zero_off = λ i k a l s. z.zero_off i k a l (nonpivotal_back (suc m * k plus i) s) }

  dot_same : (h : ℕ → ℕ → M) → dot (series o) (suc m) t h ≡ dot (series o) (suc m) r h
  dot_same h = Sums.total_ext (series o) (S.series_laws o L) (suc m) (λ i. (series o).product (t i) (h i)) (λ i. (series o).product (r i) (h i)) (λ i a. ap (λ x. (series o).product x (h i)) (sym (same i a)))

  columns_same : (p : ℕ → ℕ) (c : ℕ → ℕ → ℕ → M) → FrameColumns o m d r p c → FrameColumns o m d t p c
  columns_same p c f = record {
    places = record { basic = λ j l. basic_same (p j) (f.places.basic j l); rising = f.places.rising; every = λ q b. f.places.every q (basic_back q b) };
    first_off = off_same (λ q. ⊥) (c 0) f.first_off;
    first = dot_same (c 0) ∙ f.first;
    check_off = λ j l. off_same (λ q. q ≡ p j) (c (suc j)) (f.check_off j l);
    check_one = f.check_one;
    check = λ j l. dot_same (c (suc j)) ∙ f.check j l;
  }

module _ {M : Type 0} (o : RingOps M) (F : IsField o) where
  abbrev L : RingLaws o
  L = F.laws.ring

  abbrev SL : RingLaws (series o)
  SL = S.series_laws o L

  -- a vector has one degree
  pub vector_degree_unique : (n : ℕ) (h e : ℕ → ℕ → M) (d b : ℕ) → ((i : ℕ) → i < n → h i ≡ e i) → VectorDegree o n h d → VectorDegree o n e b → d ≡ b
  vector_degree_unique n h e d b same x y = elim (dec_lt d b) [
    | yes l ↦ absurd (y.top (ap (λ (f : ℕ → M). f b) (sym (same y.component y.within)) ∙ x.bounded y.component y.within b l))
    | no l ↦ elim (dec_lt b d) [
      | yes a ↦ absurd (x.top (ap (λ (f : ℕ → M). f d) (same x.component x.within) ∙ y.bounded x.component x.within d a))
      | no a ↦ omega arith
    ]
  ]

  pub frame_exists : (m : ℕ) (a : ℕ → ℕ → M) → ((i : ℕ) → i < suc m → Polynomial o (a i)) → (AllZero o (suc m) a → ⊥)
      → (g : ℕ → M) × (d : ℕ) × (c : ℕ → ℕ → ℕ → M) × IsFrame o m a g d c
  frame_exists m a p n0 =
      let x = G.gcd_exists o F (suc m) a p n0 in
      let g = x.divisor in
      let r = R.divided_row_exists o F (suc m) a g x.gcd in
      let one = R.one_is_combination o F (suc m) a g r.0 x.gcd r.1 in
      let d = R.vector_degree_exists o F (suc m) r.0 r.1.polynomials one in
      let c = Frames.frame_columns_exist o F m d.0 r.0 d.1 one in
      (g, d.0, c.1, record { divisor = x.gcd; row = r.0; divided = r.1; degree = d.1; place = c.0; columns = c.2 })

  pub frame_unique : (m : ℕ) (a : ℕ → ℕ → M) (g h : ℕ → M) (d e : ℕ) (c b : ℕ → ℕ → ℕ → M) → IsFrame o m a g d c
      → IsFrame o m a h e b → (g ≡ h) × (d ≡ e) × ((j i : ℕ) → j < suc m → i < suc m → c j i ≡ b j i)
  frame_unique m a g h d e c b x y =
      let g_same = G.gcd_unique o F (suc m) a g h x.divisor y.divisor in
      let divided : DividedRow o (suc m) a g y.row = subst (λ (t : ℕ → M). DividedRow o (suc m) a t y.row) (sym g_same) y.divided in
      let rows = R.divided_row_unique o F (suc m) a g x.divisor y.row x.row divided x.divided in
      let d_same = vector_degree_unique (suc m) x.row y.row d e (λ i l. sym (rows i l)) x.degree y.degree in
      let columns : FrameColumns o m d y.row y.place b = subst (λ (t : ℕ). FrameColumns o m t y.row y.place b) (sym d_same) y.columns in
      (g_same, d_same, Frames.frame_columns_unique o F m d x.row x.degree x.place y.place c b x.columns (columns_same o L m d y.row x.row rows y.place b columns))

  -- the row times h is the gcd just when the divided row times h is 1
  pub one_of_gcd : (n : ℕ) (a : ℕ → ℕ → M) (g : ℕ → M) (r h : ℕ → ℕ → M) → MonicGcd o n a g → DividedRow o n a g r
      → PolynomialVector o n h → dot (series o) n a h ≡ g → dot (series o) n r h ≡ (series o).one
  one_of_gcd n a g r h x y p e =
      D.product_cancel o F g (dot (series o) n r h) (series o).one (suc x.monic.degree, x.monic.below) (G.combination_polynomial o F n r h y.polynomials p) (B.polynomial_constant o L o.one) (D.degree_nonzero o F g x.monic.degree (G.monic_degree o F g x.monic))
      (sym (R.dot_divided o F n a g r h y) ∙ e ∙ sym (SL.product_one g))

  pub gcd_of_one : (n : ℕ) (a : ℕ → ℕ → M) (g : ℕ → M) (r h : ℕ → ℕ → M) → DividedRow o n a g r
      → dot (series o) n r h ≡ (series o).one → dot (series o) n a h ≡ g
  gcd_of_one n a g r h y e = R.dot_divided o F n a g r h y ∙ ap (λ t. (series o).product g t) e ∙ SL.product_one g

  -- ordered syzygies of the row are those of the divided row
  pub ordered_divided : (n m : ℕ) (a : ℕ → ℕ → M) (g : ℕ → M) (r : ℕ → ℕ → M) (w : ℕ → ℕ → ℕ → M) → MonicGcd o n a g
      → DividedRow o n a g r → OrderedSyzygies o n m a w → OrderedSyzygies o n m r w
  ordered_divided n m a g r w x y s = record { polynomials = s.polynomials; syzygies = λ j l. (R.same_syzygies o F n a g r x y (w j) (s.polynomials j l)).0 (s.syzygies j l); independent = s.independent; never_fall = s.never_fall }

  pub frame_optimal : (m : ℕ) (a : ℕ → ℕ → M) (g : ℕ → M) (d : ℕ) (c : ℕ → ℕ → ℕ → M) → IsFrame o m a g d c → DegreeOptimal o m a g c
  frame_optimal m a g d c x = record {
    divisor = x.divisor;
    first = gcd_of_one (suc m) a g x.row (c 0) x.divided x.columns.first;
    first_least = λ h p e. Optimal.first_least o F m d x.row x.degree x.place c x.columns h (one_of_gcd (suc m) a g x.row h x.divisor x.divided p e);
    basis = λ h p s. Optimal.exactly_one_sum o F m d x.row x.degree x.place c x.columns h p ((R.same_syzygies o F (suc m) a g x.row x.divisor x.divided h p).0 s);
    least = λ w s. Optimal.least_degrees o F m d x.row x.degree x.place c x.columns w (ordered_divided (suc m) m a g x.row w x.divisor x.divided s);
  }

  pub frame_degrees : (m : ℕ) (a : ℕ → ℕ → M) (g : ℕ → M) (d : ℕ) (c : ℕ → ℕ → ℕ → M) → IsFrame o m a g d c
      → (k : ℕ → ℕ) × ((j : ℕ) → j < m → VectorDegree o (suc m) (c (suc j)) (k j)) × (sum_below m k ≡ d)
  frame_degrees m a g d c x = (
    λ j. x.place j / suc m,
    Optimal.check_degree o F m d x.row x.degree x.place c x.columns,
    Optimal.check_degrees_sum o F m d x.row x.degree x.place c x.columns (R.one_is_combination o F (suc m) a g x.row x.divisor x.divided),
  )

  pub optimal_frames : OptimalFrames o
  optimal_frames = record {
    basic_places = λ m a g r d x y v. (Basics.basic_place o F m d r v, Basics.basic_places o F m d r v);
    exists = frame_exists;
    unique = frame_unique;
    optimal = frame_optimal;
    check_degrees = frame_degrees;
    first_degree = λ m a g d c x. x.columns.first_off.bounded;
  }

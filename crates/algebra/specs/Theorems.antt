-- What the theorems of the crate say, over the operations of a field. Each stands on the contract of a function named by it.
use Rattle.std.specs.Prelude.{◌≡◌, ◌⊎◌, ◌↔◌, ℕ, suc, ◌<◌, ◌+◌, ◌-◌}
use Rattle.algebra.specs.Rings.{RingOps, RingLaws}
use Rattle.algebra.specs.Series.{sum_below, total, dot, series, shift, Below, Degree, Polynomial}
use Rattle.algebra.specs.Divisors.{Division, Combination, MonicGcd, GcdOfRow, AllZero, DividedRow, Bounded, VectorDegree, BoundedCombination}
use Rattle.algebra.specs.Places.{BasicPlaces}
use Rattle.algebra.specs.Frames.{IsFrame}
use Rattle.algebra.specs.Optimal.{PolynomialVector, DegreeOptimal}
use Rattle.algebra.specs.DegreeTest.{PassesTest}
use Rattle.algebra.specs.Link.{Encodes, Clean, inverted, OneChanged, DifferAtMost}
use Rattle.algebra.specs.Independence.{All, Solution, Spanned, Dependent, Independent}

-- Series are a commutative ring; a coefficient of a product is the plain sum; s^n f has the coefficients of f, n places up.
pub record SeriesRing {M : Type 0} (o : RingOps M) : Type 0 where
  pub laws : RingLaws (series o)
  pub coefficients : (f g : ℕ → M) (k : ℕ) → (series o).product f g k ≡ total o (suc k) (λ i. o.product (f i) (g (k - i)))
  pub shifted : (n j : ℕ) (f : ℕ → M) → shift o n f (n + j) ≡ f j
  pub shifted_low : (n k : ℕ) (f : ℕ → M) → k < n → shift o n f k ≡ o.zero
  pub shifted_product : (n : ℕ) (f g : ℕ → M) → (series o).product (shift o n f) g ≡ shift o n ((series o).product f g)

-- Bounds and degrees of polynomials; there are no zero divisors; zero and degree are decidable.
pub record PolynomialDegrees {M : Type 0} (o : RingOps M) : Type 0 where
  pub sum_below : (N : ℕ) (f g : ℕ → M) → Below o N f → Below o N g → Below o N ((series o).sum f g)
  pub product_below : (e d : ℕ) (f g : ℕ → M) → Below o (suc e) f → Below o (suc d) g → Below o (suc (e + d)) ((series o).product f g)
  pub shift_below : (n N : ℕ) (f : ℕ → M) → Below o N f → Below o (n + N) (shift o n f)
  pub leading_product : (e d : ℕ) (f g : ℕ → M) → Below o (suc e) f → Below o (suc d) g → (series o).product f g (e + d) ≡ o.product (f e) (g d)
  pub degree_product : (f g : ℕ → M) (e d : ℕ) → Degree o f e → Degree o g d → Degree o ((series o).product f g) (e + d)
  pub degree_unique : (f : ℕ → M) (e d : ℕ) → Degree o f e → Degree o f d → e ≡ d
  pub zero_or_degree : (N : ℕ) (f : ℕ → M) → Below o N f → (f ≡ (series o).zero) ⊎ ((e : ℕ) × (e < N) × Degree o f e)
  pub zero_of_product : (f g : ℕ → M) → Polynomial o f → Polynomial o g → (f ≡ (series o).zero → ⊥)
      → (series o).product f g ≡ (series o).zero → g ≡ (series o).zero
  pub product_cancel : (f g h : ℕ → M) → Polynomial o f → Polynomial o g → Polynomial o h → (f ≡ (series o).zero → ⊥)
      → (series o).product f g ≡ (series o).product f h → g ≡ h

-- Every polynomial can be divided by one that has a degree, and the quotient and the remainder are the only ones.
pub record DivisionWithRemainder {M : Type 0} (o : RingOps M) : Type 0 where
  pub exists : (f b : ℕ → M) (e : ℕ) → Degree o b e → Polynomial o f → Division o e f b
  pub unique : (f b : ℕ → M) (e : ℕ) → Degree o b e → (x y : Division o e f b) → (x.quotient ≡ y.quotient) × (x.remainder ≡ y.remainder)

-- A row of polynomials, not all zero, has a monic greatest common divisor, which is a combination of the row; it has no other.
pub record GreatestCommonDivisor {M : Type 0} (o : RingOps M) : Type 0 where
  pub exists : (n : ℕ) (a : ℕ → ℕ → M) → ((i : ℕ) → i < n → Polynomial o (a i)) → (AllZero o n a → ⊥) → GcdOfRow o n a
  pub unique : (n : ℕ) (a : ℕ → ℕ → M) (g h : ℕ → M) → MonicGcd o n a g → MonicGcd o n a h → g ≡ h
  pub combination : (n : ℕ) (a : ℕ → ℕ → M) (g : ℕ → M) → ((i : ℕ) → i < n → Polynomial o (a i)) → MonicGcd o n a g → Combination o n a g

-- The exchange lemma in the part P of a ring: more unknowns than equations have a solution that is not all zero; more vectors than span
-- them are dependent; of as many independent vectors as span them, a multiple of each spanning vector is a sum of multiples.
pub record Exchange {R : Type 0} (o : RingOps R) (P : R → Type 0) : Type 0 where
  pub solution : (m q : ℕ) (A : ℕ → ℕ → R) → m < q → ((i j : ℕ) → i < m → j < q → P (A i j)) → Solution o P m q A
  pub dependent : (t q w : ℕ) (u v : ℕ → ℕ → R) → t < q → ((j : ℕ) → j < q → Spanned o P t w u (v j)) → Dependent o P q w v
  pub spanning : (t w : ℕ) (u v : ℕ → ℕ → R) → Independent o P t w v → ((j : ℕ) → j < t → Spanned o P t w u (v j))
      → (l : ℕ) → l < t → (c : R) × P c × (c ≡ o.zero → ⊥) × Spanned o P t w v (λ k. o.product c (u l k))

-- It holds of members and of polynomials; as many independent vectors of members as span them span the same.
pub record ExchangeOverField {M : Type 0} (o : RingOps M) : Type 0 where
  pub members : Exchange o All
  pub polynomials : Exchange (series o) (Polynomial o)
  pub same_span : (t w : ℕ) (u v : ℕ → ℕ → M) → Independent o All t w v → ((j : ℕ) → j < t → Spanned o All t w u (v j))
      → (l : ℕ) → l < t → Spanned o All t w v (u l)

-- The row divided by its gcd: it exists, some combination of it is 1, the same vectors are sent to zero, and every polynomial of degree at
-- most 2d, with d its degree, is the row times a vector of degree at most d.
pub record RowDividedByGcd {M : Type 0} (o : RingOps M) : Type 0 where
  pub exists : (n : ℕ) (a : ℕ → ℕ → M) (g : ℕ → M) → MonicGcd o n a g → (r : ℕ → ℕ → M) × DividedRow o n a g r
  pub combination : (n : ℕ) (a : ℕ → ℕ → M) (g : ℕ → M) (r : ℕ → ℕ → M) → MonicGcd o n a g → DividedRow o n a g r → Combination o n r (series o).one
  pub same_syzygies : (n : ℕ) (a : ℕ → ℕ → M) (g : ℕ → M) (r : ℕ → ℕ → M) → MonicGcd o n a g → DividedRow o n a g r
      → (h : ℕ → ℕ → M) → ((i : ℕ) → i < n → Polynomial o (h i))
      → (dot (series o) n a h ≡ (series o).zero) ↔ (dot (series o) n r h ≡ (series o).zero)
  pub degree : (n : ℕ) (a : ℕ → ℕ → M) (g : ℕ → M) (r : ℕ → ℕ → M) → MonicGcd o n a g → DividedRow o n a g r → (d : ℕ) × VectorDegree o n r d
  pub small_combination : (n : ℕ) (a : ℕ → ℕ → M) (g : ℕ → M) (r : ℕ → ℕ → M) (d : ℕ) → MonicGcd o n a g
      → DividedRow o n a g r → VectorDegree o n r d → (f : ℕ → M) → Below o (suc (d + d)) f
      → BoundedCombination o n (suc d) r f

-- The frame of a row of m + 1 polynomials, not all zero.
pub record OptimalFrames {M : Type 0} (o : RingOps M) : Type 0 where
  -- the row divided by its gcd has exactly m basic places
  pub basic_places : (m : ℕ) (a : ℕ → ℕ → M) (g : ℕ → M) (r : ℕ → ℕ → M) (d : ℕ) → MonicGcd o (suc m) a g
      → DividedRow o (suc m) a g r → VectorDegree o (suc m) r d → (p : ℕ → ℕ) × BasicPlaces o (suc m) d r m p
  -- the frame exists and is the only one
  pub exists : (m : ℕ) (a : ℕ → ℕ → M) → ((i : ℕ) → i < suc m → Polynomial o (a i)) → (AllZero o (suc m) a → ⊥)
      → (g : ℕ → M) × (d : ℕ) × (c : ℕ → ℕ → ℕ → M) × IsFrame o m a g d c
  pub unique : (m : ℕ) (a : ℕ → ℕ → M) (g h : ℕ → M) (d e : ℕ) (c b : ℕ → ℕ → ℕ → M) → IsFrame o m a g d c
      → IsFrame o m a h e b → (g ≡ h) × (d ≡ e) × ((j i : ℕ) → j < suc m → i < suc m → c j i ≡ b j i)
  -- it is degree-optimal
  pub optimal : (m : ℕ) (a : ℕ → ℕ → M) (g : ℕ → M) (d : ℕ) (c : ℕ → ℕ → ℕ → M) → IsFrame o m a g d c → DegreeOptimal o m a g c
  -- the degrees of its check columns add up to d, and that of column 0 is at most d
  pub check_degrees : (m : ℕ) (a : ℕ → ℕ → M) (g : ℕ → M) (d : ℕ) (c : ℕ → ℕ → ℕ → M) → IsFrame o m a g d c
      → (k : ℕ → ℕ) × ((j : ℕ) → j < m → VectorDegree o (suc m) (c (suc j)) (k j)) × (sum_below m k ≡ d)
  pub first_degree : (m : ℕ) (a : ℕ → ℕ → M) (g : ℕ → M) (d : ℕ) (c : ℕ → ℕ → ℕ → M) → IsFrame o m a g d c → Bounded o (suc m) (suc d) (c 0)

-- Columns of polynomials pass the test by degrees exactly when they are degree-optimal.
pub record TestByDegrees {M : Type 0} (o : RingOps M) : Type 0 where
  pub exact : (m : ℕ) (a : ℕ → ℕ → M) (g : ℕ → M) (r : ℕ → ℕ → M) (d : ℕ) (c : ℕ → ℕ → ℕ → M) → MonicGcd o (suc m) a g
      → DividedRow o (suc m) a g r → VectorDegree o (suc m) r d → ((j : ℕ) → j < suc m → PolynomialVector o (suc m) (c j))
      → PassesTest o m a g d c ↔ DegreeOptimal o m a g c

-- The link over degree-optimal columns with divisor 1, for a row a of degree d.
pub record CleanLink {M : Type 0} (o : RingOps M) : Type 0 where
  -- a block of L + d times is clean exactly when it encodes a message of L symbols
  pub clean : (m : ℕ) (a : ℕ → ℕ → M) (d : ℕ) (c : ℕ → ℕ → ℕ → M) → VectorDegree o (suc m) a d
      → ((j : ℕ) → j < suc m → PolynomialVector o (suc m) (c j)) → DegreeOptimal o m a (series o).one c
      → (L : ℕ) (v : ℕ → ℕ → M) → Bounded o (suc m) (L + d) v
      → Clean o m c v ↔ ((message : ℕ → M) × Encodes o (suc m) a L message v)
  -- and inverting gives that message
  pub inverts : (m : ℕ) (a : ℕ → ℕ → M) (c : ℕ → ℕ → ℕ → M) → DegreeOptimal o m a (series o).one c
      → (L : ℕ) (message : ℕ → M) (v : ℕ → ℕ → M) → Encodes o (suc m) a L message v → inverted o m c v ≡ message
  -- an encoded block has L + d times
  pub encoded_length : (m : ℕ) (a : ℕ → ℕ → M) (d : ℕ) → VectorDegree o (suc m) a d
      → (L : ℕ) (message : ℕ → M) (v : ℕ → ℕ → M) → Encodes o (suc m) a L message v → Bounded o (suc m) (L + d) v
  -- one changed symbol changes at most (degree of column 0) + 1 symbols of what inverting gives
  pub one_changed : (m : ℕ) (c : ℕ → ℕ → ℕ → M) (e : ℕ) → VectorDegree o (suc m) (c 0) e → (i t : ℕ) (v w : ℕ → ℕ → M)
      → i < suc m → OneChanged (suc m) i t v w → DifferAtMost (suc e) (inverted o m c v) (inverted o m c w)

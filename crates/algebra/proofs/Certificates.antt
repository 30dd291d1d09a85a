-- Given columns are the frame where finitely many coefficients say so. Main results: leading_place_of_sum (the leading place of a sum of
-- multiples of vectors in distinct classes is one of theirs, shifted), frame_of_certificate.
use mathlib.Core.Path.{◌≡◌, sym, ap, ◌∙◌, subst}
use mathlib.Core.Logic.{◌⊎◌, inl, inr}
use Prim.Native.Nat.{ℕ, zero, suc, ◌≤◌, ◌<◌, zero-le, suc-le-suc, ◌*◌, ◌/◌, ◌%◌, ◌-◌, ◌+◌ as ◌plus◌}
use native.Mathlib.Nat.{le_refl, eq-or-lt_of_le, mod-lt, div-add-mod, mul-add, mul-suc, mul-zero, mul-le-mul_left, eq_of_mul-eq-mul_left, add-mul-mod_self_left}
use native.Mathlib.Decide.{dec_le, ℕ_discrete}
use native.Mathlib.Omega.{arith}
use Rattle.algebra.specs.Rings.{RingOps, RingLaws, IsField}
use Rattle.algebra.specs.Series.{sum_below, total, dot, series, Below, Polynomial}
use Rattle.algebra.specs.Divisors.{Bounded, Divides, Combination, Monic, MonicGcd, DividedRow, VectorDegree}
use Rattle.algebra.specs.Places.{NonPivotal, Basic, BasicPlaces}
use Rattle.algebra.specs.Frames.{FrameColumns, IsFrame}
use Rattle.algebra.proofs.Sums as Sums
use Rattle.algebra.proofs.Series as S
use Rattle.algebra.proofs.Fields as Fields
use Rattle.algebra.proofs.Bounds as B
use Rattle.algebra.proofs.Division as V
use Rattle.algebra.proofs.Naturals as Naturals
use Rattle.algebra.proofs.Counting as Counting
use Rattle.algebra.proofs.Places as Places
use Rattle.algebra.proofs.Places.{at, BelowPlace}
use Rattle.algebra.proofs.Reduction as Reduction
use Rattle.algebra.proofs.Syzygies as Syzygies
use Rattle.algebra.proofs.Syzygies.{SyzygyAt}
use Rattle.algebra.proofs.LeadingVectors as Leading
use Rattle.algebra.proofs.TestPassed as Passed

-- vectors w with leading places p in distinct classes, and multipliers x
module _ {M : Type 0} (o : RingOps M) (F : IsField o) (n : ℕ) (positive : zero < n) (m : ℕ) (w : ℕ → ℕ → ℕ → M) (p : ℕ → ℕ)
    (w_below : (j : ℕ) → j < m → BelowPlace o n (suc (p j)) (w j)) (w_leading : (j : ℕ) → j < m → at n (w j) (p j) ≡ o.one)
    (distinct : (i j : ℕ) → i < m → j < m → p i % n ≡ p j % n → i ≡ j) where
  abbrev L : RingLaws o
  L = F.laws.ring

  open o use {zero as O, one as I, product as ◌⊙◌}
  open series o use {product as ◌·◌}

  infixl 70 ◌·◌
  infixl 70 ◌⊙◌
  -- no term reaches the place T
  abbrev PlacesBelow : ℕ → (ℕ → ℕ → M) → Type 0
  PlacesBelow T x = (j e : ℕ) → j < m → T ≤ p j plus n * e → x j e ≡ O

  same_class : (j l e a : ℕ) → j < m → l < m → p j plus n * e ≡ p l plus n * a → j ≡ l
  same_class j l e a b c q = distinct j l b c (sym (add-mul-mod_self_left (p j) n e) ∙ ap (λ t. t % n) q ∙ add-mul-mod_self_left (p l) n a)

  -- a product of coefficients at a place T that no term exceeds vanishes, but for the leading ones
  term : (T : ℕ) (x : ℕ → ℕ → M) → PlacesBelow (suc T) x → (l i k a b : ℕ) → l < m → i < n → n * k plus i ≡ T
      → a plus b ≡ k → (p l plus n * a ≡ T → ⊥) → x l a ⊙ w l i b ≡ O
  term T x z l i k a b c h q s ne = go (dec_le (suc T) (p l plus n * a))
    where
      places : n * k ≡ n * a plus n * b
      places = ap (λ t. n * t) (sym s) ∙ mul-add n a b

      go : Dec (suc T ≤ p l plus n * a) → x l a ⊙ w l i b ≡ O
      go (yes y) = ap (λ t. t ⊙ w l i b) (z l a c y) ∙ Sums.zero_product o L (w l i b)
      go (no y) = ap (λ t. x l a ⊙ t) (w_below l c i b h above) ∙ Sums.product_zero o L (x l a)
        where
          above : suc (p l) ≤ n * b plus i
          above = elim (dec_le (suc (p l)) (n * b plus i)) [ yes g ↦ g | no g ↦ absurd (ne (let e = places in omega arith)) ]

  no_term : (T : ℕ) (x : ℕ → ℕ → M) → PlacesBelow (suc T) x → (l i k : ℕ) → l < m → i < n → n * k plus i ≡ T
      → ((a : ℕ) → p l plus n * a ≡ T → ⊥) → (x l · w l i) k ≡ O
  no_term T x z l i k c h q ne = S.coefficient_zero o L (x l) (w l i) k (λ a b s. term T x z l i k a b c h q s (ne a))

  one_term : (T : ℕ) (x : ℕ → ℕ → M) → PlacesBelow (suc T) x → (j e i k : ℕ) → j < m → i < n → n * k plus i ≡ T
      → p j plus n * e ≡ T → (x j · w j i) k ≡ x j e
  one_term T x z j e i k c h q s =
      let le : e ≤ k = Reduction.power_le o F n positive e k i h (omega arith) in
      let b = k - e in
      let split : k ≡ e plus b = omega arith in
      let places = ap (λ t. n * t) split ∙ mul-add n e b in
      let same : n * b plus i ≡ p j = omega arith in
      S.coefficient_one_term o L (x j) (w j i) k e b (omega arith) (λ a y g ne. term T x z j i k a y c h q g (λ u. ne (eq_of_mul-eq-mul_left n positive a e (omega arith))))
      ∙ ap (λ t. x j e ⊙ t) (sym (Places.at_place n positive (w j) i b h) ∙ ap (at n (w j)) same ∙ w_leading j c)
      ∙ L.product_one (x j e)

  module _ (x : ℕ → ℕ → M) (h : ℕ → ℕ → M) (is : (i : ℕ) → i < n → h i ≡ total (series o) m (λ j. x j · w j i)) where
    at_sum : (T : ℕ) → at n h T ≡ total o m (λ j. (x j · w j (T % n)) (T / n))
    at_sum T = ap (λ (f : ℕ → M). f (T / n)) (is (T % n) (mod-lt T positive)) ∙ S.total_at o L m (λ j. x j · w j (T % n)) (T / n)

    down : (T : ℕ) → PlacesBelow (suc T) x → at n h T ≡ O → PlacesBelow T x
    down T z e j a b l = go (eq-or-lt_of_le l)
      where
        go : (T ≡ p j plus n * a) ⊎ (T < p j plus n * a) → x j a ≡ O
        go (inr less) = z j a b less
        go (inl same) =
            sym (one_term T x z j a (T % n) (T / n) b (mod-lt T positive) (div-add-mod T n) (sym same))
            ∙ sym (Sums.total_one o L m j (λ q. (x q · w q (T % n)) (T / n)) b (λ q c ne. no_term T x z q (T % n) (T / n) c (mod-lt T positive) (div-add-mod T n) (λ y g. ne (same_class q j y a c b (g ∙ same)))))
            ∙ sym (at_sum T)
            ∙ e

    descend : (t Q : ℕ) → BelowPlace o n Q h → PlacesBelow (Q plus t) x → PlacesBelow Q x
    descend zero Q b z = λ j a c l. z j a c (omega arith)
    descend (suc t) Q b z = descend t Q b (down (Q plus t) (λ j a c l. z j a c (omega arith)) (Places.below_place_at n positive o Q h b (Q plus t) (omega arith)))

    -- the leading place of a sum of multiples is the leading place of a vector, shifted
    pub leading_place_of_sum : ((j : ℕ) → j < m → Polynomial o (x j)) → (q : ℕ) → BelowPlace o n (suc q) h
        → (at n h q ≡ O → ⊥) → (j : ℕ) × (j < m) × (e : ℕ) × (q ≡ p j plus n * e)
    leading_place_of_sum polynomials q b ne = go (Naturals.all_or_not m (λ j. (e : ℕ) → p j plus n * e ≡ q → ⊥) (λ j. (e : ℕ) × (q ≡ p j plus n * e)) (λ j c. decide j (dec_le (p j) q) (ℕ_discrete (p j % n) (q % n))))
      where
        decide : (j : ℕ) → Dec (p j ≤ q) → Dec (p j % n ≡ q % n) → ((e : ℕ) → p j plus n * e ≡ q → ⊥) ⊎ ((e : ℕ) × (q ≡ p j plus n * e))
        decide j (no l) c = inl (λ e s. l (omega arith))
        decide j (yes l) (no c) = inl (λ e s. c (sym (add-mul-mod_self_left (p j) n e) ∙ ap (λ t. t % n) s))
        decide j (yes l) (yes c) =
            let e₁ = div-add-mod (p j) n in
            let e₂ = div-add-mod q n in
            let le : p j / n ≤ q / n = Reduction.power_le o F n positive (p j / n) (q / n) (q % n) (mod-lt q positive) (omega arith) in
            let e = q / n - p j / n in
            let split : q / n ≡ p j / n plus e = omega arith in
            let places = ap (λ t. n * t) split ∙ mul-add n (p j / n) e in
            inr (e, omega arith)

        bounds : (K : ℕ) × ((j : ℕ) → j < m → Below o K (x j))
        bounds = B.common_bound o L m x polynomials

        below : PlacesBelow (suc q) x
        below = descend (n * bounds.0 plus (Naturals.common_top m p).0) (suc q) b (λ j a c l. bounds.1 j c a (let y = (Naturals.common_top m p).1 j c in large a (omega arith)))
          where
            large : (a : ℕ) → n * bounds.0 ≤ n * a → bounds.0 ≤ a
            large a l = Reduction.power_le o F n positive bounds.0 a 0 positive (omega arith)

        go : ((j : ℕ) → j < m → (e : ℕ) → p j plus n * e ≡ q → ⊥) ⊎ ((j : ℕ) × (j < m) × ((e : ℕ) × (q ≡ p j plus n * e)))
            → (j : ℕ) × (j < m) × (e : ℕ) × (q ≡ p j plus n * e)
        go (inr (j, c, e)) = (j, c, e.0, e.1)
        go (inl none) = absurd (ne (at_sum q ∙ Sums.total_zero o L m (λ j. (x j · w j (q % n)) (q / n)) (λ j c. no_term q x below j (q % n) (q / n) c (mod-lt q positive) (div-add-mod q n) (none j c))))

-- what shows that g and the columns c are the frame of the row a: r is the row divided by g, of degree d, and p are the leading places of the check columns
pub record FrameCertificate {M : Type 0} (o : RingOps M) (m : ℕ) (a : ℕ → ℕ → M) (g : ℕ → M) (d : ℕ) (c : ℕ → ℕ → ℕ → M) (r : ℕ → ℕ → M) (p : ℕ → ℕ) : Type 0 where
  pub monic : Monic o g
  pub divided : DividedRow o (suc m) a g r
  pub degree : VectorDegree o (suc m) r d
  pub first : dot (series o) (suc m) r (c 0) ≡ (series o).one
  pub first_bounded : Bounded o (suc m) (suc d) (c 0)
  pub check : (j : ℕ) → j < m → dot (series o) (suc m) r (c (suc j)) ≡ (series o).zero
  pub below : (j : ℕ) → j < m → BelowPlace o (suc m) (suc (p j)) (c (suc j))
  pub leading : (j : ℕ) → j < m → at (suc m) (c (suc j)) (p j) ≡ o.one
  pub rising : (i j : ℕ) → i < j → j < m → p i < p j
  pub distinct : (i j : ℕ) → i < m → j < m → p i % suc m ≡ p j % suc m → i ≡ j
  pub powers_sum : sum_below m (λ j. p j / suc m) ≡ d
  pub first_off : (l e i k : ℕ) → l < m → i < suc m → k < suc d → suc m * k plus i ≡ p l plus suc m * e → c 0 i k ≡ o.zero
  pub check_off : (j l e i k : ℕ) → j < m → l < m → i < suc m → k < suc d → suc m * k plus i ≡ p l plus suc m * e
      → (suc m * k plus i ≡ p j → ⊥) → c (suc j) i k ≡ o.zero

module _ {M : Type 0} (o : RingOps M) (F : IsField o) (m : ℕ) (a : ℕ → ℕ → M) (g : ℕ → M) (d : ℕ) (c : ℕ → ℕ → ℕ → M) (r : ℕ → ℕ → M) (p : ℕ → ℕ) (x : FrameCertificate o m a g d c r p) where
  abbrev n : ℕ
  n = suc m

  n_positive : zero < n
  n_positive = suc-le-suc zero-le

  abbrev ring : RingLaws o
  ring = F.laws.ring

  abbrev w : ℕ → ℕ → ℕ → M
  w j = c (suc j)

  one : Combination o n r (series o).one
  one = record { vector = c 0; polynomials = λ i l. (suc d, x.first_bounded i l); is = x.first }

  degrees : (j : ℕ) → j < m → VectorDegree o n (w j) (p j / n)
  degrees j l = record { bounded = Leading.leading_bounded o ring n n_positive m w p x.below x.leading j l; component = p j % n; within = mod-lt (p j) n_positive; top = λ z. Fields.one_nonzero o F (sym (x.leading j l) ∙ z) }

  never_fall : (j : ℕ) → suc j < m → p j / n ≤ p (suc j) / n
  never_fall j l =
      let e = x.rising j (suc j) (le_refl (suc j)) l in
      let b = div-add-mod (p j) n in
      let f = div-add-mod (p (suc j)) n in
      Reduction.power_le o F n n_positive (p j / n) (p (suc j) / n) (p (suc j) % n) (mod-lt (p (suc j)) n_positive) (omega arith)

  -- every non-pivotal place is a leading place of a check column, shifted
  nonpivotal_is : (q : ℕ) → q < n * suc d → NonPivotal o n d r q → (j : ℕ) × (j < m) × (e : ℕ) × (q ≡ p j plus n * e)
  nonpivotal_is q l s =
      let z = Syzygies.syzygy_of_nonpivotal o F n n_positive d r x.degree.bounded q l s in
      let b = Places.bounded_of_below_place n n_positive o (suc q) (suc d) z.vector l z.below in
      let y = Passed.basis o F m d r x.degree one w (λ j. p j / n) x.check degrees never_fall x.powers_sum (Leading.echelon_independent o ring n n_positive m w p x.below x.leading x.distinct) z.vector (λ i h. (suc d, b i h)) z.syzygy in
      leading_place_of_sum o F n n_positive m w p x.below x.leading x.distinct y.factor z.vector y.is y.polynomials q z.below (λ e. Fields.one_nonzero o F (sym z.leading ∙ e))

  power_le_d : (j : ℕ) → j < m → p j / n ≤ d
  power_le_d j l = let e = Counting.sum_member m (λ i. p i / n) j l in let s = x.powers_sum in omega arith

  place_small : (j : ℕ) → j < m → p j < n * suc d
  place_small j l =
      let e = div-add-mod (p j) n in
      let b = mod-lt (p j) n_positive in
      let s = mul-le-mul_left n (power_le_d j l) in
      let t = mul-suc n d in
      omega arith

  check_syzygy : (j : ℕ) → j < m → SyzygyAt o n r (p j)
  check_syzygy j l = record { vector = w j; below = x.below j l; leading = x.leading j l; syzygy = x.check j l }

  basic : (j : ℕ) → j < m → Basic o n d r (p j)
  basic j l = record { within = place_small j l; non_pivotal = Syzygies.nonpivotal_of_syzygy o F n n_positive d r x.degree.bounded (p j) (check_syzygy j l); first = no_smaller }
    where
      no_smaller : (q t : ℕ) → NonPivotal o n d r q → p j ≡ q plus n * suc t → ⊥
      no_smaller q t s e =
          let small = place_small j l in
          let y = nonpivotal_is q (omega arith) s in
          let z = y.3 in
          let same : j ≡ y.0 = x.distinct j y.0 l y.1 (ap (λ u. u % n) e ∙ add-mul-mod_self_left q n (suc t) ∙ ap (λ u. u % n) z ∙ add-mul-mod_self_left (p y.0) n y.2) in
          let b = ap p same in
          let u = mul-suc n t in
          omega arith

  places : BasicPlaces o n d r m p
  places = record { basic = basic; rising = x.rising; every = every }
    where
      every : (q : ℕ) → Basic o n d r q → (j : ℕ) × (j < m) × (p j ≡ q)
      every q b = go (nonpivotal_is q b.within b.non_pivotal)
        where
          from : (j : ℕ) → j < m → (e : ℕ) → q ≡ p j plus n * e → p j ≡ q
          from j l zero s = let z = mul-zero n in omega arith
          from j l (suc t) s = absurd (b.first (p j) t (basic j l).non_pivotal s)

          go : (j : ℕ) × (j < m) × (e : ℕ) × (q ≡ p j plus n * e) → (j : ℕ) × (j < m) × (p j ≡ q)
          go (j, l, e, s) = (j, l, from j l e s)

  -- the divisor is the monic gcd, since column 0 makes it a combination of the row
  divisor : MonicGcd o n a g
  divisor = record {
    monic = x.monic;
    divides = λ i l. record { quotient = r i; polynomial = x.divided.polynomials i l; is = x.divided.is i l };
    greatest = λ h q b. subst (Divides o h) row_first (V.divides_dot o F n h a (c 0) b (λ i l. (suc d, x.first_bounded i l)));
  }
    where
      SL : RingLaws (series o)
      SL = S.series_laws o ring

      row_first : dot (series o) n a (c 0) ≡ g
      row_first =
          Sums.total_ext (series o) SL n (λ i. (series o).product (a i) (c 0 i)) (λ i. (series o).product g ((series o).product (r i) (c 0 i))) (λ i l. ap (λ t. (series o).product t (c 0 i)) (sym (x.divided.is i l)) ∙ SL.product_assoc g (r i) (c 0 i))
          ∙ Sums.total_scale (series o) SL n g (λ i. (series o).product (r i) (c 0 i))
          ∙ ap (λ t. (series o).product g t) x.first
          ∙ SL.product_one g

  columns : FrameColumns o m d r p c
  columns = record {
    places = places;
    first_off = record { bounded = x.first_bounded; zero_off = λ i k l h s ne. let y = nonpivotal_is (n * k plus i) (small i k l h) s in x.first_off y.0 y.2 i k y.1 l h y.3 };
    first = x.first;
    check_off = λ j b. record { bounded = Places.bounded_of_below_place n n_positive o (suc (p j)) (suc d) (w j) (place_small j b) (x.below j b); zero_off = λ i k l h s ne. let y = nonpivotal_is (n * k plus i) (small i k l h) s in x.check_off j y.0 y.2 i k b y.1 l h y.3 ne };
    check_one = λ j i k b l e. sym (Places.at_place n n_positive (w j) i k l) ∙ ap (at n (w j)) e ∙ x.leading j b;
    check = x.check;
  }
    where
      small : (i k : ℕ) → i < n → k < suc d → n * k plus i < n * suc d
      small i k l h =
          let s = mul-le-mul_left n h in
          let t = mul-suc n k in
          omega arith

  pub frame_of_certificate : IsFrame o m a g d c
  frame_of_certificate = record { divisor = divisor; row = r; divided = x.divided; degree = x.degree; place = p; columns = columns }

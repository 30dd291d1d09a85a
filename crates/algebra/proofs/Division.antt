-- Division of polynomials over a field. Main results: divide (division with remainder), division_unique, divides_trans, divides_dot (a divisor of a row
-- divides its combinations).
use mathlib.Core.Path.{◌≡◌, refl, sym, ap, ap₂, ◌∙◌, subst}
use mathlib.Core.List.{[], ◌∷◌}
use Prim.Native.Nat.{ℕ, zero, suc, ◌≤◌, ◌<◌, ◌-◌, zero-le, suc-le-suc, ◌+◌ as ◌plus◌}
use native.Mathlib.Decide.{dec_le}
use native.Mathlib.Omega.{arith}
use Rattle.algebra.specs.Rings.{RingOps, RingLaws, IsField}
use Rattle.algebra.specs.Series.{dot, constant, series, shift, Below, Degree, Polynomial}
use Rattle.algebra.specs.Divisors.{Division, Divides}
use Rattle.algebra.proofs.Sums as Sums
use Rattle.algebra.proofs.Solver.{solve, var, 𝟎, ◌⊞◌, ◌⊠◌, neg}
use Rattle.algebra.proofs.Series as S
use Rattle.algebra.proofs.Bounds as B
use Rattle.algebra.proofs.Degrees as D

module _ {M : Type 0} (o : RingOps M) (F : IsField o) where
  abbrev L : RingLaws o
  L = F.laws.ring

  abbrev SL : RingLaws (series o)
  SL = S.series_laws o L

  open o use {zero as O, one as I, product as ◌⊙◌, negative as minus}
  open series o use {zero as 𝟘, one as 𝟙, sum as ◌+◌, negative as -◌, product as ◌·◌}

  infixl 60 ◌+◌
  infixl 70 ◌·◌
  infixl 70 ◌⊙◌
  infix 80 -◌
  -- c with c (b e) = f N, where b has degree e
  leading_ratio : (f b : ℕ → M) (e N : ℕ) → Degree o b e → (c : M) × (b e ⊙ c ≡ f N)
  leading_ratio f b e N d =
      let z = F.inverts (b e) d.top in
      (z.0 ⊙ f N, sym (L.product_assoc (b e) z.0 (f N)) ∙ ap (λ t. t ⊙ f N) z.1 ∙ Sums.one_product o L (f N))

  step_is : (f b t q r : ℕ → M) → f + (- (b · t)) ≡ b · q + r → f ≡ b · (q + t) + r
  step_is f b t q r e =
      solve (series o) SL (f ∷ b ∷ t ∷ []) (var 0) (var 0 ⊞ neg (var 1 ⊠ var 2) ⊞ var 1 ⊠ var 2) refl
      ∙ ap (λ x. x + b · t) e
      ∙ solve (series o) SL (b ∷ q ∷ r ∷ t ∷ []) (var 0 ⊠ var 1 ⊞ var 2 ⊞ var 0 ⊠ var 3) (var 0 ⊠ (var 1 ⊞ var 3) ⊞ var 2) refl

  -- while f reaches up to e, subtract the multiple c s^j b that takes its top coefficient away
  pub divide : (N : ℕ) (f b : ℕ → M) (e : ℕ) → Degree o b e → Below o N f → Division o e f b
  divide zero f b e d h = record { quotient = 𝟘; remainder = f; polynomial = B.polynomial_zero o L; small = B.below_mono o L 0 e f zero-le h; is = solve (series o) SL (f ∷ b ∷ []) (var 0) (var 1 ⊠ 𝟎 ⊞ var 0) refl }
  divide (suc N) f b e d h = go (dec_le (suc N) e) (λ g. divide N g b e d)
    where
      go : Dec (suc N ≤ e) → ((g : ℕ → M) → Below o N g → Division o e g b) → Division o e f b
      go (yes l) rest = record { quotient = 𝟘; remainder = f; polynomial = B.polynomial_zero o L; small = B.below_mono o L (suc N) e f l h; is = solve (series o) SL (f ∷ b ∷ []) (var 0) (var 1 ⊠ 𝟎 ⊞ var 0) refl }
      go (no l) rest =
          let j = N - e in
          let fits : e plus j ≡ N = omega arith in
          let c = leading_ratio f b e N d in
          let t = shift o j (constant o c.0) in
          let t_below : Below o (suc j) t = B.below_shift o L j 1 (suc j) (constant o c.0) (omega arith) (B.below_constant o L c.0) in
          let top : (b · t) N ≡ f N = ap (b · t) (sym fits) ∙ B.leading_product o L e j b t d.below t_below ∙ ap (λ x. b e ⊙ x) (S.shift_at o L j j 0 (constant o c.0) (omega arith)) ∙ c.1 in
          let g = f + (- (b · t)) in
          let g_below : Below o N g = B.below_top o L N g (B.below_sum o L (suc N) f (- (b · t)) h (B.below_negative o L (suc N) (b · t) (B.below_product o L (suc e) (suc j) (suc N) b t (omega arith) d.below t_below))) (ap (λ x. o.sum (f N) (minus x)) top ∙ L.sum_negative (f N)) in
          let r = rest g g_below in
          record {
            quotient = r.quotient + t;
            remainder = r.remainder;
            polynomial = B.polynomial_sum o L r.quotient t r.polynomial (suc j, t_below);
            small = r.small;
            is = step_is f b t r.quotient r.remainder r.is;
          }

  pub divides_refl : (f : ℕ → M) → Divides o f f
  divides_refl f = record { quotient = 𝟙; polynomial = B.polynomial_constant o L I; is = SL.product_one f }

  pub divides_zero : (f : ℕ → M) → Divides o f 𝟘
  divides_zero f = record { quotient = 𝟘; polynomial = B.polynomial_zero o L; is = Sums.product_zero (series o) SL f }

  pub divides_trans : (f g h : ℕ → M) → Divides o f g → Divides o g h → Divides o f h
  divides_trans f g h p q = record {
    quotient = p.quotient · q.quotient;
    polynomial = B.polynomial_product o L p.quotient q.quotient p.polynomial q.polynomial;
    is = sym (SL.product_assoc f p.quotient q.quotient) ∙ ap (λ t. t · q.quotient) p.is ∙ q.is;
  }

  pub divides_sum : (f g h : ℕ → M) → Divides o f g → Divides o f h → Divides o f (g + h)
  divides_sum f g h p q = record {
    quotient = p.quotient + q.quotient;
    polynomial = B.polynomial_sum o L p.quotient q.quotient p.polynomial q.polynomial;
    is = SL.product_sum f p.quotient q.quotient ∙ ap₂ ◌+◌ p.is q.is;
  }

  pub divides_product : (f g h : ℕ → M) → Divides o f g → Polynomial o h → Divides o f (g · h)
  divides_product f g h p q = record {
    quotient = p.quotient · h;
    polynomial = B.polynomial_product o L p.quotient h p.polynomial q;
    is = sym (SL.product_assoc f p.quotient h) ∙ ap (λ t. t · h) p.is;
  }

  -- a divisor of a row divides its combinations
  pub divides_dot : (n : ℕ) (f : ℕ → M) (a h : ℕ → ℕ → M) → ((i : ℕ) → i < n → Divides o f (a i))
      → ((i : ℕ) → i < n → Polynomial o (h i)) → Divides o f (dot (series o) n a h)
  divides_dot zero f a h d p = divides_zero f
  divides_dot (suc n) f a h d p =
      divides_sum f (a 0 · h 0) (dot (series o) n (λ i. a (suc i)) (λ i. h (suc i)))
      (divides_product f (a 0) (h 0) (d 0 (suc-le-suc zero-le)) (p 0 (suc-le-suc zero-le)))
      (divides_dot n f (λ i. a (suc i)) (λ i. h (suc i)) (λ i l. d (suc i) (suc-le-suc l)) (λ i l. p (suc i) (suc-le-suc l)))

  -- quotient and remainder are the only ones
  pub division_unique : (f b : ℕ → M) (e : ℕ) → Degree o b e → (x y : Division o e f b) → (x.quotient ≡ y.quotient) × (x.remainder ≡ y.remainder)
  division_unique f b e d x y = (quotients, remainders)
    where
      difference : ℕ → M
      difference = x.quotient + (- y.quotient)

      product_is : b · difference ≡ y.remainder + (- x.remainder)
      product_is =
          solve (series o) SL (b ∷ x.quotient ∷ x.remainder ∷ y.quotient ∷ y.remainder ∷ []) (var 0 ⊠ (var 1 ⊞ neg (var 3))) (var 0 ⊠ var 1 ⊞ var 2 ⊞ neg (var 0 ⊠ var 3 ⊞ var 4) ⊞ (var 4 ⊞ neg (var 2))) refl
          ∙ ap (λ t. t + (y.remainder + (- x.remainder))) (ap₂ (λ s t. s + (- t)) (sym x.is) (sym y.is) ∙ SL.sum_negative f)
          ∙ Sums.zero_sum (series o) SL (y.remainder + (- x.remainder))

      difference_zero : difference ≡ 𝟘
      difference_zero =
          B.zero_of_below o L difference
          (D.below_factor o F b difference e 0 e d
          (B.polynomial_sum o L x.quotient (- y.quotient) x.polynomial (B.polynomial_negative o L y.quotient y.polynomial))
          (omega arith)
          (subst (Below o e) (sym product_is) (B.below_sum o L e y.remainder (- x.remainder) y.small (B.below_negative o L e x.remainder x.small))))

      quotients : x.quotient ≡ y.quotient
      quotients = Sums.equal_of_difference (series o) SL x.quotient y.quotient difference_zero

      remainders : x.remainder ≡ y.remainder
      remainders =
          Sums.sum_cancel (series o) SL (b · x.quotient) x.remainder y.remainder
          (sym x.is ∙ y.is ∙ ap (λ t. b · t + y.remainder) (sym quotients))

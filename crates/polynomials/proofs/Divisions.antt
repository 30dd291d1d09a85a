-- The loops of long division and of products. Main results: reduced_step and divided_step (one turn), reduced_all, multiplied_step,
-- exactly_divided.
use Rattle.std.proofs.Common.{◌≡◌, ℕ, suc, ◌+◌, ◌-◌, ◌<◌, ◌≤◌, List, length, sym, refl, ap, ◌∙◌, subst, ap₂, arith}
use mathlib.Core.Path.{fun_ext}
use native.Mathlib.Decide.{dec_lt, ℕ_discrete}
use lib.ListN.{set}
use Rattle.algebra.specs.Divisors.{Division, Divides}
use Rattle.algebra.specs.Rings.{RingOps, RingLaws, IsField}
use Rattle.algebra.specs.Series.{series, constant, shift, scale, Below, Degree, Polynomial}
use Rattle.algebra.proofs.Bounds as B
use Rattle.algebra.proofs.Division.{division_unique}
use Rattle.algebra.proofs.Sums as Sums
use Rattle.algebra.proofs.Series.{series_laws, shift_at, shift_low}
use Rattle.tables.specs.Places.{at, poly_at}
use Rattle.polynomials.specs.Polynomials.{LeavesRemainder}
use Rattle.polynomials.proofs.LongDivision as Long
use Rattle.tables.proofs.Parts as P
use Rattle.tables.proofs.Places.{at_past, at_set_same, at_set_other}

module _ {R : Type 0} (o : RingOps R) (L : RingLaws o) where
  abbrev SL : RingLaws (series o)
  SL = series_laws o L

  -- f = b q + g, and g is below s^k
  abbrev pub Divided : ℕ → (f b q g : ℕ → R) → Type 0
  Divided k f b q g = (f ≡ (series o).sum ((series o).product b q) g) × Below o k g

  pub divided_none : (k : ℕ) (f b q : ℕ → R) → Below o k f → q ≡ (series o).zero → Divided k f b q f
  divided_none k f b q below z = (
    sym (ap (λ t. (series o).sum ((series o).product b t) f) z ∙ ap (λ t. (series o).sum t f) (Sums.product_zero (series o) SL b) ∙ Sums.zero_sum (series o) SL f),
    below,
  )

  -- the top coefficient of what is left is taken away
  pub divided_step : (e top k j : ℕ) (r z : R) (f b q g h : ℕ → R)
      → Below o (suc e) b → o.product (b e) z ≡ o.one → k ≡ j + e → top ≡ suc k → r ≡ o.product z (g k)
      → h ≡ (series o).sum g (shift o j (scale o (o.negative r) b))
      → Divided top f b q g → Divided k f b ((series o).sum q (shift o j (constant o r))) h
  divided_step e top k j r z f b q g h bb unit k_is top_is r_is next inv = (
    Long.step_is o L f b q g h j r inv.0 next,
    Long.top_cancels o L b g h k e j r z k_is unit r_is bb (subst (λ n. Below o n g) top_is inv.1) next,
  )

  -- the same for some quotient
  abbrev pub Reduced : ℕ → (f b g : ℕ → R) → Type 0
  Reduced k f b g = (q : ℕ → R) × Polynomial o q × Divided k f b q g

  pub reduced_none : (k : ℕ) (f b : ℕ → R) → Below o k f → Reduced k f b f
  reduced_none k f b below = ((series o).zero, B.polynomial_zero o L, divided_none k f b (series o).zero below refl)

  pub reduced_step : (e top k j : ℕ) (r z : R) (f b g h : ℕ → R)
      → Below o (suc e) b → o.product (b e) z ≡ o.one → k ≡ j + e → top ≡ suc k → r ≡ o.product z (g k)
      → h ≡ (series o).sum g (shift o j (scale o (o.negative r) b))
      → Reduced top f b g → Reduced k f b h
  reduced_step e top k j r z f b g h bb unit k_is top_is r_is next inv = (
    (series o).sum inv.0 (shift o j (constant o r)),
    Long.step_polynomial o L inv.0 j r inv.1,
    divided_step e top k j r z f b inv.0 g h bb unit k_is top_is r_is next inv.2,
  )

  pub reduced_all : (e k : ℕ) (f b g : ℕ → R) → k ≤ e → Reduced k f b g → LeavesRemainder o e f b g
  reduced_all e k f b g h inv = (
    record { quotient = inv.0; remainder = g; polynomial = inv.1; small = B.below_mono o L k e g h inv.2.1; is = inv.2.0 },
    refl,
  )

  -- the product of the first k coefficients of one polynomial with another was added
  pub multiplied_none : (t p f : ℕ → R) → Below o 0 p → t ≡ (series o).sum t ((series o).product p f)
  multiplied_none t p f below =
      sym (ap (λ q. (series o).sum t ((series o).product q f)) (B.zero_of_below o L p below)
      ∙ ap ((series o).sum t) (Sums.zero_product (series o) SL f) ∙ SL.sum_zero t)

  pub multiplied_step : (k : ℕ) (x : R) (t p q f g h : ℕ → R)
      → q ≡ (series o).sum p (shift o k (constant o x))
      → g ≡ (series o).sum t ((series o).product p f)
      → h ≡ (series o).sum g (shift o k (scale o x f))
      → h ≡ (series o).sum t ((series o).product q f)
  multiplied_step k x t p q f g h q_is g_is h_is =
      h_is ∙ ap (λ s. (series o).sum s (shift o k (scale o x f))) g_is ∙ Long.product_more o L t p q f k x q_is

module _ {F R : Type 0} (o : RingOps R) (L : RingLaws o) (member : F → R) where
  -- a place that holds zero is written
  pub at_set_zero : (xs : List F) (j : ℕ) (v : F) → j < length xs → at o member xs j ≡ o.zero → at o member (set xs j v) ≡ (series o).sum (at o member xs) (shift o j (constant o (member v)))
  at_set_zero xs j v room was = fun_ext (λ k. elim (ℕ_discrete k j) [
    | yes e ↦
        ap (at o member (set xs j v)) e ∙ at_set_same o member xs j v room
        ∙ sym (ap₂ o.sum (ap (at o member xs) e ∙ was) (shift_at o L j k 0 (constant o (member v)) (omega arith)) ∙ Sums.zero_sum o L (member v))
    | no n ↦
        at_set_other o member xs j k v n
        ∙ sym (ap (o.sum (at o member xs k)) (elsewhere k n) ∙ L.sum_zero (at o member xs k))
  ])
    where
      elsewhere : (k : ℕ) → (k ≡ j → ⊥) → shift o j (constant o (member v)) k ≡ o.zero
      elsewhere k n = elim (dec_lt k j) [
        | yes h ↦ shift_low o L j k (constant o (member v)) h
        | no h ↦ shift_at o L j k (k - j) (constant o (member v)) (omega arith) ∙ B.below_constant o L (member v) (k - j) (omega arith)
      ]

  -- a degree is that of a coefficient in the slice
  pub degree_within : (xs : List F) (e : ℕ) → Degree o (at o member xs) e → e < length xs
  degree_within xs e degree = elim (dec_lt e (length xs)) [ yes l ↦ l | no n ↦ absurd (degree.top (at_past o member xs e (omega arith))) ]

  -- one coefficient of a factor more
  pub factor_more : (xs : List F) (k : ℕ) → poly_at o member xs 0 (k + 1) ≡ (series o).sum (poly_at o member xs 0 k) (shift o k (constant o (at o member xs k)))
  factor_more xs k = P.poly_at_more o member L xs 0 k ∙ ap (λ i. (series o).sum (poly_at o member xs 0 k) (shift o k (constant o (at o member xs i)))) (let e : 0 + k ≡ k = omega arith in e)

-- a divisor leaves no remainder
pub exactly_divided : {R : Type 0} (o : RingOps R) → IsField o → (f b q r : ℕ → R) (e : ℕ) → Degree o b e → Divides o b f → Polynomial o q → Below o e r → f ≡ (series o).sum ((series o).product b q) r → ((series o).product b q ≡ f) × (r ≡ (series o).zero)
exactly_divided o field f b q r e degree divides polynomial small is =
    let SL = series_laws o field.laws.ring in
    let found : Division o e f b = record { quotient = q; remainder = r; polynomial = polynomial; small = small; is = is } in
    let exact : Division o e f b = record { quotient = divides.quotient; remainder = (series o).zero; polynomial = divides.polynomial; small = λ k h. refl; is = sym (SL.sum_zero ((series o).product b divides.quotient) ∙ divides.is) } in
    let same = division_unique o field f b e degree found exact in
    (ap ((series o).product b) same.0 ∙ divides.is, same.1)

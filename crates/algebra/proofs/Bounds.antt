-- Bounds of polynomials over a ring. Main results: below_sum, below_product, below_shift, below_total (bounds of sums, products and shifts),
-- below_top (the bound falls where the coefficient under it is zero), leading_product (the leading coefficient of a product).
use mathlib.Core.Path.{◌≡◌, refl, sym, ap, ap₂, ◌∙◌, fun_ext}
use mathlib.Core.Logic.{◌⊎◌, inl, inr}
use Prim.Native.Nat.{ℕ, zero, suc, ◌≤◌, ◌<◌, zero-le, suc-le-suc, max, ◌+◌ as ◌plus◌}
use native.Mathlib.Nat.{le_trans, le-max_left, le-max_right, eq-or-lt_of_le}
use native.Mathlib.Decide.{dec_le}
use native.Mathlib.Omega.{arith}
use Rattle.algebra.specs.Rings.{RingOps, RingLaws}
use Rattle.algebra.specs.Series.{total, constant, series, shift, scale, Below, Polynomial}
use Rattle.algebra.proofs.Sums as Sums
use Rattle.algebra.proofs.Series as S

module _ {M : Type 0} (o : RingOps M) (L : RingLaws o) where
  open o use {zero as O, one as I, sum as ◌+◌, negative as -◌, product as ◌·◌}

  infixl 60 ◌+◌
  infixl 70 ◌·◌
  infix 80 -◌
  pub below_mono : (N K : ℕ) (f : ℕ → M) → N ≤ K → Below o N f → Below o K f
  below_mono N K f h b k l = b k (le_trans h l)

  pub below_zero : (N : ℕ) → Below o N (series o).zero
  below_zero N k l = refl

  -- a polynomial without coefficients is zero
  pub zero_of_below : (f : ℕ → M) → Below o 0 f → f ≡ (series o).zero
  zero_of_below f b = fun_ext (λ k. b k zero-le)

  -- the bound falls where the coefficient under it is zero
  pub below_top : (N : ℕ) (f : ℕ → M) → Below o (suc N) f → f N ≡ O → Below o N f
  below_top N f b e k l = elim (eq-or-lt_of_le l) [ inl q ↦ ap f (sym q) ∙ e | inr q ↦ b k q ]

  pub below_sum : (N : ℕ) (f g : ℕ → M) → Below o N f → Below o N g → Below o N ((series o).sum f g)
  below_sum N f g b c k l = ap₂ ◌+◌ (b k l) (c k l) ∙ L.sum_zero O

  pub below_negative : (N : ℕ) (f : ℕ → M) → Below o N f → Below o N ((series o).negative f)
  below_negative N f b k l = ap -◌ (b k l) ∙ Sums.negative_zero o L

  pub below_scale : (N : ℕ) (x : M) (f : ℕ → M) → Below o N f → Below o N (scale o x f)
  below_scale N x f b k l = ap (λ t. x · t) (b k l) ∙ Sums.product_zero o L x

  pub below_constant : (x : M) → Below o 1 (constant o x)
  below_constant x zero l = absurd (omega arith)
  below_constant x (suc k) l = refl

  -- a term of a product vanishes where either factor does
  term_zero : (f g : ℕ → M) (N K i j : ℕ) → Below o N f → Below o K g → (N ≤ i) ⊎ (K ≤ j) → f i · g j ≡ O
  term_zero f g N K i j b c (inl h) = ap (λ t. t · g j) (b i h) ∙ Sums.zero_product o L (g j)
  term_zero f g N K i j b c (inr h) = ap (λ t. f i · t) (c j h) ∙ Sums.product_zero o L (f i)

  either_large : (N K i j : ℕ) → N plus K ≤ suc (i plus j) → (N ≤ i) ⊎ (K ≤ j)
  either_large N K i j h = elim (dec_le N i) [ yes p ↦ inl p | no p ↦ inr (omega arith) ]

  -- degrees add: with N = e + 1 and K = d + 1 the product is below e + d + 1
  pub below_product : (N K P : ℕ) (f g : ℕ → M) → N plus K ≤ suc P → Below o N f → Below o K g → Below o P ((series o).product f g)
  below_product N K P f g h b c k l = S.coefficient_zero o L f g k (λ i j e. term_zero f g N K i j b c (either_large N K i j (omega arith)))

  pub below_shift : (n N K : ℕ) (f : ℕ → M) → n plus N ≤ K → Below o N f → Below o K (shift o n f)
  below_shift zero N K f h b k l = b k (omega arith)
  below_shift (suc n) N K f h b zero l = refl
  below_shift (suc n) N zero f h b (suc k) l = absurd (omega arith)
  below_shift (suc n) N (suc K) f h b (suc k) l = below_shift n N K f (omega arith) b k (omega arith)

  pub below_total : (n N : ℕ) (f : ℕ → ℕ → M) → ((i : ℕ) → i < n → Below o N (f i)) → Below o N (total (series o) n f)
  below_total n N f b k l = S.total_at o L n f k ∙ Sums.total_zero o L n (λ i. f i k) (λ i h. b i h k l)

  -- the leading coefficient of a product
  pub leading_product : (e d : ℕ) (f g : ℕ → M) → Below o (suc e) f → Below o (suc d) g → (series o).product f g (e plus d) ≡ f e · g d
  leading_product e d f g b c =
      S.coefficient_one_term o L f g (e plus d) e d refl (λ p q h n. term_zero f g (suc e) (suc d) p q b c (elim (dec_le (suc e) p) [ yes l ↦ inl l | no l ↦ inr (omega arith) ]))

  pub polynomial_zero : Polynomial o (series o).zero
  polynomial_zero = (0, below_zero 0)

  pub polynomial_constant : (x : M) → Polynomial o (constant o x)
  polynomial_constant x = (1, below_constant x)

  pub polynomial_sum : (f g : ℕ → M) → Polynomial o f → Polynomial o g → Polynomial o ((series o).sum f g)
  polynomial_sum f g p q =
      let N = max p.0 q.0 in
      (N, below_sum N f g (below_mono p.0 N f (le-max_left p.0 q.0) p.1) (below_mono q.0 N g (le-max_right p.0 q.0) q.1))

  pub polynomial_negative : (f : ℕ → M) → Polynomial o f → Polynomial o ((series o).negative f)
  polynomial_negative f p = (p.0, below_negative p.0 f p.1)

  pub polynomial_product : (f g : ℕ → M) → Polynomial o f → Polynomial o g → Polynomial o ((series o).product f g)
  polynomial_product f g p q = (p.0 plus q.0, below_product p.0 q.0 (p.0 plus q.0) f g (omega arith) p.1 q.1)

  pub polynomial_shift : (n : ℕ) (f : ℕ → M) → Polynomial o f → Polynomial o (shift o n f)
  polynomial_shift n f p = (n plus p.0, below_shift n p.0 (n plus p.0) f (omega arith) p.1)

  pub polynomial_scale : (x : M) (f : ℕ → M) → Polynomial o f → Polynomial o (scale o x f)
  polynomial_scale x f p = (p.0, below_scale p.0 x f p.1)

  pub polynomial_total : (n : ℕ) (f : ℕ → ℕ → M) → ((i : ℕ) → i < n → Polynomial o (f i)) → Polynomial o (total (series o) n f)
  polynomial_total zero f p = polynomial_zero
  polynomial_total (suc n) f p = polynomial_sum (f 0) (total (series o) n (λ i. f (suc i))) (p 0 (suc-le-suc zero-le)) (polynomial_total n (λ i. f (suc i)) (λ i h. p (suc i) (suc-le-suc h)))

  -- the bounds of finitely many polynomials have a common bound
  pub common_bound : (n : ℕ) (f : ℕ → ℕ → M) → ((i : ℕ) → i < n → Polynomial o (f i)) → (N : ℕ) × ((i : ℕ) → i < n → Below o N (f i))
  common_bound zero f p = (0, λ i h. absurd (omega arith))
  common_bound (suc n) f p =
      let first = p 0 (suc-le-suc zero-le) in
      let rest = common_bound n (λ i. f (suc i)) (λ i h. p (suc i) (suc-le-suc h)) in
      let N = max first.0 rest.0 in
      (N, go first rest)
    where
      go : (first : Polynomial o (f 0)) (rest : (N : ℕ) × ((i : ℕ) → i < n → Below o N (f (suc i)))) → (i : ℕ)
          → i < suc n → Below o (max first.0 rest.0) (f i)
      go first rest zero h = below_mono first.0 (max first.0 rest.0) (f 0) (le-max_left first.0 rest.0) first.1
      go first rest (suc i) h = below_mono rest.0 (max first.0 rest.0) (f (suc i)) (le-max_right first.0 rest.0) (rest.1 i (omega arith))

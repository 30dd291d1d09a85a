-- Steps of elimination as maps on vectors. Main results: reduced_total (relations among vectors are kept), reduced_kernel (only zero is
-- sent to zero), step_keeps (vectors that are zero from row t on stay), step_of_pivot (the new pivotal column becomes a unit vector).
use Rattle.std.proofs.Common.{◌≡◌, ℕ, zero, suc, ◌<◌, ◌≤◌, [], ◌∷◌, sym, refl, ap, ◌∙◌, subst, ap₂, le_refl, le_of_suc-le-suc, not-suc-le-zero, arith}
use mathlib.Core.Path.{fun_ext}
use native.Mathlib.Decide.{ℕ_discrete, dec_lt}
use Rattle.algebra.specs.Rings.{RingOps, RingLaws}
use Rattle.algebra.specs.Series.{total}
use Rattle.algebra.proofs.Sums as Sums
use Rattle.algebra.proofs.Solver.{solve, var, 𝟎, 𝟏, ◌⊞◌, ◌⊠◌, neg}
use Rattle.elimination.specs.Steps.{write, front, unit_vector, step, reduced, IsStep, AreSteps}

pub write_same : {A : Type 0} (k : ℕ) (x : A) (f : ℕ → A) → write k x f k ≡ x
write_same zero x f = refl
write_same (suc k) x f = write_same k x (λ i. f (suc i))

pub write_other : {A : Type 0} (k : ℕ) (x : A) (f : ℕ → A) (r : ℕ) → (r ≡ k → ⊥) → write k x f r ≡ f r
write_other zero x f zero n = absurd (n refl)
write_other zero x f (suc r) n = refl
write_other (suc k) x f zero n = refl
write_other (suc k) x f (suc r) n = write_other k x (λ i. f (suc i)) r (λ e. n (ap suc e))

-- what holds of x at k and of f elsewhere holds of the whole
pub write_all : {A : Type 0} (P : ℕ → A → Type 0) (k : ℕ) (x : A) (f : ℕ → A) → P k x → ((r : ℕ) → (r ≡ k → ⊥) → P r (f r)) → (r : ℕ) → P r (write k x f r)
write_all P zero x f a b zero = a
write_all P zero x f a b (suc r) = b (suc r) (λ e. omega arith)
write_all P (suc k) x f a b zero = b 0 (λ e. omega arith)
write_all P (suc k) x f a b (suc r) = write_all (λ i. P (suc i)) k x (λ i. f (suc i)) a (λ i n. b (suc i) (λ e. n (omega arith))) r

module _ {M : Type 0} (o : RingOps M) where
  pub front_low : (n : ℕ) (v : ℕ → M) (r : ℕ) → r < n → front o n v r ≡ v r
  front_low zero v r l = absurd (not-suc-le-zero l)
  front_low (suc n) v zero l = refl
  front_low (suc n) v (suc r) l = front_low n (λ i. v (suc i)) r (le_of_suc-le-suc l)

  pub front_high : (n : ℕ) (v : ℕ → M) (r : ℕ) → n ≤ r → front o n v r ≡ o.zero
  front_high zero v r l = refl
  front_high (suc n) v zero l = absurd (not-suc-le-zero l)
  front_high (suc n) v (suc r) l = front_high n (λ i. v (suc i)) r (le_of_suc-le-suc l)

  -- a vector that is v below n and zero from there on
  pub front_is : (n : ℕ) (v u : ℕ → M) → ((r : ℕ) → r < n → u r ≡ v r) → ((r : ℕ) → n ≤ r → u r ≡ o.zero) → u ≡ front o n v
  front_is n v u a b = fun_ext (λ r. elim (dec_lt r n) [ yes l ↦ a r l ∙ sym (front_low n v r l) | no h ↦ let l : n ≤ r = omega arith in b r l ∙ sym (front_high n v r l) ])

module _ {M : Type 0} (o : RingOps M) (L : RingLaws o) where
  open o use {zero as O, one as I, sum as ◌+◌, negative as -◌, product as ◌·◌}

  infixl 60 ◌+◌
  infixl 70 ◌·◌
  infix 80 -◌
  abbrev rest : (ℕ → M) → M → (ℕ → M) → ℕ → M
  rest e x u r = u r + e r · (- x)

  pub step_at : (e : ℕ → M) (t p : ℕ) (u : ℕ → M) → step o e t p u t ≡ e p · u p
  step_at e t p u = write_same t (e p · u p) (write p (u t) (rest e (e p · u p) u))

  pub step_exchanged : (e : ℕ → M) (t p : ℕ) (u : ℕ → M) → (p ≡ t → ⊥) → step o e t p u p ≡ u t
  step_exchanged e t p u n = write_other t (e p · u p) (write p (u t) (rest e (e p · u p) u)) p n ∙ write_same p (u t) (rest e (e p · u p) u)

  pub step_else : (e : ℕ → M) (t p : ℕ) (u : ℕ → M) (r : ℕ) → (r ≡ t → ⊥) → (r ≡ p → ⊥) → step o e t p u r ≡ u r + e r · (- (e p · u p))
  step_else e t p u r n m = write_other t (e p · u p) (write p (u t) (rest e (e p · u p) u)) r n ∙ write_other p (u t) (rest e (e p · u p) u) r m

  -- row t, the exchanged row, and the others
  pub rows_of_step : (P : ℕ → Type 0) (t p : ℕ) → P t → ((p ≡ t → ⊥) → P p) → ((r : ℕ) → (r ≡ t → ⊥) → (r ≡ p → ⊥) → P r) → (r : ℕ) → P r
  rows_of_step P t p a b c r = elim (ℕ_discrete r t) [ yes e ↦ subst P (sym e) a | no n ↦ elim (ℕ_discrete r p) [ yes e ↦ subst P (sym e) (b (λ h. n (e ∙ h))) | no m ↦ c r n m ] ]

  pub step_sum : (e : ℕ → M) (t p : ℕ) (u v : ℕ → M) → step o e t p (λ r. u r + v r) ≡ (λ r. step o e t p u r + step o e t p v r)
  step_sum e t p u v = fun_ext (rows_of_step (λ r. step o e t p (λ r. u r + v r) r ≡ step o e t p u r + step o e t p v r) t p
      (step_at e t p (λ r. u r + v r) ∙ L.product_sum (e p) (u p) (v p) ∙ sym (ap₂ ◌+◌ (step_at e t p u) (step_at e t p v)))
      (λ n. step_exchanged e t p (λ r. u r + v r) n ∙ sym (ap₂ ◌+◌ (step_exchanged e t p u n) (step_exchanged e t p v n)))
      (λ r n m. step_else e t p (λ r. u r + v r) r n m
      ∙ solve o L (u r ∷ v r ∷ e r ∷ e p ∷ u p ∷ v p ∷ [])
      (var 0 ⊞ var 1 ⊞ var 2 ⊠ neg (var 3 ⊠ (var 4 ⊞ var 5)))
      ((var 0 ⊞ var 2 ⊠ neg (var 3 ⊠ var 4)) ⊞ (var 1 ⊞ var 2 ⊠ neg (var 3 ⊠ var 5))) refl
      ∙ sym (ap₂ ◌+◌ (step_else e t p u r n m) (step_else e t p v r n m))))

  pub step_scale : (e : ℕ → M) (t p : ℕ) (c : M) (u : ℕ → M) → step o e t p (λ r. c · u r) ≡ (λ r. c · step o e t p u r)
  step_scale e t p c u = fun_ext (rows_of_step (λ r. step o e t p (λ r. c · u r) r ≡ c · step o e t p u r) t p
      (step_at e t p (λ r. c · u r) ∙ Sums.product_left_comm o L (e p) c (u p) ∙ sym (ap (λ x. c · x) (step_at e t p u)))
      (λ n. step_exchanged e t p (λ r. c · u r) n ∙ sym (ap (λ x. c · x) (step_exchanged e t p u n)))
      (λ r n m. step_else e t p (λ r. c · u r) r n m
      ∙ solve o L (u r ∷ c ∷ e r ∷ e p ∷ u p ∷ [])
      (var 1 ⊠ var 0 ⊞ var 2 ⊠ neg (var 3 ⊠ (var 1 ⊠ var 4)))
      (var 1 ⊠ (var 0 ⊞ var 2 ⊠ neg (var 3 ⊠ var 4))) refl
      ∙ sym (ap (λ x. c · x) (step_else e t p u r n m))))

  -- a multiplied zero changes nothing
  pub rest_zero : (x y z : M) → z ≡ O → x + y · (- z) ≡ x
  rest_zero x y z h = ap (λ s. x + y · (- s)) h ∙ solve o L (x ∷ y ∷ []) (var 0 ⊞ var 1 ⊠ neg 𝟎) (var 0) refl

  -- a vector that a step sends to zero is zero
  pub step_kernel : (rows t : ℕ) (e : ℕ → M) (p : ℕ) → IsStep o rows t e p → (u : ℕ → M) → ((r : ℕ) → step o e t p u r ≡ O) → (r : ℕ) → u r ≡ O
  step_kernel rows t e p s u z =
      let product : e p · u p ≡ O = sym (step_at e t p u) ∙ z t in
      let at_pivot : u p ≡ O =
      sym (Sums.one_product o L (u p)) ∙ ap (λ x. x · u p) (sym s.inverse) ∙ L.product_assoc s.pivot (e p) (u p) ∙ ap (λ x. s.pivot · x) product ∙ Sums.product_zero o L s.pivot in
      let at_row : u t ≡ O = elim (ℕ_discrete p t) [ yes h ↦ subst (λ k. u k ≡ O) h at_pivot | no n ↦ sym (step_exchanged e t p u n) ∙ z p ] in
      rows_of_step (λ r. u r ≡ O) t p at_row (λ n. at_pivot)
      (λ r n m. sym (rest_zero (u r) (e r) (e p · u p) product) ∙ sym (step_else e t p u r n m) ∙ z r)

  -- a step keeps a vector that is zero from row t on
  pub step_keeps : (rows t : ℕ) (e : ℕ → M) (p : ℕ) → t ≤ p → (u : ℕ → M) → ((r : ℕ) → t ≤ r → u r ≡ O) → step o e t p u ≡ u
  step_keeps rows t e p low u z =
      let product : e p · u p ≡ O = ap (λ x. e p · x) (z p low) ∙ Sums.product_zero o L (e p) in
      fun_ext (rows_of_step (λ r. step o e t p u r ≡ u r) t p
      (step_at e t p u ∙ product ∙ sym (z t (le_refl t)))
      (λ n. step_exchanged e t p u n ∙ z t (le_refl t) ∙ sym (z p low))
      (λ r n m. step_else e t p u r n m ∙ rest_zero (u r) (e r) (e p · u p) product))

  -- the step made of a vector whose first nonzero entry from row t on is at p turns it into a unit vector
  pub step_of_pivot : (t p : ℕ) (u : ℕ → M) (i : M) → t ≤ p → u p · i ≡ I → ((r : ℕ) → t ≤ r → r < p → u r ≡ O) → step o (write p i u) t p u ≡ unit_vector o t
  step_of_pivot t p u i low inv zeros =
      let e = write p i u in
      let one : e p · u p ≡ I = ap (λ x. x · u p) (write_same p i u) ∙ L.product_comm i (u p) ∙ inv in
      fun_ext (rows_of_step (λ r. step o e t p u r ≡ unit_vector o t r) t p
      (step_at e t p u ∙ one ∙ sym (write_same t I (λ r. O)))
      (λ n. step_exchanged e t p u n ∙ zeros t (le_refl t) (omega arith) ∙ sym (write_other t I (λ r. O) p n))
      (λ r n m. step_else e t p u r n m
      ∙ ap₂ (λ x y. u r + x · (- y)) (write_other p i u r m) one
      ∙ solve o L (u r ∷ []) (var 0 ⊞ var 0 ⊠ neg 𝟏) 𝟎 refl
      ∙ sym (write_other t I (λ r. O) r n)))

  pub is_step_of_pivot : (rows t p : ℕ) (u : ℕ → M) (i : M) → t ≤ p → p < rows → u p · i ≡ I → ((r : ℕ) → t ≤ r → r < p → u r ≡ O) → IsStep o rows t (write p i u) p
  is_step_of_pivot rows t p u i low lt inv zeros = record {
    low = low;
    within = lt;
    pivot = u p;
    inverse = ap (λ x. u p · x) (write_same p i u) ∙ inv;
  }

  module _ (e : ℕ → ℕ → M) (p : ℕ → ℕ) where
    pub reduced_sum : (n : ℕ) (u v : ℕ → M) → reduced o e p n (λ r. u r + v r) ≡ (λ r. reduced o e p n u r + reduced o e p n v r)
    reduced_sum zero u v = refl
    reduced_sum (suc n) u v = ap (step o (e n) n (p n)) (reduced_sum n u v) ∙ step_sum (e n) n (p n) (reduced o e p n u) (reduced o e p n v)

    pub reduced_scale : (n : ℕ) (c : M) (u : ℕ → M) → reduced o e p n (λ r. c · u r) ≡ (λ r. c · reduced o e p n u r)
    reduced_scale zero c u = refl
    reduced_scale (suc n) c u = ap (step o (e n) n (p n)) (reduced_scale n c u) ∙ step_scale (e n) n (p n) c (reduced o e p n u)

    pub reduced_zero : (n : ℕ) → reduced o e p n (λ r. O) ≡ (λ r. O)
    reduced_zero n = ap (reduced o e p n) (fun_ext (λ r. sym (Sums.zero_product o L O))) ∙ reduced_scale n O (λ r. O) ∙ fun_ext (λ r. Sums.zero_product o L (reduced o e p n (λ r. O) r))

    -- relations among vectors are kept
    pub reduced_total : (n m : ℕ) (x : ℕ → M) (v : ℕ → ℕ → M) → reduced o e p n (λ r. total o m (λ j. x j · v j r)) ≡ (λ r. total o m (λ j. x j · reduced o e p n (v j) r))
    reduced_total n zero x v = reduced_zero n
    reduced_total n (suc m) x v =
        reduced_sum n (λ r. x 0 · v 0 r) (λ r. total o m (λ j. x (suc j) · v (suc j) r))
        ∙ fun_ext (λ r. ap₂ ◌+◌ (ap (λ f. f r) (reduced_scale n (x 0) (v 0))) (ap (λ f. f r) (reduced_total n m (λ j. x (suc j)) (λ j. v (suc j)))))

    pub reduced_kernel : (rows n : ℕ) → AreSteps o rows n e p → (u : ℕ → M) → ((r : ℕ) → reduced o e p n u r ≡ O) → (r : ℕ) → u r ≡ O
    reduced_kernel rows zero s u z = z
    reduced_kernel rows (suc n) s u z = reduced_kernel rows n (λ t h. s t (omega arith)) u (step_kernel rows n (e n) (p n) (s n (le_refl (suc n))) (reduced o e p n u) z)

  -- the steps depend on their numbers only
  pub reduced_ext : (n : ℕ) (e f : ℕ → ℕ → M) (p q : ℕ → ℕ) (u : ℕ → M) → ((t : ℕ) → t < n → e t ≡ f t) → ((t : ℕ) → t < n → p t ≡ q t) → reduced o e p n u ≡ reduced o f q n u
  reduced_ext zero e f p q u a b = refl
  reduced_ext (suc n) e f p q u a b =
      ap (step o (e n) n (p n)) (reduced_ext n e f p q u (λ t h. a t (omega arith)) (λ t h. b t (omega arith)))
      ∙ ap₂ (λ g k. step o g n k (reduced o f q n u)) (a n (le_refl (suc n))) (b n (le_refl (suc n)))

-- Pairs over a ring are a ring, and over a field whose quadratic has no root each but zero has an inverse. Assumes nothing.
use Rattle.std.specs.Prelude.{◌≡◌, List, [], ◌∷◌, refl}
use Rattle.std.proofs.Common.{sym, ap, ap₂, ◌∙◌}
use Rattle.algebra.specs.Rings.{RingOps, RingLaws, FieldLaws, Invertible}
use Rattle.algebra.proofs.Solver.{Expr, var, 𝟎, 𝟏, ◌⊞◌, ◌⊠◌, neg, solve}
use Rattle.algebra.proofs.Sums.{product_zero}
use Rattle.fields.specs.Quadratics.{quadratic, Rootless}
use Rattle.pairs.specs.Pairs.{PairMember, pair, norm, pair_ops}

-- the solver's expressions, and pairs of them: t is variable 0, c is variable 1
abbrev expressions : RingOps Expr
expressions = record { zero = 𝟎; one = 𝟏; sum = ◌⊞◌; negative = neg; product = ◌⊠◌ }

infixl 70 ◌⊗◌
infixl 60 ◌⊕◌
abbrev ◌⊗◌ : PairMember Expr → PairMember Expr → PairMember Expr
x ⊗ y = (pair_ops expressions (var 0) (var 1)).product x y

abbrev ◌⊕◌ : PairMember Expr → PairMember Expr → PairMember Expr
x ⊕ y = (pair_ops expressions (var 0) (var 1)).sum x y

abbrev X : PairMember Expr
X = pair (var 2) (var 3)

abbrev Y : PairMember Expr
Y = pair (var 4) (var 5)

abbrev Z : PairMember Expr
Z = pair (var 6) (var 7)

module _ {M : Type 0} (o : RingOps M) (t c : M) (L : RingLaws o) where
  abbrev values : PairMember M → PairMember M → PairMember M → List M
  values x y z = t ∷ c ∷ x.low ∷ x.high ∷ y.low ∷ y.high ∷ z.low ∷ z.high ∷ []

  pub pair_laws : RingLaws (pair_ops o t c)
  pair_laws = record {
    sum_assoc = λ x y z. ap₂ pair (L.sum_assoc x.low y.low z.low) (L.sum_assoc x.high y.high z.high);
    sum_comm = λ x y. ap₂ pair (L.sum_comm x.low y.low) (L.sum_comm x.high y.high);
    sum_zero = λ x. ap₂ pair (L.sum_zero x.low) (L.sum_zero x.high);
    sum_negative = λ x. ap₂ pair (L.sum_negative x.low) (L.sum_negative x.high);
    product_assoc = λ x y z.
        ap₂ pair (solve o L (values x y z) ((X ⊗ Y) ⊗ Z).low (X ⊗ (Y ⊗ Z)).low refl)
        (solve o L (values x y z) ((X ⊗ Y) ⊗ Z).high (X ⊗ (Y ⊗ Z)).high refl);
    product_comm = λ x y.
        ap₂ pair (solve o L (values x y x) (X ⊗ Y).low (Y ⊗ X).low refl)
        (solve o L (values x y x) (X ⊗ Y).high (Y ⊗ X).high refl);
    product_one = λ x.
        ap₂ pair (solve o L (values x x x) (X ⊗ pair 𝟏 𝟎).low (var 2) refl)
        (solve o L (values x x x) (X ⊗ pair 𝟏 𝟎).high (var 3) refl);
    product_sum = λ x y z.
        ap₂ pair (solve o L (values x y z) (X ⊗ (Y ⊕ Z)).low ((X ⊗ Y) ⊕ (X ⊗ Z)).low refl)
        (solve o L (values x y z) (X ⊗ (Y ⊕ Z)).high ((X ⊗ Y) ⊕ (X ⊗ Z)).high refl);
  }

  -- u − t·v − v·z, each part times w
  abbrev pub conjugate : PairMember M → M → PairMember M
  conjugate x w = pair (o.product (o.sum x.low (o.negative (o.product t x.high))) w) (o.product (o.negative x.high) w)

  -- where w is the inverse of the norm, that is the inverse
  pub conjugate_inverts : (x : PairMember M) (w : M) → o.product (norm o t c x) w ≡ o.one → (pair_ops o t c).product x (conjugate x w) ≡ (pair_ops o t c).one
  conjugate_inverts x w e =
      let vs : List M = t ∷ c ∷ x.low ∷ x.high ∷ w ∷ [] in
      let W : PairMember Expr = pair ((var 2 ⊞ neg (var 0 ⊠ var 3)) ⊠ var 4) (neg (var 3) ⊠ var 4) in
      ap₂ pair (solve o L vs (X ⊗ W).low (norm expressions (var 0) (var 1) X ⊠ var 4) refl ∙ e)
      (solve o L vs (X ⊗ W).high 𝟎 refl)

  -- the same, each step by its own equation: q is t, p is t·v, s is u − t·v, n is −v, and d is the norm
  pub steps_invert : (x : PairMember M) (w q p s n a b d : M) → q ≡ t → p ≡ o.product q x.high → s ≡ o.sum x.low (o.negative p) → n ≡ o.negative x.high → a ≡ o.product s w → b ≡ o.product n w → d ≡ norm o t c x → o.product d w ≡ o.one → (pair_ops o t c).product x (pair a b) ≡ (pair_ops o t c).one
  steps_invert x w q p s n a b d is_q is_p is_s is_n is_a is_b is_d e =
      let low : s ≡ o.sum x.low (o.negative (o.product t x.high)) = is_s ∙ ap (λ (y : M). o.sum x.low (o.negative y)) (is_p ∙ ap (λ (y : M). o.product y x.high) is_q) in
      ap ((pair_ops o t c).product x) (ap₂ pair (is_a ∙ ap (λ (y : M). o.product y w) low) (is_b ∙ ap (λ (y : M). o.product y w) is_n))
      ∙ conjugate_inverts x w (ap (λ (y : M). o.product y w) (sym is_d) ∙ e)

  -- a zero of the norm would make −u/v a root
  root : (x : PairMember M) (w : M) → o.product x.high w ≡ o.one → quadratic o t c (o.negative (o.product x.low w)) ≡ o.product (o.product w w) (norm o t c x)
  root x w e =
      let vs : List M = t ∷ c ∷ x.low ∷ x.high ∷ w ∷ [] in
      let z : Expr = neg (var 2 ⊠ var 4) in
      let at : Expr → Expr = λ k. var 2 ⊠ var 4 ⊠ (var 2 ⊠ var 4) ⊞ neg (var 0 ⊠ var 2 ⊠ var 4 ⊠ k) ⊞ var 1 ⊠ k ⊠ k in
      solve o L vs (quadratic expressions (var 0) (var 1) z) (at 𝟏) refl
      ∙ ap (λ (k : M). o.sum (o.sum (o.product (o.product x.low w) (o.product x.low w)) (o.negative (o.product (o.product (o.product t x.low) w) k))) (o.product (o.product c k) k)) (sym e)
      ∙ solve o L vs (at (var 3 ⊠ var 4)) (var 4 ⊠ var 4 ⊠ norm expressions (var 0) (var 1) X) refl

pub pair_field : {M : Type 0} (o : RingOps M) (t c : M) → FieldLaws o → FieldLaws (pair_ops o t c)
pair_field {M} o t c F = record { ring = pair_laws o t c F.ring; zero_not_one = λ e. F.zero_not_one (ap (λ (x : PairMember M). x.low) e) }

module _ {M : Type 0} (o : RingOps M) (t c : M) (F : FieldLaws o) (decide : (x : M) → Dec (x ≡ o.zero)) (inverts : Invertible o) (rootless : Rootless o t c) where
  high_zero : (x : PairMember M) → norm o t c x ≡ o.zero → x.high ≡ o.zero
  high_zero x e = go (decide x.high)
    where
      go : Dec (x.high ≡ o.zero) → x.high ≡ o.zero
      go (yes h) = h
      go (no nz) =
          let w : M = (inverts x.high nz).0 in
          absurd
          (rootless (o.negative (o.product x.low w))
          (root o t c F.ring x w (inverts x.high nz).1 ∙ ap (o.product (o.product w w)) e ∙ product_zero o F.ring (o.product w w)))

  -- a square is zero only of zero
  square_zero : (u : M) → o.product u u ≡ o.zero → u ≡ o.zero
  square_zero u e = go (decide u)
    where
      go : Dec (u ≡ o.zero) → u ≡ o.zero
      go (yes h) = h
      go (no nz) =
          let w : M = (inverts u nz).0 in
          let is : o.product u w ≡ o.one = (inverts u nz).1 in
          absurd
          (F.zero_not_one
          (sym (product_zero o F.ring (o.product w w))
          ∙ ap (o.product (o.product w w)) (sym e)
          ∙ solve o F.ring (u ∷ w ∷ []) (var 1 ⊠ var 1 ⊠ (var 0 ⊠ var 0)) (var 0 ⊠ var 1 ⊠ (var 0 ⊠ var 1)) refl
          ∙ ap₂ o.product is is
          ∙ F.ring.product_one o.one))

  low_square : (x : PairMember M) → x.high ≡ o.zero → norm o t c x ≡ o.product x.low x.low
  low_square x h =
      ap (λ (v : M). norm o t c (pair x.low v)) h
      ∙ solve o F.ring (t ∷ c ∷ x.low ∷ []) (norm expressions (var 0) (var 1) (pair (var 2) 𝟎)) (var 2 ⊠ var 2) refl

  -- the norm is zero only of zero
  pub norm_zero : (x : PairMember M) (d : M) → d ≡ norm o t c x → d ≡ o.zero → x ≡ (pair_ops o t c).zero
  norm_zero x d is_d zero_d =
      let e : norm o t c x ≡ o.zero = sym is_d ∙ zero_d in
      let h : x.high ≡ o.zero = high_zero x e in
      ap₂ pair (square_zero x.low (sym (low_square x h) ∙ e)) h

  pub pair_invertible : Invertible (pair_ops o t c)
  pair_invertible x nz =
      let w = inverts (norm o t c x) (λ e. nz (norm_zero x (norm o t c x) refl e)) in
      (conjugate o t c F.ring x w.0, conjugate_inverts o t c F.ring x w.0 w.1)

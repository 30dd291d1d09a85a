-- The exchange lemma over an integral domain with decidable zero. Main results: exchange (m equations in more than m unknowns have a solution
-- that is not all zero), dependent_of_spanned (more vectors than span them are dependent), spanned_of_independent (as many independent
-- vectors as span them span the same, up to a factor), domain_of_field and domain_of_polynomials.
use mathlib.Core.Path.{◌≡◌, refl, sym, ap, ap₂, ◌∙◌}
use mathlib.Core.Logic.{◌⊎◌, inl, inr}
use mathlib.Core.List.{[], ◌∷◌}
use Prim.Native.Nat.{ℕ, zero, suc, ◌<◌, zero-le, suc-le-suc}
use native.Mathlib.Nat.{le_of_suc-le-suc, not-suc-le-zero, le_refl}
use native.Mathlib.Decide.{ℕ_discrete}
use native.Mathlib.Omega.{arith}
use Rattle.algebra.specs.Rings.{RingOps, RingLaws, IsField}
use Rattle.algebra.specs.Series.{total, dot, series, Polynomial}
use Rattle.algebra.specs.Independence.{All, Domain, NotAllZero, Solution, Spanned, Dependent, Independent}
use Rattle.algebra.proofs.Rows.{skip, slot, skip_lt, unskip, slot_at, slot_skip, slot_all, choose}
use Rattle.algebra.proofs.Sums as Sums
use Rattle.algebra.proofs.Solver.{solve, var, 𝟎, ◌⊞◌, ◌⊠◌, neg}
use Rattle.algebra.proofs.Fields as Fields
use Rattle.algebra.proofs.Bounds as B
use Rattle.algebra.proofs.Degrees as D

module _ {R : Type 0} (o : RingOps R) (L : RingLaws o) where
  open o use {zero as O, one as I, sum as ◌+◌, negative as -◌, product as ◌·◌}

  infixl 60 ◌+◌
  infixl 70 ◌·◌
  infix 80 -◌
  -- sums of multiples of sums of multiples
  pub total_compose : (q m : ℕ) (x : ℕ → R) (c : ℕ → ℕ → R) (u : ℕ → R)
      → total o q (λ j. x j · total o m (λ l. c j l · u l)) ≡ total o m (λ l. dot o q (λ j. c j l) x · u l)
  total_compose q m x c u =
      Sums.total_ext o L q (λ j. x j · total o m (λ l. c j l · u l)) (λ j. total o m (λ l. c j l · x j · u l))
      (λ j h. sym (Sums.total_scale o L m (x j) (λ l. c j l · u l)) ∙ Sums.total_ext o L m (λ l. x j · (c j l · u l)) (λ l. c j l · x j · u l) (λ l i. solve o L (x j ∷ c j l ∷ u l ∷ []) (var 0 ⊠ (var 1 ⊠ var 2)) (var 1 ⊠ var 0 ⊠ var 2) refl))
      ∙ Sums.total_swap o L q m (λ j l. c j l · x j · u l)
      ∙ Sums.total_ext o L m (λ l. total o q (λ j. c j l · x j · u l)) (λ l. dot o q (λ j. c j l) x · u l) (λ l i. Sums.total_scale_right o L q (λ j. c j l · x j) (u l))

  module _ (P : R → Type 0) (D : Domain o P) where
    pub all_zero_or_not : (q : ℕ) (x : ℕ → R) → ((j : ℕ) → j < q → P (x j)) → ((j : ℕ) → j < q → x j ≡ O) ⊎ NotAllZero o q x
    all_zero_or_not zero x p = inl (λ j h. absurd (not-suc-le-zero h))
    all_zero_or_not (suc q) x p = go (D.zero_decides (x 0) (p 0 (suc-le-suc zero-le))) (all_zero_or_not q (λ j. x (suc j)) (λ j h. p (suc j) (suc-le-suc h)))
      where
        all : x 0 ≡ O → ((j : ℕ) → j < q → x (suc j) ≡ O) → (j : ℕ) → j < suc q → x j ≡ O
        all e r zero h = e
        all e r (suc j) h = r j (le_of_suc-le-suc h)

        go : Dec (x 0 ≡ O) → ((j : ℕ) → j < q → x (suc j) ≡ O) ⊎ NotAllZero o q (λ j. x (suc j))
            → ((j : ℕ) → j < suc q → x j ≡ O) ⊎ NotAllZero o (suc q) x
        go (no n) r = inr (record { place = 0; within = suc-le-suc zero-le; nonzero = n })
        go (yes e) (inl r) = inl (all e r)
        go (yes e) (inr r) = inr (record { place = suc r.place; within = suc-le-suc r.within; nonzero = r.nonzero })

    total_in : (n : ℕ) (f : ℕ → R) → ((k : ℕ) → k < n → P (f k)) → P (total o n f)
    total_in zero f p = D.zero_in
    total_in (suc n) f p = D.sum_in (f 0) (total o n (λ k. f (suc k))) (p 0 (suc-le-suc zero-le)) (total_in n (λ k. f (suc k)) (λ k h. p (suc k) (suc-le-suc h)))

    -- the rows left when the unknown p is eliminated by row 0
    abbrev eliminated : (ℕ → ℕ → R) → ℕ → ℕ → ℕ → R
    eliminated A p i j = A 0 p · A (suc i) (skip p j) + (- (A (suc i) p · A 0 (skip p j)))

    -- a solution of those rows, completed
    abbrev completed : (ℕ → ℕ → R) → ℕ → ℕ → (ℕ → R) → ℕ → R
    completed A p q y = slot p (- dot o q (λ j. A 0 (skip p j)) y) (λ j. A 0 p · y j)

    dot_completed : (A : ℕ → ℕ → R) (p q : ℕ) (y row : ℕ → R) → p < suc q
        → dot o (suc q) row (completed A p q y) ≡ row p · (- dot o q (λ j. A 0 (skip p j)) y) + A 0 p · dot o q (λ j. row (skip p j)) y
    dot_completed A p q y row h =
        Sums.total_skip o L q p (λ k. row k · completed A p q y k) h
        ∙ ap₂ ◌+◌
        (ap (λ t. row p · t) (slot_at p (- dot o q (λ j. A 0 (skip p j)) y) (λ j. A 0 p · y j)))
        (Sums.total_ext o L q (λ j. row (skip p j) · completed A p q y (skip p j)) (λ j. A 0 p · (row (skip p j) · y j))
        (λ j l. ap (λ t. row (skip p j) · t) (slot_skip p (- dot o q (λ i. A 0 (skip p i)) y) (λ i. A 0 p · y i) j) ∙ Sums.product_left_comm o L (row (skip p j)) (A 0 p) (y j))
        ∙ Sums.total_scale o L q (A 0 p) (λ j. row (skip p j) · y j))

    dot_eliminated : (A : ℕ → ℕ → R) (p q i : ℕ) (y : ℕ → R)
        → dot o q (eliminated A p i) y ≡ A 0 p · dot o q (λ j. A (suc i) (skip p j)) y + A (suc i) p · (- dot o q (λ j. A 0 (skip p j)) y)
    dot_eliminated A p q i y =
        Sums.total_ext o L q (λ j. eliminated A p i j · y j) (λ j. A 0 p · (A (suc i) (skip p j) · y j) + (- A (suc i) p) · (A 0 (skip p j) · y j))
        (λ j l. solve o L (A 0 p ∷ A (suc i) (skip p j) ∷ A (suc i) p ∷ A 0 (skip p j) ∷ y j ∷ []) ((var 0 ⊠ var 1 ⊞ neg (var 2 ⊠ var 3)) ⊠ var 4) (var 0 ⊠ (var 1 ⊠ var 4) ⊞ neg (var 2) ⊠ (var 3 ⊠ var 4)) refl)
        ∙ Sums.total_sum o L q (λ j. A 0 p · (A (suc i) (skip p j) · y j)) (λ j. (- A (suc i) p) · (A 0 (skip p j) · y j))
        ∙ ap₂ ◌+◌ (Sums.total_scale o L q (A 0 p) (λ j. A (suc i) (skip p j) · y j)) (Sums.total_scale o L q (- A (suc i) p) (λ j. A 0 (skip p j) · y j))
        ∙ ap (λ t. A 0 p · dot o q (λ j. A (suc i) (skip p j)) y + t) (solve o L (A (suc i) p ∷ dot o q (λ j. A 0 (skip p j)) y ∷ []) (neg (var 0) ⊠ var 1) (var 0 ⊠ neg (var 1)) refl)

    complete : (m q : ℕ) (A : ℕ → ℕ → R) → ((i j : ℕ) → i < suc m → j < suc q → P (A i j)) → (p : ℕ) → p < suc q
        → (A 0 p ≡ O → ⊥) → Solution o P m q (eliminated A p) → Solution o P (suc m) (suc q) A
    complete m q A a p h n s =
        let y = s.unknown in
        record {
          unknown = completed A p q y;
          inside = slot_all P q p (- dot o q (λ j. A 0 (skip p j)) y) (λ j. A 0 p · y j) h
              (D.negative_in (dot o q (λ j. A 0 (skip p j)) y) (total_in q (λ j. A 0 (skip p j) · y j) (λ j l. D.product_in (A 0 (skip p j)) (y j) (a 0 (skip p j) (suc-le-suc zero-le) (skip_lt p q j l)) (s.inside j l))))
              (λ j l. D.product_in (A 0 p) (y j) (a 0 p (suc-le-suc zero-le) h) (s.inside j l));
          not_all_zero = let z = s.not_all_zero in record {
            place = skip p z.place;
            within = skip_lt p q z.place z.within;
            nonzero = λ e. z.nonzero (D.zero_of_product (A 0 p) (y z.place) (a 0 p (suc-le-suc zero-le) h) (s.inside z.place z.within) n (sym (slot_skip p (- dot o q (λ j. A 0 (skip p j)) y) (λ j. A 0 p · y j) z.place) ∙ e));
          };
          solves = λ i. elim i as (λ (r : ℕ). r < suc m → dot o (suc q) (A r) (completed A p q y) ≡ O) [
            | zero ↦ λ l. dot_completed A p q y (A 0) h ∙ solve o L (A 0 p ∷ dot o q (λ j. A 0 (skip p j)) y ∷ []) (var 0 ⊠ neg (var 1) ⊞ var 0 ⊠ var 1) 𝟎 refl
            | suc r ↦ λ l. dot_completed A p q y (A (suc r)) h ∙ L.sum_comm (A (suc r) p · (- dot o q (λ j. A 0 (skip p j)) y)) (A 0 p · dot o q (λ j. A (suc r) (skip p j)) y) ∙ sym (dot_eliminated A p q r y) ∙ s.solves r (le_of_suc-le-suc l)
          ];
        }

    drop_row : (m q : ℕ) (A : ℕ → ℕ → R) → ((j : ℕ) → j < q → A 0 j ≡ O) → Solution o P m q (λ i. A (suc i)) → Solution o P (suc m) q A
    drop_row m q A z s = record {
      unknown = s.unknown;
      inside = s.inside;
      not_all_zero = s.not_all_zero;
      solves = λ i. elim i as (λ (r : ℕ). r < suc m → dot o q (A r) s.unknown ≡ O) [
        | zero ↦ λ l. Sums.total_zero o L q (λ j. A 0 j · s.unknown j) (λ j h. ap (λ t. t · s.unknown j) (z j h) ∙ Sums.zero_product o L (s.unknown j))
        | suc r ↦ λ l. s.solves r (le_of_suc-le-suc l)
      ];
    }

    -- m equations in more than m unknowns have a solution that is not all zero
    pub exchange : (m q : ℕ) (A : ℕ → ℕ → R) → m < q → ((i j : ℕ) → i < m → j < q → P (A i j)) → Solution o P m q A
    exchange zero q A h a = record { unknown = λ j. I; inside = λ j l. D.one_in; not_all_zero = record { place = 0; within = h; nonzero = D.one_nonzero }; solves = λ i l. absurd (not-suc-le-zero l) }
    exchange (suc m) zero A h a = absurd (not-suc-le-zero h)
    exchange (suc m) (suc q) A h a = go (all_zero_or_not (suc q) (A 0) (λ j l. a 0 j (suc-le-suc zero-le) l)) (exchange m q) (exchange m (suc q) (λ i. A (suc i)))
      where
        go : ((j : ℕ) → j < suc q → A 0 j ≡ O) ⊎ NotAllZero o (suc q) (A 0)
            → ((B : ℕ → ℕ → R) → m < q → ((i j : ℕ) → i < m → j < q → P (B i j)) → Solution o P m q B)
            → (m < suc q → ((i j : ℕ) → i < m → j < suc q → P (A (suc i) j)) → Solution o P m (suc q) (λ i. A (suc i)))
            → Solution o P (suc m) (suc q) A
        go (inl z) rest same = drop_row m (suc q) A z (same (omega arith) (λ i j l k. a (suc i) j (suc-le-suc l) k))
        go (inr r) rest same =
            let p = r.place in
            complete m q A a p r.within r.nonzero (rest (eliminated A p) (le_of_suc-le-suc h)
            (λ i j l k. D.sum_in (A 0 p · A (suc i) (skip p j)) (- (A (suc i) p · A 0 (skip p j)))
            (D.product_in (A 0 p) (A (suc i) (skip p j)) (a 0 p (suc-le-suc zero-le) r.within) (a (suc i) (skip p j) (suc-le-suc l) (skip_lt p q j k)))
            (D.negative_in (A (suc i) p · A 0 (skip p j)) (D.product_in (A (suc i) p) (A 0 (skip p j)) (a (suc i) p (suc-le-suc l) r.within) (a 0 (skip p j) (suc-le-suc zero-le) (skip_lt p q j k))))))

    -- a square matrix that sends y, not zero at p, to zero has rows that are dependent
    pub left_kernel : (q p : ℕ) (X : ℕ → ℕ → R) (y : ℕ → R) → p < suc q
        → ((l j : ℕ) → l < suc q → j < suc q → P (X l j)) → P (y p) → (y p ≡ O → ⊥)
        → ((l : ℕ) → l < suc q → total o (suc q) (λ j. X l j · y j) ≡ O) → Solution o P (suc q) (suc q) (λ j l. X l j)
    left_kernel q p X y h inside py ne zeros = done (exchange q (suc q) (λ i l. X l (skip p i)) (le_refl (suc q)) (λ i l a b. inside l (skip p i) b (skip_lt p q i a)))
      where
        done : Solution o P q (suc q) (λ i l. X l (skip p i)) → Solution o P (suc q) (suc q) (λ j l. X l j)
        done s = record { unknown = s.unknown; inside = s.inside; not_all_zero = s.not_all_zero; solves = λ j b. at j b (ℕ_discrete j p) }
          where
            C : ℕ → R
            C = s.unknown

            all : total o (suc q) (λ j. dot o (suc q) (λ l. X l j) C · y j) ≡ O
            all =
                sym (total_compose (suc q) (suc q) C X y)
                ∙ Sums.total_zero o L (suc q) (λ l. C l · total o (suc q) (λ j. X l j · y j)) (λ l b. ap (λ t. C l · t) (zeros l b) ∙ Sums.product_zero o L (C l))

            at_p : dot o (suc q) (λ l. X l p) C · y p ≡ O
            at_p =
                sym (L.sum_zero (dot o (suc q) (λ l. X l p) C · y p))
                ∙ ap (λ t. dot o (suc q) (λ l. X l p) C · y p + t) (sym (Sums.total_zero o L q (λ i. dot o (suc q) (λ l. X l (skip p i)) C · y (skip p i)) (λ i b. ap (λ t. t · y (skip p i)) (s.solves i b) ∙ Sums.zero_product o L (y (skip p i)))))
                ∙ sym (Sums.total_skip o L q p (λ j. dot o (suc q) (λ l. X l j) C · y j) h)
                ∙ all

            at : (j : ℕ) → j < suc q → Dec (j ≡ p) → dot o (suc q) (λ l. X l j) C ≡ O
            at j b (yes e) = ap (λ t. dot o (suc q) (λ l. X l t) C) e ∙ D.zero_of_product (y p) (dot o (suc q) (λ l. X l p) C) py (total_in (suc q) (λ l. X l p · C l) (λ l a. D.product_in (X l p) (C l) (inside l p a h) (s.inside l a))) ne (L.product_comm (y p) (dot o (suc q) (λ l. X l p) C) ∙ at_p)
            at j b (no n) = let i = unskip q p j h b n in ap (λ t. dot o (suc q) (λ l. X l t) C) (sym i.2) ∙ s.solves i.0 i.1

    -- the factors by which each of q vectors is spanned, as one matrix
    factors : (t q w : ℕ) (u v : ℕ → ℕ → R) → ((j : ℕ) → j < q → Spanned o P t w u (v j))
        → (c : ℕ → ℕ → R) × ((j : ℕ) → j < q → record { inside : (l : ℕ) → l < t → P (c j l); is : (k : ℕ) → k < w → v j k ≡ total o t (λ l. c j l · u l k) })
    factors t q w u v s = choose {A = ℕ → R} (λ j c. record { inside : (l : ℕ) → l < t → P (c l); is : (k : ℕ) → k < w → v j k ≡ total o t (λ l. c l · u l k) }) (λ l. O) q (λ j h. ((s j h).factor, record { inside = (s j h).inside; is = (s j h).is }))

    -- more vectors than span them are dependent
    pub dependent_of_spanned : (t q w : ℕ) (u v : ℕ → ℕ → R) → t < q → ((j : ℕ) → j < q → Spanned o P t w u (v j)) → Dependent o P q w v
    dependent_of_spanned t q w u v h s =
        let c = factors t q w u v s in
        let x = exchange t q (λ l j. c.0 j l) h (λ l j a b. (c.1 j b).inside l a) in
        record {
          factor = x.unknown;
          inside = x.inside;
          not_all_zero = x.not_all_zero;
          is = λ k l.
              Sums.total_ext o L q (λ j. x.unknown j · v j k) (λ j. x.unknown j · total o t (λ i. c.0 j i · u i k)) (λ j b. ap (λ z. x.unknown j · z) ((c.1 j b).is k l))
              ∙ total_compose q t x.unknown c.0 (λ i. u i k)
              ∙ Sums.total_zero o L t (λ i. dot o q (λ j. c.0 j i) x.unknown · u i k) (λ i b. ap (λ z. z · u i k) (x.solves i b) ∙ Sums.zero_product o L (u i k));
        }

    pub not_independent : (q w : ℕ) (v : ℕ → ℕ → R) → Dependent o P q w v → Independent o P q w v → ⊥
    not_independent q w v d i = d.not_all_zero.nonzero (i d.factor d.inside d.is d.not_all_zero.place d.not_all_zero.within)

    -- each vector is spanned by those that it is among
    pub spanned_self : (t w : ℕ) (u : ℕ → ℕ → R) (p : ℕ) → p < t → Spanned o P t w u (u p)
    spanned_self zero w u p h = absurd (not-suc-le-zero h)
    spanned_self (suc t) w u p h = record {
      factor = slot p I (λ j. O);
      inside = slot_all P t p I (λ j. O) h D.one_in (λ j l. D.zero_in);
      is = λ k l. sym (
          Sums.total_skip o L t p (λ j. slot p I (λ i. O) j · u j k) h
          ∙ ap₂ ◌+◌
          (ap (λ z. z · u p k) (slot_at p I (λ i. O)) ∙ Sums.one_product o L (u p k))
          (Sums.total_zero o L t (λ j. slot p I (λ i. O) (skip p j) · u (skip p j) k) (λ j b. ap (λ z. z · u (skip p j) k) (slot_skip p I (λ i. O) j) ∙ Sums.zero_product o L (u (skip p j) k)))
          ∙ L.sum_zero (u p k));
    }

    -- of as many independent vectors as span them, a multiple of each spanning vector is a sum of multiples
    pub spanned_of_independent : (t w : ℕ) (u v : ℕ → ℕ → R) → Independent o P t w v
        → ((j : ℕ) → j < t → Spanned o P t w u (v j)) → (l : ℕ) → l < t
        → (c : R) × P c × (c ≡ O → ⊥) × Spanned o P t w v (λ k. c · u l k)
    spanned_of_independent t w u v i s l h = go (dependent_of_spanned t (suc t) w u (slot 0 (u l) v) (le_refl (suc t)) all)
      where
        all : (j : ℕ) → j < suc t → Spanned o P t w u (slot 0 (u l) v j)
        all zero b = spanned_self t w u l h
        all (suc j) b = s j (le_of_suc-le-suc b)

        first_nonzero : (d : Dependent o P (suc t) w (slot 0 (u l) v)) → d.factor 0 ≡ O → ⊥
        first_nonzero d e = rest d.not_all_zero.place d.not_all_zero.within d.not_all_zero.nonzero
          where
            others : (j : ℕ) → j < t → d.factor (suc j) ≡ O
            others = i (λ j. d.factor (suc j)) (λ j b. d.inside (suc j) (suc-le-suc b))
                (λ k b. sym (Sums.zero_sum o L (total o t (λ j. d.factor (suc j) · v j k))) ∙ ap (λ z. z + total o t (λ j. d.factor (suc j) · v j k)) (sym (Sums.zero_product o L (u l k)) ∙ ap (λ z. z · u l k) (sym e)) ∙ d.is k b)

            rest : (j : ℕ) → j < suc t → (d.factor j ≡ O → ⊥) → ⊥
            rest zero b n = n e
            rest (suc j) b n = n (others j (le_of_suc-le-suc b))

        go : Dependent o P (suc t) w (slot 0 (u l) v) → (c : R) × P c × (c ≡ O → ⊥) × Spanned o P t w v (λ k. c · u l k)
        go d = (
          d.factor 0,
          d.inside 0 (suc-le-suc zero-le),
          first_nonzero d,
          record {
            factor = λ j. - d.factor (suc j);
            inside = λ j b. D.negative_in (d.factor (suc j)) (d.inside (suc j) (suc-le-suc b));
            is = λ k b.
                Sums.equal_of_difference o L (d.factor 0 · u l k) (total o t (λ j. (- d.factor (suc j)) · v j k))
                (ap (λ z. d.factor 0 · u l k + z)
                (ap -◌ (Sums.total_ext o L t (λ j. (- d.factor (suc j)) · v j k) (λ j. - (d.factor (suc j) · v j k)) (λ j a. Sums.negative_product o L (d.factor (suc j)) (v j k)) ∙ Sums.total_negative o L t (λ j. d.factor (suc j) · v j k))
                ∙ Sums.negative_negative o L (total o t (λ j. d.factor (suc j) · v j k)))
                ∙ d.is k b);
          },
        )

-- the members of a field
pub domain_of_field : {M : Type 0} (o : RingOps M) (F : IsField o) → Domain o All
domain_of_field o F = record {
  zero_in = tt;
  one_in = tt;
  sum_in = λ x y p q. tt;
  negative_in = λ x p. tt;
  product_in = λ x y p q. tt;
  one_nonzero = Fields.one_nonzero o F;
  zero_decides = λ x p. F.decides x o.zero;
  zero_of_product = λ x y p q. Fields.zero_of_product o F x y;
}

-- the polynomials over a field
pub domain_of_polynomials : {M : Type 0} (o : RingOps M) (F : IsField o) → Domain (series o) (Polynomial o)
domain_of_polynomials o F =
    let L = F.laws.ring in
    record {
      zero_in = B.polynomial_zero o L;
      one_in = B.polynomial_constant o L o.one;
      sum_in = B.polynomial_sum o L;
      negative_in = B.polynomial_negative o L;
      product_in = B.polynomial_product o L;
      one_nonzero = D.one_nonzero o F;
      zero_decides = D.zero_decides o F;
      zero_of_product = D.zero_of_product o F;
    }

-- over a field: as many independent vectors as span them span the same
pub spanned_of_independent_members : {M : Type 0} (o : RingOps M) (F : IsField o) (t w : ℕ) (u v : ℕ → ℕ → M)
    → Independent o All t w v → ((j : ℕ) → j < t → Spanned o All t w u (v j)) → (l : ℕ) → l < t
    → Spanned o All t w v (u l)
spanned_of_independent_members {M} o F t w u v i s l h = go (spanned_of_independent o L All (domain_of_field o F) t w u v i s l h)
  where
    L : RingLaws o
    L = F.laws.ring

    go : (c : M) × All c × (c ≡ o.zero → ⊥) × Spanned o All t w v (λ k. o.product c (u l k)) → Spanned o All t w v (u l)
    go (c, p, n, r) =
        let z = F.inverts c n in
        record {
          factor = λ j. o.product z.0 (r.factor j);
          inside = λ j b. tt;
          is = λ k b.
              sym (Sums.one_product o L (u l k))
              ∙ ap (λ x. o.product x (u l k)) (sym (L.product_comm z.0 c ∙ z.1))
              ∙ L.product_assoc z.0 c (u l k)
              ∙ ap (λ x. o.product z.0 x) (r.is k b)
              ∙ sym (Sums.total_scale o L t z.0 (λ j. o.product (r.factor j) (v j k)))
              ∙ Sums.total_ext o L t (λ j. o.product z.0 (o.product (r.factor j) (v j k))) (λ j. o.product (o.product z.0 (r.factor j)) (v j k)) (λ j a. sym (L.product_assoc z.0 (r.factor j) (v j k)));
        }

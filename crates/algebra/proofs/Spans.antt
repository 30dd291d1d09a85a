-- Combinations of vectors of members of a field. Main results: spanned_sum, spanned_scale, spanned_total, spanned_trans (the combinations are
-- closed), spanned_decides (whether a vector is a combination is decidable), dot_combination (a product with a combination).
use mathlib.Core.Path.{◌≡◌, refl, sym, ap, ap₂, ◌∙◌}
use mathlib.Core.Logic.{◌⊎◌, inl, inr}
use mathlib.Core.List.{[], ◌∷◌}
use Prim.Native.Nat.{ℕ, zero, suc, ◌≤◌, ◌<◌, zero-le, suc-le-suc}
use native.Mathlib.Nat.{le_of_suc-le-suc, not-suc-le-zero}
use native.Mathlib.Decide.{map_dec}
use native.Mathlib.Omega.{arith}
use Rattle.algebra.specs.Rings.{RingOps, RingLaws, IsField}
use Rattle.algebra.specs.Series.{total, dot}
use Rattle.algebra.specs.Independence.{All, Domain, NotAllZero, Spanned, Independent}
use Rattle.algebra.proofs.Rows.{skip, slot, slot_at, slot_skip, cut, cut_low, cut_high, cut_in}
use Rattle.algebra.proofs.Sums as Sums
use Rattle.algebra.proofs.Solver.{solve, var, 𝟏, ◌⊞◌, ◌⊠◌, neg}
use Rattle.algebra.proofs.Exchange as E

module _ {R : Type 0} (o : RingOps R) (L : RingLaws o) where
  open o use {zero as O, one as I, sum as ◌+◌, negative as -◌, product as ◌·◌}

  infixl 60 ◌+◌
  infixl 70 ◌·◌
  infix 80 -◌
  pub dot_ext : (n : ℕ) (a h e : ℕ → R) → ((i : ℕ) → i < n → h i ≡ e i) → dot o n a h ≡ dot o n a e
  dot_ext n a h e p = Sums.total_ext o L n (λ i. a i · h i) (λ i. a i · e i) (λ i l. ap (λ t. a i · t) (p i l))

  pub dot_sum : (n : ℕ) (a h e : ℕ → R) → dot o n a (λ i. h i + e i) ≡ dot o n a h + dot o n a e
  dot_sum n a h e = Sums.total_ext o L n (λ i. a i · (h i + e i)) (λ i. a i · h i + a i · e i) (λ i l. L.product_sum (a i) (h i) (e i)) ∙ Sums.total_sum o L n (λ i. a i · h i) (λ i. a i · e i)

  pub dot_scale : (n : ℕ) (a h : ℕ → R) (x : R) → dot o n a (λ i. x · h i) ≡ x · dot o n a h
  dot_scale n a h x = Sums.total_ext o L n (λ i. a i · (x · h i)) (λ i. x · (a i · h i)) (λ i l. Sums.product_left_comm o L (a i) x (h i)) ∙ Sums.total_scale o L n x (λ i. a i · h i)

  pub dot_negative : (n : ℕ) (a h : ℕ → R) → dot o n a (λ i. - h i) ≡ - dot o n a h
  dot_negative n a h = Sums.total_ext o L n (λ i. a i · (- h i)) (λ i. - (a i · h i)) (λ i l. Sums.product_negative o L (a i) (h i)) ∙ Sums.total_negative o L n (λ i. a i · h i)

  -- the product with a combination of the vectors u
  pub dot_combination : (n m : ℕ) (a : ℕ → R) (x : ℕ → R) (u : ℕ → ℕ → R)
      → dot o n a (λ i. total o m (λ j. x j · u j i)) ≡ total o m (λ j. x j · dot o n a (u j))
  dot_combination n m a x u =
      Sums.total_ext o L n (λ i. a i · total o m (λ j. x j · u j i)) (λ i. total o m (λ j. x j · (a i · u j i)))
      (λ i l. sym (Sums.total_scale o L m (a i) (λ j. x j · u j i)) ∙ Sums.total_ext o L m (λ j. a i · (x j · u j i)) (λ j. x j · (a i · u j i)) (λ j b. Sums.product_left_comm o L (a i) (x j) (u j i)))
      ∙ Sums.total_swap o L n m (λ i j. x j · (a i · u j i))
      ∙ Sums.total_ext o L m (λ j. total o n (λ i. x j · (a i · u j i))) (λ j. x j · dot o n a (u j)) (λ j b. Sums.total_scale o L n (x j) (λ i. a i · u j i))

  -- the combination with one multiple t, at p
  pub total_slot : (m p : ℕ) (t : R) (u : ℕ → R) → p < m → total o m (λ j. slot p t (λ i. O) j · u j) ≡ t · u p
  total_slot zero p t u h = absurd (not-suc-le-zero h)
  total_slot (suc m) p t u h =
      Sums.total_skip o L m p (λ j. slot p t (λ i. O) j · u j) h
      ∙ ap₂ ◌+◌
      (ap (λ z. z · u p) (slot_at p t (λ i. O)))
      (Sums.total_zero o L m (λ j. slot p t (λ i. O) (skip p j) · u (skip p j)) (λ j b. ap (λ z. z · u (skip p j)) (slot_skip p t (λ i. O) j) ∙ Sums.zero_product o L (u (skip p j))))
      ∙ L.sum_zero (t · u p)

  -- the product with a vector that has one component
  pub dot_slot : (n p : ℕ) (a : ℕ → R) (t : R) → p < n → dot o n a (slot p t (λ i. O)) ≡ a p · t
  dot_slot n p a t h = Sums.total_ext o L n (λ i. a i · slot p t (λ j. O) i) (λ i. slot p t (λ j. O) i · a i) (λ i l. L.product_comm (a i) (slot p t (λ j. O) i)) ∙ total_slot n p t a h ∙ L.product_comm t (a p)

  -- terms from t on are zero
  pub total_truncate : (t m : ℕ) (f : ℕ → R) → t ≤ m → ((j : ℕ) → t ≤ j → j < m → f j ≡ O) → total o m f ≡ total o t f
  total_truncate zero m f h z = Sums.total_zero o L m f (λ j b. z j zero-le b)
  total_truncate (suc t) zero f h z = absurd (not-suc-le-zero h)
  total_truncate (suc t) (suc m) f h z = ap (λ s. f 0 + s) (total_truncate t m (λ j. f (suc j)) (le_of_suc-le-suc h) (λ j a b. z (suc j) (suc-le-suc a) (suc-le-suc b)))

  module _ (P : R → Type 0) (D : Domain o P) where
    pub spanned_ext : (t w : ℕ) (v : ℕ → ℕ → R) (y z : ℕ → R) → ((k : ℕ) → k < w → y k ≡ z k) → Spanned o P t w v y → Spanned o P t w v z
    spanned_ext t w v y z e s = record { factor = s.factor; inside = s.inside; is = λ k l. sym (e k l) ∙ s.is k l }

    pub spanned_zero : (t w : ℕ) (v : ℕ → ℕ → R) → Spanned o P t w v (λ k. O)
    spanned_zero t w v = record { factor = λ j. O; inside = λ j l. D.zero_in; is = λ k l. sym (Sums.total_zero o L t (λ j. O · v j k) (λ j b. Sums.zero_product o L (v j k))) }

    pub spanned_sum : (t w : ℕ) (v : ℕ → ℕ → R) (y z : ℕ → R) → Spanned o P t w v y → Spanned o P t w v z → Spanned o P t w v (λ k. y k + z k)
    spanned_sum t w v y z p q = record {
      factor = λ j. p.factor j + q.factor j;
      inside = λ j l. D.sum_in (p.factor j) (q.factor j) (p.inside j l) (q.inside j l);
      is = λ k l. ap₂ ◌+◌ (p.is k l) (q.is k l) ∙ sym (Sums.total_sum o L t (λ j. p.factor j · v j k) (λ j. q.factor j · v j k)) ∙ Sums.total_ext o L t (λ j. p.factor j · v j k + q.factor j · v j k) (λ j. (p.factor j + q.factor j) · v j k) (λ j b. sym (Sums.sum_product o L (p.factor j) (q.factor j) (v j k)));
    }

    pub spanned_scale : (t w : ℕ) (v : ℕ → ℕ → R) (c : R) (y : ℕ → R) → P c → Spanned o P t w v y → Spanned o P t w v (λ k. c · y k)
    spanned_scale t w v c y i p = record {
      factor = λ j. c · p.factor j;
      inside = λ j l. D.product_in c (p.factor j) i (p.inside j l);
      is = λ k l. ap (λ s. c · s) (p.is k l) ∙ sym (Sums.total_scale o L t c (λ j. p.factor j · v j k)) ∙ Sums.total_ext o L t (λ j. c · (p.factor j · v j k)) (λ j. c · p.factor j · v j k) (λ j b. sym (L.product_assoc c (p.factor j) (v j k)));
    }

    -- a combination of combinations
    pub spanned_total : (t w s : ℕ) (v : ℕ → ℕ → R) (c : ℕ → R) (y : ℕ → ℕ → R) → ((j : ℕ) → j < s → P (c j))
        → ((j : ℕ) → j < s → Spanned o P t w v (y j)) → Spanned o P t w v (λ k. total o s (λ j. c j · y j k))
    spanned_total t w zero v c y i p = spanned_zero t w v
    spanned_total t w (suc s) v c y i p =
        spanned_sum t w v (λ k. c 0 · y 0 k) (λ k. total o s (λ j. c (suc j) · y (suc j) k))
        (spanned_scale t w v (c 0) (y 0) (i 0 (suc-le-suc zero-le)) (p 0 (suc-le-suc zero-le)))
        (spanned_total t w s v (λ j. c (suc j)) (λ j. y (suc j)) (λ j l. i (suc j) (suc-le-suc l)) (λ j l. p (suc j) (suc-le-suc l)))

    pub spanned_trans : (t s w : ℕ) (u v : ℕ → ℕ → R) (y : ℕ → R) → ((j : ℕ) → j < s → Spanned o P t w u (v j))
        → Spanned o P s w v y → Spanned o P t w u y
    spanned_trans t s w u v y p q = spanned_ext t w u (λ k. total o s (λ j. q.factor j · v j k)) y (λ k l. sym (q.is k l)) (spanned_total t w s u q.factor v q.inside p)

    -- the first of independent vectors are independent
    pub independent_prefix : (t m w : ℕ) (v : ℕ → ℕ → R) → t ≤ m → Independent o P m w v → Independent o P t w v
    independent_prefix t m w v h i x p e j b = sym (cut_low o t x j b) ∙ i (cut o t x) (λ l a. cut_in o P t x D.zero_in p l) (λ k a. total_truncate t m (λ l. cut o t x l · v l k) h (λ l c d. ap (λ z. z · v l k) (cut_high o t x l c) ∙ Sums.zero_product o L (v l k)) ∙ Sums.total_ext o L t (λ l. cut o t x l · v l k) (λ l. x l · v l k) (λ l c. ap (λ z. z · v l k) (cut_low o t x l c)) ∙ e k a) j (omega arith)

module _ {M : Type 0} (o : RingOps M) (F : IsField o) where
  abbrev L : RingLaws o
  L = F.laws.ring

  open o use {zero as O, one as I, sum as ◌+◌, negative as -◌, product as ◌·◌}

  infixl 60 ◌+◌
  infixl 70 ◌·◌
  infix 80 -◌
  -- where the first coordinate of every vector is zero
  module _ (t w : ℕ) (v : ℕ → ℕ → M) (y : ℕ → M) (z : (j : ℕ) → j < t → v j 0 ≡ O) where
    combination_zero : (f : ℕ → M) → total o t (λ j. f j · v j 0) ≡ O
    combination_zero f = Sums.total_zero o L t (λ j. f j · v j 0) (λ j b. ap (λ s. f j · s) (z j b) ∙ Sums.product_zero o L (f j))

    from_tail : y 0 ≡ O → Spanned o All t w (λ j k. v j (suc k)) (λ k. y (suc k)) → Spanned o All t (suc w) v y
    from_tail e s = record { factor = s.factor; inside = λ j l. tt; is = at }
      where
        at : (k : ℕ) → k < suc w → y k ≡ total o t (λ j. s.factor j · v j k)
        at zero l = e ∙ sym (combination_zero s.factor)
        at (suc k) l = s.is k (le_of_suc-le-suc l)

    decide_tail : Dec (y 0 ≡ O) → Dec (Spanned o All t w (λ j k. v j (suc k)) (λ k. y (suc k))) → Dec (Spanned o All t (suc w) v y)
    decide_tail (no n) d = no (λ s. n (s.is 0 (suc-le-suc zero-le) ∙ combination_zero s.factor))
    decide_tail (yes e) d = map_dec (from_tail e) (λ s. record { factor = s.factor; inside = λ j l. tt; is = λ k l. s.is (suc k) (suc-le-suc l) }) d

  -- where the first coordinate of v p is not zero: subtract multiples of v p from the others and from y
  module _ (t w : ℕ) (v : ℕ → ℕ → M) (y : ℕ → M) (p : ℕ) (h : p < suc t) (c : M) (inverse : v p 0 · c ≡ I) where
    abbrev ratio : ℕ → M
    ratio j = v (skip p j) 0 · c

    abbrev others : ℕ → ℕ → M
    others j k = v (skip p j) (suc k) + (- (ratio j · v p (suc k)))

    abbrev rest : ℕ → M
    rest k = y (suc k) + (- (y 0 · c · v p (suc k)))

    combination_others : (f : ℕ → M) (k : ℕ)
        → total o t (λ j. f j · others j k) ≡ total o t (λ j. f j · v (skip p j) (suc k)) + (- (total o t (λ j. f j · v (skip p j) 0) · c · v p (suc k)))
    combination_others f k =
        Sums.total_ext o L t (λ j. f j · others j k) (λ j. f j · v (skip p j) (suc k) + f j · v (skip p j) 0 · (- (c · v p (suc k))))
        (λ j b. solve o L (f j ∷ v (skip p j) (suc k) ∷ v (skip p j) 0 ∷ c ∷ v p (suc k) ∷ []) (var 0 ⊠ (var 1 ⊞ neg (var 2 ⊠ var 3 ⊠ var 4))) (var 0 ⊠ var 1 ⊞ var 0 ⊠ var 2 ⊠ neg (var 3 ⊠ var 4)) refl)
        ∙ Sums.total_sum o L t (λ j. f j · v (skip p j) (suc k)) (λ j. f j · v (skip p j) 0 · (- (c · v p (suc k))))
        ∙ ap (λ s. total o t (λ j. f j · v (skip p j) (suc k)) + s)
        (Sums.total_scale_right o L t (λ j. f j · v (skip p j) 0) (- (c · v p (suc k)))
        ∙ solve o L (total o t (λ j. f j · v (skip p j) 0) ∷ c ∷ v p (suc k) ∷ []) (var 0 ⊠ neg (var 1 ⊠ var 2)) (neg (var 0 ⊠ var 1 ⊠ var 2)) refl)

    total_of_slot : (x : M) (f : ℕ → M) (k : ℕ) → total o (suc t) (λ j. slot p x f j · v j k) ≡ x · v p k + total o t (λ j. f j · v (skip p j) k)
    total_of_slot x f k =
        Sums.total_skip o L t p (λ j. slot p x f j · v j k) h
        ∙ ap₂ ◌+◌ (ap (λ s. s · v p k) (slot_at p x f)) (Sums.total_ext o L t (λ j. slot p x f (skip p j) · v (skip p j) k) (λ j. f j · v (skip p j) k) (λ j b. ap (λ s. s · v (skip p j) k) (slot_skip p x f j)))

    from_others : Spanned o All t w others rest → Spanned o All (suc t) (suc w) v y
    from_others s = record { factor = slot p x f; inside = λ j l. tt; is = λ k l. at k l ∙ sym (total_of_slot x f k) }
      where
        f : ℕ → M
        f = s.factor

        x : M
        x = c · (y 0 + (- total o t (λ j. f j · v (skip p j) 0)))

        at : (k : ℕ) → k < suc w → y k ≡ x · v p k + total o t (λ j. f j · v (skip p j) k)
        at zero l =
            solve o L (y 0 ∷ total o t (λ j. f j · v (skip p j) 0) ∷ []) (var 0) (𝟏 ⊠ (var 0 ⊞ neg (var 1)) ⊞ var 1) refl
            ∙ ap (λ u. u · (y 0 + (- total o t (λ j. f j · v (skip p j) 0))) + total o t (λ j. f j · v (skip p j) 0)) (sym inverse)
            ∙ solve o L (y 0 ∷ total o t (λ j. f j · v (skip p j) 0) ∷ v p 0 ∷ c ∷ []) (var 2 ⊠ var 3 ⊠ (var 0 ⊞ neg (var 1)) ⊞ var 1) (var 3 ⊠ (var 0 ⊞ neg (var 1)) ⊠ var 2 ⊞ var 1) refl
        at (suc k) l =
            solve o L (y (suc k) ∷ y 0 ∷ c ∷ v p (suc k) ∷ []) (var 0) (var 0 ⊞ neg (var 1 ⊠ var 2 ⊠ var 3) ⊞ var 1 ⊠ var 2 ⊠ var 3) refl
            ∙ ap (λ u. u + y 0 · c · v p (suc k)) (s.is k (le_of_suc-le-suc l) ∙ combination_others f k)
            ∙ solve o L (y 0 ∷ c ∷ v p (suc k) ∷ total o t (λ j. f j · v (skip p j) 0) ∷ total o t (λ j. f j · v (skip p j) (suc k)) ∷ []) (var 4 ⊞ neg (var 3 ⊠ var 1 ⊠ var 2) ⊞ var 0 ⊠ var 1 ⊠ var 2) (var 1 ⊠ (var 0 ⊞ neg (var 3)) ⊠ var 2 ⊞ var 4) refl

    to_others : Spanned o All (suc t) (suc w) v y → Spanned o All t w others rest
    to_others s = record { factor = f; inside = λ j l. tt; is = at }
      where
        f : ℕ → M
        f j = s.factor (skip p j)

        parts : (k : ℕ) → k < suc w → y k ≡ s.factor p · v p k + total o t (λ j. f j · v (skip p j) k)
        parts k l = s.is k l ∙ Sums.total_skip o L t p (λ j. s.factor j · v j k) h

        at : (k : ℕ) → k < w → rest k ≡ total o t (λ j. f j · others j k)
        at k l =
            ap₂ (λ a b. a + (- (b · c · v p (suc k)))) (parts (suc k) (suc-le-suc l)) (parts 0 (suc-le-suc zero-le))
            ∙ solve o L (s.factor p ∷ v p (suc k) ∷ total o t (λ j. f j · v (skip p j) (suc k)) ∷ v p 0 ∷ total o t (λ j. f j · v (skip p j) 0) ∷ c ∷ [])
            (var 0 ⊠ var 1 ⊞ var 2 ⊞ neg ((var 0 ⊠ var 3 ⊞ var 4) ⊠ var 5 ⊠ var 1)) (var 0 ⊠ var 1 ⊞ neg (var 3 ⊠ var 5 ⊠ (var 0 ⊠ var 1)) ⊞ (var 2 ⊞ neg (var 4 ⊠ var 5 ⊠ var 1))) refl
            ∙ ap (λ u. s.factor p · v p (suc k) + (- (u · (s.factor p · v p (suc k)))) + (total o t (λ j. f j · v (skip p j) (suc k)) + (- (total o t (λ j. f j · v (skip p j) 0) · c · v p (suc k))))) inverse
            ∙ solve o L ((s.factor p · v p (suc k)) ∷ (total o t (λ j. f j · v (skip p j) (suc k)) + (- (total o t (λ j. f j · v (skip p j) 0) · c · v p (suc k)))) ∷ []) (var 0 ⊞ neg (𝟏 ⊠ var 0) ⊞ var 1) (var 1) refl
            ∙ sym (combination_others f k)

  -- whether y is a combination of t vectors of width w
  pub spanned_decides : (w t : ℕ) (v : ℕ → ℕ → M) (y : ℕ → M) → Dec (Spanned o All t w v y)
  spanned_decides zero t v y = yes (record { factor = λ j. O; inside = λ j l. tt; is = λ k l. absurd (not-suc-le-zero l) })
  spanned_decides (suc w) zero v y = decide_tail zero w v y (λ j l. absurd (not-suc-le-zero l)) (F.decides (y 0) O) (spanned_decides w zero (λ j k. v j (suc k)) (λ k. y (suc k)))
  spanned_decides (suc w) (suc t) v y = go (E.all_zero_or_not o L All (E.domain_of_field o F) (suc t) (λ j. v j 0) (λ j l. tt)) (spanned_decides w t) (spanned_decides w (suc t) (λ j k. v j (suc k)) (λ k. y (suc k)))
    where
      go : ((j : ℕ) → j < suc t → v j 0 ≡ O) ⊎ NotAllZero o (suc t) (λ j. v j 0)
          → ((u : ℕ → ℕ → M) (x : ℕ → M) → Dec (Spanned o All t w u x))
          → Dec (Spanned o All (suc t) w (λ j k. v j (suc k)) (λ k. y (suc k))) → Dec (Spanned o All (suc t) (suc w) v y)
      go (inl z) fewer tails = decide_tail (suc t) w v y z (F.decides (y 0) O) tails
      go (inr r) fewer tails =
          let c = F.inverts (v r.place 0) r.nonzero in
          map_dec (from_others t w v y r.place r.within c.0 c.1) (to_others t w v y r.place r.within c.0 c.1) (fewer (others t w v y r.place r.within c.0 c.1) (rest t w v y r.place r.within c.0 c.1))

-- Syzygies of a row by their leading places. Main results: vector_of_relation, syzygy_of_nonpivotal and nonpivotal_of_syzygy (a place is
-- non-pivotal when a syzygy has it as leading place), one_of_two_classes (one of two classes has a syzygy with its leading place in it),
-- not_every_class.
use mathlib.Core.Path.{◌≡◌, refl, sym, ap, ap₂, ◌∙◌, fun_ext}
use mathlib.Core.Logic.{◌⊎◌, inl, inr}
use mathlib.Core.List.{[], ◌∷◌}
use Prim.Native.Nat.{ℕ, zero, suc, ◌≤◌, ◌<◌, ◌*◌, ◌/◌, ◌%◌, ◌-◌, ◌+◌ as ◌plus◌}
use native.Mathlib.Nat.{le_refl, mod-lt, div-add-mod, mul-suc, mul-add, mul-zero}
use native.Mathlib.Decide.{dec_lt, ℕ_discrete}
use native.Mathlib.Omega.{arith}
use Rattle.algebra.specs.Rings.{RingOps, RingLaws, IsField}
use Rattle.algebra.specs.Series.{total, dot, constant, series, shift, Below}
use Rattle.algebra.specs.Divisors.{Bounded, VectorDegree, AllZero}
use Rattle.algebra.specs.Independence.{All, Domain}
use Rattle.algebra.specs.Places.{place_list, NonPivotal}
use Rattle.algebra.proofs.Rows as Rows
use Rattle.algebra.proofs.Sums as Sums
use Rattle.algebra.proofs.Solver.{solve, var, 𝟎, ◌⊞◌, ◌⊠◌, neg}
use Rattle.algebra.proofs.Series as S
use Rattle.algebra.proofs.Fields as Fields
use Rattle.algebra.proofs.Bounds as B
use Rattle.algebra.proofs.Exchange as E
use Rattle.algebra.proofs.Spans as Spans
use Rattle.algebra.proofs.Pivots as Pivots
use Rattle.algebra.proofs.Naturals as N
use Rattle.algebra.proofs.Places as Places
use Rattle.algebra.proofs.Reduction as Reduction
use Rattle.algebra.proofs.Reduction.{Reduced}
use Rattle.algebra.proofs.Places.{at, spread, BelowPlace}

-- a syzygy with leading place q and coefficient one there
pub record SyzygyAt {M : Type 0} (o : RingOps M) (n : ℕ) (r : ℕ → ℕ → M) (q : ℕ) : Type 0 where
  pub vector : ℕ → ℕ → M
  pub below : BelowPlace o n (suc q) vector
  pub leading : at n vector q ≡ o.one
  pub syzygy : dot (series o) n r vector ≡ (series o).zero

module _ {M : Type 0} (o : RingOps M) (F : IsField o) (n : ℕ) (positive : zero < n) where
  abbrev L : RingLaws o
  L = F.laws.ring

  abbrev SL : RingLaws (series o)
  SL = S.series_laws o L

  abbrev members : Domain o All
  members = E.domain_of_field o F

  open o use {zero as O, one as I, product as ◌⊙◌, sum as ◌⊕◌, negative as minus}
  open series o use {zero as 𝟘, one as 𝟙, sum as ◌+◌, negative as -◌, product as ◌·◌}

  infixl 60 ◌+◌
  infixl 60 ◌⊕◌
  infixl 70 ◌·◌
  infixl 70 ◌⊙◌
  infix 80 -◌
  pub dot_below : (K N P : ℕ) (r h : ℕ → ℕ → M) → K plus N ≤ suc P → Bounded o n K r → Bounded o n N h → Below o P (dot (series o) n r h)
  dot_below K N P r h l a b = B.below_total o L n P (λ i. r i · h i) (λ i e. B.below_product o L K N P (r i) (h i) l (a i e) (b i e))

  module _ (d : ℕ) (r : ℕ → ℕ → M) (r_bounded : Bounded o n (suc d) r) where
    -- a combination of the lists below Q, as a vector of degree at most d
    pub vector_of_relation : (Q : ℕ) (x f : ℕ → M) → Q ≤ n * suc d → Below o (suc (d plus d)) f
        → ((k : ℕ) → k < suc (d plus d) → total o Q (λ q. x q ⊙ place_list o n r q k) ≡ f k)
        → dot (series o) n r (spread n (Rows.cut o Q x)) ≡ f
    vector_of_relation Q x f l b e = fun_ext coefficients
      where
        bounded : Bounded o n (suc d) (spread n (Rows.cut o Q x))
        bounded = Places.bounded_of_below_place n positive o Q (suc d) (spread n (Rows.cut o Q x)) l (λ i k a c. Rows.cut_high o Q x (n * k plus i) c)

        coefficients : (k : ℕ) → dot (series o) n r (spread n (Rows.cut o Q x)) k ≡ f k
        coefficients k = elim (dec_lt k (suc (d plus d))) [
          | yes h ↦ Places.dot_spread o L n Q r x k positive ∙ e k h
          | no h ↦ dot_below (suc d) (suc d) (suc (d plus d)) r (spread n (Rows.cut o Q x)) (omega arith) r_bounded bounded k (omega arith) ∙ sym (b k (omega arith))
        ]

    -- the vector with one at q and the negated factors before it
    abbrev pub relation_vector : ℕ → (ℕ → M) → ℕ → ℕ → M
    relation_vector q f = spread n (Rows.cut o (suc q) (Rows.slot q I (λ j. minus (f j))))

    pub relation_syzygy : (q : ℕ) (f : ℕ → M) → q < n * suc d
        → ((k : ℕ) → k < suc (d plus d) → place_list o n r q k ≡ total o q (λ j. f j ⊙ place_list o n r j k))
        → dot (series o) n r (relation_vector q f) ≡ 𝟘
    relation_syzygy q f h e =
        vector_of_relation (suc q) (Rows.slot q I (λ j. minus (f j))) 𝟘 h (B.below_zero o L (suc (d plus d)))
        (λ k b.
        Pivots.total_slot_last o F q I (λ j. minus (f j)) (λ j. place_list o n r j k)
        ∙ ap₂ ◌⊕◌
        (Sums.total_ext o L q (λ j. minus (f j) ⊙ place_list o n r j k) (λ j. minus (f j ⊙ place_list o n r j k)) (λ j a. Sums.negative_product o L (f j) (place_list o n r j k)) ∙ Sums.total_negative o L q (λ j. f j ⊙ place_list o n r j k) ∙ ap minus (sym (e k b)))
        (Sums.one_product o L (place_list o n r q k))
        ∙ L.sum_comm (minus (place_list o n r q k)) (place_list o n r q k)
        ∙ L.sum_negative (place_list o n r q k))

    pub syzygy_of_nonpivotal : (q : ℕ) → q < n * suc d → NonPivotal o n d r q → SyzygyAt o n r q
    syzygy_of_nonpivotal q h s = record {
      vector = relation_vector q s.factor;
      below = λ i k a l. Rows.cut_high o (suc q) (Rows.slot q I (λ j. minus (s.factor j))) (n * k plus i) l;
      leading = Places.at_spread n positive (Rows.cut o (suc q) (Rows.slot q I (λ j. minus (s.factor j)))) q ∙ Rows.cut_low o (suc q) (Rows.slot q I (λ j. minus (s.factor j))) q (le_refl (suc q)) ∙ Rows.slot_at q I (λ j. minus (s.factor j));
      syzygy = relation_syzygy q s.factor h s.is;
    }

    pub nonpivotal_of_syzygy : (q : ℕ) → SyzygyAt o n r q → NonPivotal o n d r q
    nonpivotal_of_syzygy q s =
        Pivots.spanned_of_relation o F (suc (d plus d)) (place_list o n r) q (at n s.vector)
        (λ k b. sym (Places.dot_places o L n (suc q) r s.vector k positive s.below) ∙ ap (λ (f : ℕ → M). f k) s.syzygy)
        (λ z. Fields.one_nonzero o F (sym s.leading ∙ z))

  -- a syzygy scaled so that its leading coefficient is one
  pub scaled_syzygy : (r h : ℕ → ℕ → M) (q : ℕ) → dot (series o) n r h ≡ 𝟘 → BelowPlace o n (suc q) h → (at n h q ≡ O → ⊥) → SyzygyAt o n r q
  scaled_syzygy r h q e b x = go (F.inverts (at n h q) x)
    where
      go : (c : M) × (at n h q ⊙ c ≡ I) → SyzygyAt o n r q
      go (c, i) = record {
        vector = λ j. constant o c · h j;
        below = λ j k a l. ap (λ (t : ℕ → M). t k) (S.constant_product o L c (h j)) ∙ ap (λ t. c ⊙ t) (b j k a l) ∙ Sums.product_zero o L c;
        leading = ap (λ (t : ℕ → M). t (q / n)) (S.constant_product o L c (h (q % n))) ∙ L.product_comm c (at n h q) ∙ i;
        syzygy = Spans.dot_scale (series o) SL n r h (constant o c) ∙ ap (λ t. constant o c · t) e ∙ Sums.product_zero (series o) SL (constant o c);
      }

  -- the unit vector of a component where the row is zero
  unit_syzygy : (r : ℕ → ℕ → M) (i : ℕ) → i < n → r i ≡ 𝟘 → SyzygyAt o n r (n * 0 plus i)
  unit_syzygy r i a z = record {
    vector = Rows.slot i 𝟙 (λ j. 𝟘);
    below = high;
    leading = Places.at_place n positive (Rows.slot i 𝟙 (λ j. 𝟘)) i 0 a ∙ ap (λ (t : ℕ → M). t 0) (Rows.slot_at i 𝟙 (λ j. 𝟘));
    syzygy = Spans.dot_slot (series o) SL n i r 𝟙 a ∙ ap (λ t. t · 𝟙) z ∙ Sums.zero_product (series o) SL 𝟙;
  }
    where
      high : BelowPlace o n (suc (n * 0 plus i)) (Rows.slot i 𝟙 (λ j. 𝟘))
      high j zero b l = ap (λ (t : ℕ → M). t 0) (Rows.slot_off i 𝟙 𝟘 j (λ e. omega arith))
      high j (suc k) b l = Rows.slot_both (λ (t : ℕ → M). t (suc k) ≡ O) i 𝟙 𝟘 j refl refl

  module _ (d : ℕ) (r : ℕ → ℕ → M) (r_bounded : Bounded o n (suc d) r) where
    -- r_j e_i - r_i e_j
    abbrev cross : ℕ → ℕ → ℕ → ℕ → M
    cross i j l = Rows.slot i (r j) (λ a. 𝟘) l + Rows.slot j (- r i) (λ a. 𝟘) l

    cross_syzygy : (i j : ℕ) → i < n → j < n → dot (series o) n r (cross i j) ≡ 𝟘
    cross_syzygy i j a b =
        Spans.dot_sum (series o) SL n r (Rows.slot i (r j) (λ c. 𝟘)) (Rows.slot j (- r i) (λ c. 𝟘))
        ∙ ap₂ ◌+◌ (Spans.dot_slot (series o) SL n i r (r j) a) (Spans.dot_slot (series o) SL n j r (- r i) b)
        ∙ solve (series o) SL (r i ∷ r j ∷ []) (var 0 ⊠ var 1 ⊞ var 1 ⊠ neg (var 0)) 𝟎 refl

    cross_bounded : (i j : ℕ) → i < n → j < n → Bounded o n (suc d) (cross i j)
    cross_bounded i j a b l c =
        B.below_sum o L (suc d) (Rows.slot i (r j) (λ e. 𝟘) l) (Rows.slot j (- r i) (λ e. 𝟘) l)
        (Rows.slot_both (Below o (suc d)) i (r j) 𝟘 l (r_bounded j b) (B.below_zero o L (suc d)))
        (Rows.slot_both (Below o (suc d)) j (- r i) 𝟘 l (B.below_negative o L (suc d) (r i) (r_bounded i a)) (B.below_zero o L (suc d)))

    -- of two classes one has a syzygy of degree at most d
    pub one_of_two_classes : (i j : ℕ) → i < n → j < n → (i ≡ j → ⊥) → (q : ℕ) × (q < n * suc d) × SyzygyAt o n r q × ((q % n ≡ i) ⊎ (q % n ≡ j))
    one_of_two_classes i j a b ne = go (Reduction.leading_place o F n positive (n * suc d) (cross i j) (Places.below_place_of_bounded n positive o (suc d) (cross i j) (cross_bounded i j a b)))
      where
        at_j : cross i j j ≡ - r i
        at_j = ap₂ ◌+◌ (Rows.slot_off i (r j) 𝟘 j (λ e. ne (sym e))) (Rows.slot_at j (- r i) (λ c. 𝟘)) ∙ Sums.zero_sum (series o) SL (- r i)

        class : (q : ℕ) → (at n (cross i j) q ≡ O → ⊥) → Dec (q % n ≡ i) → Dec (q % n ≡ j) → (q % n ≡ i) ⊎ (q % n ≡ j)
        class q x (yes e) y = inl e
        class q x (no e) (yes f) = inr f
        class q x (no e) (no f) = absurd (x (ap (λ (t : ℕ → M). t (q / n)) (ap₂ ◌+◌ (Rows.slot_off i (r j) 𝟘 (q % n) e) (Rows.slot_off j (- r i) 𝟘 (q % n) f) ∙ SL.sum_zero 𝟘)))

        go : AllZero o n (cross i j) ⊎ ((q : ℕ) × (q < n * suc d) × (at n (cross i j) q ≡ O → ⊥) × BelowPlace o n (suc q) (cross i j))
            → (q : ℕ) × (q < n * suc d) × SyzygyAt o n r q × ((q % n ≡ i) ⊎ (q % n ≡ j))
        go (inl z) =
            let zero_i : r i ≡ 𝟘 = sym (Sums.negative_negative (series o) SL (r i)) ∙ ap -◌ (sym at_j ∙ z j b) ∙ Sums.negative_zero (series o) SL in
            let s = mul-suc n d in
            let t = mul-zero n in
            (n * 0 plus i, omega arith, unit_syzygy r i a zero_i, inl (Places.place_mod n 0 i a))
        go (inr (q, l, x, c)) = (q, l, scaled_syzygy r (cross i j) q (cross_syzygy i j a b) c x, class q x (ℕ_discrete (q % n) i) (ℕ_discrete (q % n) j))

    -- not every class has a syzygy with its leading place in it
    pub not_every_class : VectorDegree o n r d → ((i : ℕ) → i < n → (q : ℕ) × (q % n ≡ i) × SyzygyAt o n r q) → ⊥
    not_every_class v s = v.top (sym top_is ∙ top_zero)
      where
        chosen : (z : ℕ → ℕ × (ℕ → ℕ → M)) × ((i : ℕ) → i < n → record { class : (z i).0 % n ≡ i; below : BelowPlace o n (suc (z i).0) (z i).1; leading : at n (z i).1 (z i).0 ≡ I; syzygy : dot (series o) n r (z i).1 ≡ 𝟘 })
        chosen =
            Rows.choose {A = ℕ × (ℕ → ℕ → M)} (λ i z. record { class : z.0 % n ≡ i; below : BelowPlace o n (suc z.0) z.1; leading : at n z.1 z.0 ≡ I; syzygy : dot (series o) n r z.1 ≡ 𝟘 }) (0, λ i. 𝟘) n
            (λ i l. let x = s i l in ((x.0, x.2.vector), record { class = x.1; below = x.2.below; leading = x.2.leading; syzygy = x.2.syzygy }))

        p : ℕ → ℕ
        p i = (chosen.0 i).0

        u : ℕ → ℕ → ℕ → M
        u i = (chosen.0 i).1

        top : (T : ℕ) × ((i : ℕ) → i < n → p i ≤ T)
        top = N.common_top n p

        T : ℕ
        T = top.0

        c : ℕ
        c = v.component

        -- s^T e_c
        h : ℕ → ℕ → M
        h = Rows.slot c (shift o T 𝟙) (λ i. 𝟘)

        cover : (Q : ℕ) → T ≤ Q → (e : ℕ → ℕ → M) → Unit {0} → BelowPlace o n (suc Q) e → (at n e Q ≡ O → ⊥)
            → (j : ℕ) × (j < n) × (e : ℕ) × (Q ≡ p j plus n * e)
        cover Q l e z b x =
            let i = Q % n in
            let a = mod-lt Q positive in
            let P = p i in
            let small = top.1 i a in
            let same_Class = (chosen.1 i a).class in
            let e₁ = div-add-mod Q n in
            let e₂ = div-add-mod P n in
            let le : P / n ≤ Q / n = Reduction.power_le o F n positive (P / n) (Q / n) i a (omega arith) in
            let k = Q / n - P / n in
            let split : Q / n ≡ P / n plus k = omega arith in
            let places = ap (λ t. n * t) split ∙ mul-add n (P / n) k in
            (i, a, k, omega arith)

        reduced : Reduced o n n T u (λ e. Unit {0}) h
        reduced =
            Reduction.reduce o F n positive n u p (λ j l. (chosen.1 j l).below) (λ j l. (chosen.1 j l).leading) (λ e. Unit {0}) (λ j l x q e z. tt) T cover (n * suc T) h tt
            (Places.below_place_of_bounded n positive o (suc T) h (λ i l. Rows.slot_both (Below o (suc T)) c (shift o T 𝟙) 𝟘 i (B.below_shift o L T 1 (suc T) 𝟙 (omega arith) (B.below_constant o L I)) (B.below_zero o L (suc T))))

        same : dot (series o) n r h ≡ dot (series o) n r reduced.remainder
        same =
            Spans.dot_ext (series o) SL n r h (λ i. total (series o) n (λ j. reduced.factor j · u j i) + reduced.remainder i) (λ i l. reduced.is i)
            ∙ Spans.dot_sum (series o) SL n r (λ i. total (series o) n (λ j. reduced.factor j · u j i)) reduced.remainder
            ∙ ap (λ t. t + dot (series o) n r reduced.remainder)
            (Spans.dot_combination (series o) SL n n r reduced.factor u
            ∙ Sums.total_zero (series o) SL n (λ j. reduced.factor j · dot (series o) n r (u j)) (λ j l. ap (λ t. reduced.factor j · t) (chosen.1 j l).syzygy ∙ Sums.product_zero (series o) SL (reduced.factor j)))
            ∙ Sums.zero_sum (series o) SL (dot (series o) n r reduced.remainder)

        top_is : dot (series o) n r h (T plus d) ≡ r c d
        top_is =
            ap (λ (t : ℕ → M). t (T plus d)) (Spans.dot_slot (series o) SL n c r (shift o T 𝟙) v.within ∙ S.product_shift o L T (r c) 𝟙 ∙ ap (shift o T) (SL.product_one (r c)))
            ∙ S.shift_at o L T (T plus d) d (r c) refl

        top_zero : dot (series o) n r h (T plus d) ≡ O
        top_zero =
            ap (λ (t : ℕ → M). t (T plus d)) same
            ∙ dot_below (suc d) T (T plus d) r reduced.remainder (omega arith) r_bounded (Places.bounded_of_below_place n positive o T T reduced.remainder (Places.le_times n T positive) reduced.below) (T plus d) (le_refl (T plus d))

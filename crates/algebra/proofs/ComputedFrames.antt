-- Computed tests over numbered members: that listed columns are the frame of a listed row, that a listed block encodes a listed message.
-- Main results: frame_by_test, frames_by_tests (for a list of designs with hints), encodes_by_test. For a row a, its divisor g of degree e,
-- the divided row r of degree d with r_q of that degree, columns c and the leading places p of the check columns, all of at most S
-- coefficients, frame_by_test N F m a g e r d q c p S tt is a proof that c is the frame.
use mathlib.Core.Path.{◌≡◌, refl, sym, ap, ◌∙◌, subst, fun_ext}
use mathlib.Core.Bool.{Bool, true, false, not}
use mathlib.Core.List.{List, [], ◌∷◌}
use Prim.Native.Nat.{ℕ, zero, suc, ◌≤◌, ◌<◌, zero-le, suc-le-suc, ◌*◌, ◌/◌, ◌%◌, ◌+◌ as ◌plus◌}
use native.Mathlib.Nat.{le_of_suc-le-suc, not-suc-le-zero, add-mul-mod_self_left}
use native.Mathlib.Decide.{dec_lt}
use native.Mathlib.Omega.{arith}
use lib.Dec.{T, leb, ltb, eqb, leb→le, ltb→lt, lt→ltb, le→leb, eqb→eq, eqb_refl, T_not, not_T}
use Rattle.algebra.specs.Rings.{RingOps, RingLaws, Numbering, IsField}
use Rattle.algebra.specs.Series.{sum_below, dot, series, Below}
use Rattle.algebra.specs.Divisors.{Monic, DividedRow, VectorDegree}
use Rattle.algebra.specs.Frames.{IsFrame}
use Rattle.algebra.specs.Link.{Encodes}
use Rattle.algebra.specs.Lists.{listed, listed_row, listed_columns, listed_block, Design, each, AllFrames}
use Rattle.algebra.proofs.Bounds as B
use Rattle.algebra.proofs.Places as Places
use Rattle.algebra.proofs.Syzygies as Syzygies
use Rattle.algebra.proofs.Certificates as Certificates
use Rattle.algebra.proofs.Certificates.{FrameCertificate}

infixr 35 ◌and◌
abbrev ◌and◌ : Bool → Bool → Bool
true and b = b
false and b = false

-- a test passed at every number below n
abbrev pub all_below : ℕ → (ℕ → Bool) → Bool
all_below zero f = true
all_below (suc n) f = f 0 and all_below n (λ k. f (suc k))

abbrev implies : Bool → Bool → Bool
implies true b = b
implies false b = true

both_left : (a b : Bool) → T (a and b) → T a
both_left true b t = tt
both_left false b t = t

both_right : (a b : Bool) → T (a and b) → T b
both_right true b t = t
both_right false b t = absurd t

both : (a b : Bool) → T a → T b → T (a and b)
both true b s t = t
both false b s t = absurd s

implied : (a b : Bool) → T (implies a b) → T a → T b
implied true b t s = t
implied false b t s = absurd s

pub all_below_at : (n : ℕ) (f : ℕ → Bool) → T (all_below n f) → (k : ℕ) → k < n → T (f k)
all_below_at zero f t k l = absurd (not-suc-le-zero l)
all_below_at (suc n) f t zero l = both_left (f 0) (all_below n (λ k. f (suc k))) t
all_below_at (suc n) f t (suc k) l = all_below_at n (λ j. f (suc j)) (both_right (f 0) (all_below n (λ j. f (suc j))) t) k (le_of_suc-le-suc l)

-- how many entries a list has
abbrev size : {A : Type 0} → List A → ℕ
size [] = 0
size (x ∷ xs) = suc (size xs)

abbrev all : {A : Type 0} → (A → Bool) → List A → Bool
all f [] = true
all f (x ∷ xs) = f x and all f xs

module _ {M : Type 0} (o : RingOps M) where
  listed_below : (xs : List M) (S : ℕ) → T (leb (size xs) S) → Below o S (listed o xs)
  listed_below xs S t k l = at xs k (let h = leb→le (size xs) S t in omega arith)
    where
      at : (xs : List M) (k : ℕ) → size xs ≤ k → listed o xs k ≡ o.zero
      at [] k h = refl
      at (x ∷ xs) zero h = absurd (not-suc-le-zero h)
      at (x ∷ xs) (suc k) h = at xs k (le_of_suc-le-suc h)

  abbrev row_fits : ℕ → List (List M) → Bool
  row_fits S rows = all (λ xs. leb (size xs) S) rows

  row_below : (rows : List (List M)) (S : ℕ) → T (row_fits S rows) → (i : ℕ) → Below o S (listed_row o rows i)
  row_below [] S t i = λ k l. refl
  row_below (f ∷ fs) S t zero = listed_below f S (both_left (leb (size f) S) (row_fits S fs) t)
  row_below (f ∷ fs) S t (suc i) = row_below fs S (both_right (leb (size f) S) (row_fits S fs) t) i

  columns_below : (columns : List (List (List M))) (S : ℕ) → T (all (row_fits S) columns) → (j i : ℕ) → Below o S (listed_columns o columns j i)
  columns_below [] S t j i = λ k l. refl
  columns_below (c ∷ cs) S t zero i = row_below c S (both_left (row_fits S c) (all (row_fits S) cs) t) i
  columns_below (c ∷ cs) S t (suc j) i = columns_below cs S (both_right (row_fits S c) (all (row_fits S) cs) t) j i

module _ {M : Type 0} {o : RingOps M} {order : ℕ} {number : M → ℕ} (N : Numbering o order number) (F : IsField o)
    (m : ℕ) (rows : List (List M)) (gs : List M) (e : ℕ) (rs : List (List M)) (d q : ℕ) (cs : List (List (List M))) (p : ℕ → ℕ) (S : ℕ) where
  abbrev L : RingLaws o
  L = F.laws.ring

  abbrev n : ℕ
  n = suc m

  abbrev a : ℕ → ℕ → M
  a = listed_row o rows

  abbrev g : ℕ → M
  g = listed o gs

  abbrev r : ℕ → ℕ → M
  r = listed_row o rs

  abbrev c : ℕ → ℕ → ℕ → M
  c = listed_columns o cs

  abbrev same : M → M → Bool
  same x y = eqb (number x) (number y)

  abbrev vanishes : M → Bool
  vanishes x = same x o.zero

  same_is : (x y : M) → T (same x y) → x ≡ y
  same_is x y t = N.apart x y (eqb→eq (number x) (number y) t)

  -- the parts of the test
  abbrev sizes_test : Bool
  sizes_test = ltb 0 S and leb (size gs) S and row_fits o S rows and row_fits o S rs and all (row_fits o S) cs

  abbrev monic_test : Bool
  monic_test = same (g e) o.one and all_below S (λ k. implies (ltb e k) (vanishes (g k)))

  abbrev divided_test : Bool
  divided_test = all_below n (λ i. all_below (S plus S) (λ k. same ((series o).product g (r i) k) (a i k)))

  abbrev degree_test : Bool
  degree_test = all_below n (λ i. all_below S (λ k. implies (ltb d k) (vanishes (r i k)))) and ltb q n and not (vanishes (r q d))

  abbrev first_test : Bool
  first_test = all_below (S plus S) (λ k. same (dot (series o) n r (c 0) k) ((series o).one k)) and all_below n (λ i. all_below S (λ k. implies (ltb d k) (vanishes (c 0 i k))))

  abbrev check_test : Bool
  check_test = all_below m (λ j. all_below (S plus S) (λ k. vanishes (dot (series o) n r (c (suc j)) k)))

  abbrev places_test : Bool
  places_test =
      all_below m (λ j. all_below n (λ i. all_below S (λ k. implies (ltb (p j) (n * k plus i)) (vanishes (c (suc j) i k)))))
      and all_below m (λ j. same (c (suc j) (p j % n) (p j / n)) o.one)
      and all_below m (λ i. all_below m (λ j. implies (ltb i j) (ltb (p i) (p j))))
      and all_below m (λ i. all_below m (λ j. implies (eqb (p i % n) (p j % n)) (eqb i j)))
      and eqb (sum_below m (λ j. p j / n)) d

  abbrev off_test : Bool
  off_test =
      all_below m (λ l. all_below n (λ i. all_below (suc d) (λ k. implies (eqb i (p l % n) and leb (p l) (n * k plus i)) (vanishes (c 0 i k)))))
      and all_below m (λ j. all_below m (λ l. all_below n (λ i. all_below (suc d) (λ k. implies ((eqb i (p l % n) and leb (p l) (n * k plus i)) and not (eqb (n * k plus i) (p j))) (vanishes (c (suc j) i k))))))

  abbrev pub frame_test : Bool
  frame_test = sizes_test and monic_test and divided_test and degree_test and first_test and check_test and places_test and off_test

  -- polynomials of fewer than K coefficients are equal where those are
  equal_below : (K : ℕ) (f h : ℕ → M) → Below o K f → Below o K h → ((k : ℕ) → k < K → f k ≡ h k) → f ≡ h
  equal_below K f h b z s = fun_ext (λ k. at k (dec_lt k K))
    where
      at : (k : ℕ) → Dec (k < K) → f k ≡ h k
      at k (yes l) = s k l
      at k (no l) = b k (omega arith) ∙ sym (z k (omega arith))

  -- a bound by a computed test of the coefficients above it
  below_by_test : (D : ℕ) (f : ℕ → M) → Below o S f → T (all_below S (λ k. implies (ltb D k) (vanishes (f k)))) → Below o (suc D) f
  below_by_test D f b t k l = at (dec_lt k S)
    where
      at : Dec (k < S) → f k ≡ o.zero
      at (yes h) = same_is (f k) o.zero (implied (ltb D k) (vanishes (f k)) (all_below_at S (λ j. implies (ltb D j) (vanishes (f j))) t k h) (lt→ltb D k l))
      at (no h) = b k (omega arith)

  module _ (t : T frame_test) where
    sizes : T sizes_test
    sizes = both_left sizes_test (monic_test and divided_test and degree_test and first_test and check_test and places_test and off_test) t

    t₁ : T (monic_test and divided_test and degree_test and first_test and check_test and places_test and off_test)
    t₁ = both_right sizes_test (monic_test and divided_test and degree_test and first_test and check_test and places_test and off_test) t

    t₂ : T (divided_test and degree_test and first_test and check_test and places_test and off_test)
    t₂ = both_right monic_test (divided_test and degree_test and first_test and check_test and places_test and off_test) t₁

    t₃ : T (degree_test and first_test and check_test and places_test and off_test)
    t₃ = both_right divided_test (degree_test and first_test and check_test and places_test and off_test) t₂

    t₄ : T (first_test and check_test and places_test and off_test)
    t₄ = both_right degree_test (first_test and check_test and places_test and off_test) t₃

    t₅ : T (check_test and places_test and off_test)
    t₅ = both_right first_test (check_test and places_test and off_test) t₄

    t₆ : T (places_test and off_test)
    t₆ = both_right check_test (places_test and off_test) t₅

    S_positive : 0 < S
    S_positive = ltb→lt 0 S (both_left (ltb 0 S) (leb (size gs) S and row_fits o S rows and row_fits o S rs and all (row_fits o S) cs) sizes)

    s₁ : T (leb (size gs) S and row_fits o S rows and row_fits o S rs and all (row_fits o S) cs)
    s₁ = both_right (ltb 0 S) (leb (size gs) S and row_fits o S rows and row_fits o S rs and all (row_fits o S) cs) sizes

    s₂ : T (row_fits o S rows and row_fits o S rs and all (row_fits o S) cs)
    s₂ = both_right (leb (size gs) S) (row_fits o S rows and row_fits o S rs and all (row_fits o S) cs) s₁

    s₃ : T (row_fits o S rs and all (row_fits o S) cs)
    s₃ = both_right (row_fits o S rows) (row_fits o S rs and all (row_fits o S) cs) s₂

    g_below : Below o S g
    g_below = listed_below o gs S (both_left (leb (size gs) S) (row_fits o S rows and row_fits o S rs and all (row_fits o S) cs) s₁)

    a_below : (i : ℕ) → Below o S (a i)
    a_below = row_below o rows S (both_left (row_fits o S rows) (row_fits o S rs and all (row_fits o S) cs) s₂)

    r_below : (i : ℕ) → Below o S (r i)
    r_below = row_below o rs S (both_left (row_fits o S rs) (all (row_fits o S) cs) s₃)

    c_below : (j i : ℕ) → Below o S (c j i)
    c_below = columns_below o cs S (both_right (row_fits o S rs) (all (row_fits o S) cs) s₃)

    monic : Monic o g
    monic =
        let u = both_left monic_test (divided_test and degree_test and first_test and check_test and places_test and off_test) t₁ in
        record {
          degree = e;
          leading = same_is (g e) o.one (both_left (same (g e) o.one) (all_below S (λ k. implies (ltb e k) (vanishes (g k)))) u);
          below = below_by_test e g g_below (both_right (same (g e) o.one) (all_below S (λ k. implies (ltb e k) (vanishes (g k)))) u);
        }

    divided : DividedRow o n a g r
    divided = record {
      polynomials = λ i l. (S, r_below i);
      is = λ i l.
          equal_below (S plus S) ((series o).product g (r i)) (a i) (B.below_product o L S S (S plus S) g (r i) (omega arith) g_below (r_below i)) (B.below_mono o L S (S plus S) (a i) (omega arith) (a_below i))
          (λ k h. same_is ((series o).product g (r i) k) (a i k) (all_below_at (S plus S) (λ k. same ((series o).product g (r i) k) (a i k)) (all_below_at n (λ i. all_below (S plus S) (λ k. same ((series o).product g (r i) k) (a i k))) (both_left divided_test (degree_test and first_test and check_test and places_test and off_test) t₂) i l) k h));
    }

    abbrev bounded_test : Bool
    bounded_test = all_below n (λ i. all_below S (λ k. implies (ltb d k) (vanishes (r i k))))

    degree : VectorDegree o n r d
    degree =
        let u = both_left degree_test (first_test and check_test and places_test and off_test) t₃ in
        let w = both_right bounded_test (ltb q n and not (vanishes (r q d))) u in
        record {
          bounded = λ i l. below_by_test d (r i) (r_below i) (all_below_at n (λ i. all_below S (λ k. implies (ltb d k) (vanishes (r i k)))) (both_left bounded_test (ltb q n and not (vanishes (r q d))) u) i l);
          component = q;
          within = ltb→lt q n (both_left (ltb q n) (not (vanishes (r q d))) w);
          top = λ z. T_not (vanishes (r q d)) (both_right (ltb q n) (not (vanishes (r q d))) w) (subst (λ (x : M). T (same x o.zero)) (sym z) (eqb_refl (number o.zero)));
        }

    dot_small : (j : ℕ) → Below o (S plus S) (dot (series o) n r (c j))
    dot_small j = Syzygies.dot_below o F n (suc-le-suc zero-le) S S (S plus S) r (c j) (omega arith) (λ i l. r_below i) (λ i l. c_below j i)

    abbrev product_test : Bool
    product_test = all_below (S plus S) (λ k. same (dot (series o) n r (c 0) k) ((series o).one k))

    abbrev first_bound_test : Bool
    first_bound_test = all_below n (λ i. all_below S (λ k. implies (ltb d k) (vanishes (c 0 i k))))

    first_tests : T (product_test and first_bound_test)
    first_tests = both_left first_test (check_test and places_test and off_test) t₄

    first : dot (series o) n r (c 0) ≡ (series o).one
    first =
        equal_below (S plus S) (dot (series o) n r (c 0)) (series o).one (dot_small 0) (B.below_mono o L 1 (S plus S) (series o).one (let h = S_positive in omega arith) (B.below_constant o L o.one))
        (λ k h. same_is (dot (series o) n r (c 0) k) ((series o).one k) (all_below_at (S plus S) (λ k. same (dot (series o) n r (c 0) k) ((series o).one k)) (both_left product_test first_bound_test first_tests) k h))

    check : (j : ℕ) → j < m → dot (series o) n r (c (suc j)) ≡ (series o).zero
    check j l =
        equal_below (S plus S) (dot (series o) n r (c (suc j))) (series o).zero (dot_small (suc j)) (B.below_zero o L (S plus S))
        (λ k h. same_is (dot (series o) n r (c (suc j)) k) o.zero (all_below_at (S plus S) (λ k. vanishes (dot (series o) n r (c (suc j)) k)) (all_below_at m (λ j. all_below (S plus S) (λ k. vanishes (dot (series o) n r (c (suc j)) k))) (both_left check_test (places_test and off_test) t₅) j l) k h))

    abbrev below_test : Bool
    below_test = all_below m (λ j. all_below n (λ i. all_below S (λ k. implies (ltb (p j) (n * k plus i)) (vanishes (c (suc j) i k)))))

    abbrev leading_test : Bool
    leading_test = all_below m (λ j. same (c (suc j) (p j % n) (p j / n)) o.one)

    abbrev rising_test : Bool
    rising_test = all_below m (λ i. all_below m (λ j. implies (ltb i j) (ltb (p i) (p j))))

    abbrev distinct_test : Bool
    distinct_test = all_below m (λ i. all_below m (λ j. implies (eqb (p i % n) (p j % n)) (eqb i j)))

    abbrev sum_test : Bool
    sum_test = eqb (sum_below m (λ j. p j / n)) d

    p₀ : T (below_test and leading_test and rising_test and distinct_test and sum_test)
    p₀ = both_left places_test off_test t₆

    p₁ : T (leading_test and rising_test and distinct_test and sum_test)
    p₁ = both_right below_test (leading_test and rising_test and distinct_test and sum_test) p₀

    p₂ : T (rising_test and distinct_test and sum_test)
    p₂ = both_right leading_test (rising_test and distinct_test and sum_test) p₁

    p₃ : T (distinct_test and sum_test)
    p₃ = both_right rising_test (distinct_test and sum_test) p₂

    below : (j : ℕ) → j < m → Places.BelowPlace o n (suc (p j)) (c (suc j))
    below j l i k h s = at (dec_lt k S)
      where
        at : Dec (k < S) → c (suc j) i k ≡ o.zero
        at (yes b) =
            same_is (c (suc j) i k) o.zero (implied (ltb (p j) (n * k plus i)) (vanishes (c (suc j) i k))
            (all_below_at S (λ k. implies (ltb (p j) (n * k plus i)) (vanishes (c (suc j) i k))) (all_below_at n (λ i. all_below S (λ k. implies (ltb (p j) (n * k plus i)) (vanishes (c (suc j) i k)))) (all_below_at m (λ j. all_below n (λ i. all_below S (λ k. implies (ltb (p j) (n * k plus i)) (vanishes (c (suc j) i k))))) (both_left below_test (leading_test and rising_test and distinct_test and sum_test) p₀) j l) i h) k b)
            (lt→ltb (p j) (n * k plus i) s))
        at (no b) = c_below (suc j) i k (omega arith)

    -- place n k + i is reached from p l by multiples of n
    reached : (l e i k : ℕ) → i < n → n * k plus i ≡ p l plus n * e → T (eqb i (p l % n) and leb (p l) (n * k plus i))
    reached l e i k h s =
        let class : i ≡ p l % n = sym (Places.place_mod n k i h) ∙ ap (λ z. z % n) s ∙ add-mul-mod_self_left (p l) n e in
        both (eqb i (p l % n)) (leb (p l) (n * k plus i)) (subst (λ (z : ℕ). T (eqb i z)) class (eqb_refl i)) (le→leb (p l) (n * k plus i) (omega arith))

    abbrev first_off_test : Bool
    first_off_test = all_below m (λ l. all_below n (λ i. all_below (suc d) (λ k. implies (eqb i (p l % n) and leb (p l) (n * k plus i)) (vanishes (c 0 i k)))))

    abbrev check_off_at : ℕ → ℕ → ℕ → ℕ → Bool
    check_off_at j l i k = implies ((eqb i (p l % n) and leb (p l) (n * k plus i)) and not (eqb (n * k plus i) (p j))) (vanishes (c (suc j) i k))

    off_tests : T (first_off_test and all_below m (λ j. all_below m (λ l. all_below n (λ i. all_below (suc d) (check_off_at j l i)))))
    off_tests = both_right places_test off_test t₆

    certificate : FrameCertificate o m a g d c r p
    certificate = record {
      monic = monic;
      divided = divided;
      degree = degree;
      first = first;
      first_bounded = λ i l. below_by_test d (c 0 i) (c_below 0 i) (all_below_at n (λ i. all_below S (λ k. implies (ltb d k) (vanishes (c 0 i k)))) (both_right product_test first_bound_test first_tests) i l);
      check = check;
      below = below;
      leading = λ j l. same_is (c (suc j) (p j % n) (p j / n)) o.one (all_below_at m (λ j. same (c (suc j) (p j % n) (p j / n)) o.one) (both_left leading_test (rising_test and distinct_test and sum_test) p₁) j l);
      rising = λ i j h l. ltb→lt (p i) (p j) (implied (ltb i j) (ltb (p i) (p j)) (all_below_at m (λ j. implies (ltb i j) (ltb (p i) (p j))) (all_below_at m (λ i. all_below m (λ j. implies (ltb i j) (ltb (p i) (p j)))) (both_left rising_test (distinct_test and sum_test) p₂) i (omega arith)) j l) (lt→ltb i j h));
      distinct = λ i j h l s. eqb→eq i j (implied (eqb (p i % n) (p j % n)) (eqb i j) (all_below_at m (λ j. implies (eqb (p i % n) (p j % n)) (eqb i j)) (all_below_at m (λ i. all_below m (λ j. implies (eqb (p i % n) (p j % n)) (eqb i j))) (both_left distinct_test sum_test p₃) i h) j l) (subst (λ (z : ℕ). T (eqb (p i % n) z)) s (eqb_refl (p i % n))));
      powers_sum = eqb→eq (sum_below m (λ j. p j / n)) d (both_right distinct_test sum_test p₃);
      first_off = λ l e i k b h f s. same_is (c 0 i k) o.zero (implied (eqb i (p l % n) and leb (p l) (n * k plus i)) (vanishes (c 0 i k)) (all_below_at (suc d) (λ k. implies (eqb i (p l % n) and leb (p l) (n * k plus i)) (vanishes (c 0 i k))) (all_below_at n (λ i. all_below (suc d) (λ k. implies (eqb i (p l % n) and leb (p l) (n * k plus i)) (vanishes (c 0 i k)))) (all_below_at m (λ l. all_below n (λ i. all_below (suc d) (λ k. implies (eqb i (p l % n) and leb (p l) (n * k plus i)) (vanishes (c 0 i k))))) (both_left first_off_test (all_below m (λ j. all_below m (λ l. all_below n (λ i. all_below (suc d) (check_off_at j l i))))) off_tests) l b) i h) k f) (reached l e i k h s));
      check_off = λ j l e i k y b h f s ne.
          same_is (c (suc j) i k) o.zero (implied ((eqb i (p l % n) and leb (p l) (n * k plus i)) and not (eqb (n * k plus i) (p j))) (vanishes (c (suc j) i k))
          (all_below_at (suc d) (check_off_at j l i) (all_below_at n (λ i. all_below (suc d) (check_off_at j l i)) (all_below_at m (λ l. all_below n (λ i. all_below (suc d) (check_off_at j l i))) (all_below_at m (λ j. all_below m (λ l. all_below n (λ i. all_below (suc d) (check_off_at j l i)))) (both_right first_off_test (all_below m (λ j. all_below m (λ l. all_below n (λ i. all_below (suc d) (check_off_at j l i))))) off_tests) j y) l b) i h) k f)
          (both (eqb i (p l % n) and leb (p l) (n * k plus i)) (not (eqb (n * k plus i) (p j))) (reached l e i k h s) (not_T (eqb (n * k plus i) (p j)) (λ z. ne (eqb→eq (n * k plus i) (p j) z)))));
    }

    pub frame_by_test : IsFrame o m a g d c
    frame_by_test = Certificates.frame_of_certificate o F m a g d c r p certificate

-- what a test of a design needs besides: the degree of the divisor, the divided row, a component of its highest degree, the leading places of
-- the check columns, and a bound on the number of coefficients
pub record Hint : Type 0 where
  pub divisor_degree : ℕ
  pub row : List (List ℕ)
  pub component : ℕ
  pub places : List ℕ
  pub bound : ℕ

-- the list's entries, and 0 behind them
abbrev pub nth : List ℕ → ℕ → ℕ
nth [] j = 0
nth (x ∷ xs) zero = x
nth (x ∷ xs) (suc j) = nth xs j

module _ {M : Type 0} {o : RingOps M} {order : ℕ} {number : M → ℕ} (N : Numbering o order number) (F : IsField o) (member : ℕ → M) where
  abbrev pub design_test : Design → Hint → Bool
  design_test w h = frame_test N F w.m (each (each member) w.generators) (each member w.divisor) h.divisor_degree (each (each member) h.row) w.degree h.component (each (each (each member)) w.columns) (nth h.places) h.bound

  -- each design passes the test with its hint
  abbrev pub Tests : List Design → List Hint → Type 0
  Tests [] hs = Unit {0}
  Tests (w ∷ ws) [] = ⊥
  Tests (w ∷ ws) (h ∷ hs) = T (design_test w h) × Tests ws hs

  pub frames_by_tests : (ws : List Design) (hs : List Hint) → Tests ws hs → AllFrames o member ws
  frames_by_tests [] hs t = tt
  frames_by_tests (w ∷ ws) [] t = absurd t
  frames_by_tests (w ∷ ws) (h ∷ hs) t = (
    frame_by_test N F w.m (each (each member) w.generators) (each member w.divisor) h.divisor_degree (each (each member) h.row) w.degree h.component (each (each (each member)) w.columns) (nth h.places) h.bound t.0,
    frames_by_tests ws hs t.1,
  )

  -- a listed block of n streams is what a listed message of K symbols encodes to, all of fewer than S coefficients
  abbrev pub encodes_test : (n : ℕ) → List (List M) → ℕ → List M → List M → ℕ → Bool
  encodes_test n rows K message block S =
      ltb 0 n and leb (size message) K and leb K S and row_fits o S rows and leb (size block) S
      and all_below n (λ i. all_below (S plus S) (λ k. eqb (number (listed_block o n block i k)) (number ((series o).product (listed o message) (listed_row o rows i) k))))

  pub encodes_by_test : (n : ℕ) (rows : List (List M)) (K : ℕ) (message block : List M) (S : ℕ)
      → T (encodes_test n rows K message block S)
      → Encodes o n (listed_row o rows) K (listed o message) (listed_block o n block)
  encodes_by_test n rows K message block S t = record { length = listed_below o message K message_fits; is = streams }
    where
      L : RingLaws o
      L = F.laws.ring

      row_test : Bool
      row_test = row_fits o S rows

      block_test : Bool
      block_test = leb (size block) S

      coefficient_test : Bool
      coefficient_test = all_below n (λ i. all_below (S plus S) (λ k. eqb (number (listed_block o n block i k)) (number ((series o).product (listed o message) (listed_row o rows i) k))))

      t₁ : T (leb (size message) K and leb K S and row_test and block_test and coefficient_test)
      t₁ = both_right (ltb 0 n) (leb (size message) K and leb K S and row_test and block_test and coefficient_test) t

      t₂ : T (leb K S and row_test and block_test and coefficient_test)
      t₂ = both_right (leb (size message) K) (leb K S and row_test and block_test and coefficient_test) t₁

      t₃ : T (row_test and block_test and coefficient_test)
      t₃ = both_right (leb K S) (row_test and block_test and coefficient_test) t₂

      t₄ : T (block_test and coefficient_test)
      t₄ = both_right row_test (block_test and coefficient_test) t₃

      positive : 0 < n
      positive = ltb→lt 0 n (both_left (ltb 0 n) (leb (size message) K and leb K S and row_test and block_test and coefficient_test) t)

      message_fits : T (leb (size message) K)
      message_fits = both_left (leb (size message) K) (leb K S and row_test and block_test and coefficient_test) t₁

      message_below : Below o S (listed o message)
      message_below = B.below_mono o L K S (listed o message) (leb→le K S (both_left (leb K S) (row_test and block_test and coefficient_test) t₂)) (listed_below o message K message_fits)

      block_below : (i : ℕ) → Below o (S plus S) (listed_block o n block i)
      block_below i k l = listed_below o block S (both_left block_test coefficient_test t₄) (n * k plus i) (let h = Places.le_times n k positive in omega arith)

      streams : (i : ℕ) → i < n → listed_block o n block i ≡ (series o).product (listed o message) (listed_row o rows i)
      streams i l = fun_ext (λ k. at k (dec_lt k (S plus S)))
        where
          product_below : Below o (S plus S) ((series o).product (listed o message) (listed_row o rows i))
          product_below = B.below_product o L S S (S plus S) (listed o message) (listed_row o rows i) (omega arith) message_below (row_below o rows S (both_left row_test (block_test and coefficient_test) t₃) i)

          at : (k : ℕ) → Dec (k < S plus S) → listed_block o n block i k ≡ (series o).product (listed o message) (listed_row o rows i) k
          at k (yes h) =
              N.apart (listed_block o n block i k) ((series o).product (listed o message) (listed_row o rows i) k)
              (eqb→eq (number (listed_block o n block i k)) (number ((series o).product (listed o message) (listed_row o rows i) k))
              (all_below_at (S plus S) (λ k. eqb (number (listed_block o n block i k)) (number ((series o).product (listed o message) (listed_row o rows i) k))) (all_below_at n (λ i. all_below (S plus S) (λ k. eqb (number (listed_block o n block i k)) (number ((series o).product (listed o message) (listed_row o rows i) k)))) (both_right block_test coefficient_test t₄) i l) k h))
          at k (no h) = block_below i k (omega arith) ∙ sym (product_below k (omega arith))

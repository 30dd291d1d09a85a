-- Sums of numbers, and the places below a bound that have a decidable property, in rising order. Main results: enumerate, sum_grid (a sum
-- over places is a sum over components and powers), sum_threshold and sum_single.
use mathlib.Core.Path.{◌≡◌, refl, sym, ap, ap₂, ◌∙◌}
use Prim.Native.Nat.{ℕ, zero, suc, ◌≤◌, ◌<◌, ◌+◌, ◌*◌, zero-le, suc-le-suc}
use native.Mathlib.Nat.{le_of_suc-le-suc, not-suc-le-zero, add-zero, zero-add, suc-add, add_assoc, add_comm, mul-zero, mul-suc, zero-mul, suc-mul}
use native.Mathlib.Omega.{arith}
use Rattle.algebra.specs.Series.{sum_below}
use Rattle.algebra.proofs.Rows.{skip}

-- x where a property holds, and 0 elsewhere
abbrev pub keep : {A : Type 0} → Dec A → ℕ → ℕ
keep (yes a) x = x
keep (no n) x = 0

pub keep_yes : {A : Type 0} (d : Dec A) (x : ℕ) → A → keep d x ≡ x
keep_yes (yes a) x h = refl
keep_yes (no n) x h = absurd (n h)

pub keep_no : {A : Type 0} (d : Dec A) (x : ℕ) → (A → ⊥) → keep d x ≡ 0
keep_no (yes a) x h = absurd (h a)
keep_no (no n) x h = refl

pub sum_ext : (n : ℕ) (f g : ℕ → ℕ) → ((k : ℕ) → k < n → f k ≡ g k) → sum_below n f ≡ sum_below n g
sum_ext zero f g e = refl
sum_ext (suc n) f g e = ap₂ ◌+◌ (e 0 (suc-le-suc zero-le)) (sum_ext n (λ k. f (suc k)) (λ k. g (suc k)) (λ k l. e (suc k) (suc-le-suc l)))

pub sum_constant : (n c : ℕ) → sum_below n (λ k. c) ≡ n * c
sum_constant zero c = sym (zero-mul c)
sum_constant (suc n) c = let h = sum_constant n c in let e = suc-mul n c in omega arith

pub sum_sum : (n : ℕ) (f g : ℕ → ℕ) → sum_below n (λ k. f k + g k) ≡ sum_below n f + sum_below n g
sum_sum zero f g = refl
sum_sum (suc n) f g = let h = sum_sum n (λ k. f (suc k)) (λ k. g (suc k)) in omega arith

pub sum_swap : (n m : ℕ) (f : ℕ → ℕ → ℕ) → sum_below n (λ i. sum_below m (λ j. f i j)) ≡ sum_below m (λ j. sum_below n (λ i. f i j))
sum_swap zero m f = sym (sum_constant m 0 ∙ mul-zero m)
sum_swap (suc n) m f = ap (λ t. sum_below m (λ j. f 0 j) + t) (sum_swap n m (λ i. f (suc i))) ∙ sym (sum_sum m (λ j. f 0 j) (λ j. sum_below n (λ i. f (suc i) j)))

pub sum_split : (n m : ℕ) (f : ℕ → ℕ) → sum_below (n + m) f ≡ sum_below n f + sum_below m (λ k. f (n + k))
sum_split zero m f = ap (λ t. sum_below t f) (zero-add m) ∙ sum_ext m f (λ k. f (0 + k)) (λ k l. ap f (sym (zero-add k))) ∙ sym (zero-add (sum_below m (λ k. f (0 + k))))
sum_split (suc n) m f =
    ap (λ t. sum_below t f) (suc-add n m)
    ∙ ap (λ t. f 0 + t) (sum_split n m (λ k. f (suc k)))
    ∙ sym (add_assoc (f 0) (sum_below n (λ k. f (suc k))) (sum_below m (λ k. f (suc (n + k)))))
    ∙ ap (λ t. (f 0 + sum_below n (λ k. f (suc k))) + t) (sum_ext m (λ k. f (suc (n + k))) (λ k. f (suc n + k)) (λ k l. ap f (sym (suc-add n k))))

sum_last : (n : ℕ) (f : ℕ → ℕ) → sum_below (suc n) f ≡ sum_below n f + f n
sum_last zero f = add_comm (f 0) 0
sum_last (suc n) f = ap (λ t. f 0 + t) (sum_last n (λ k. f (suc k))) ∙ sym (add_assoc (f 0) (sum_below n (λ k. f (suc k))) (f (suc n)))

-- a sum over places, by components and powers
pub sum_grid : (n K : ℕ) (f : ℕ → ℕ) → sum_below (n * K) f ≡ sum_below n (λ i. sum_below K (λ k. f (n * k + i)))
sum_grid n K f = by_powers K ∙ sum_swap K n (λ k i. f (n * k + i))
  where
    by_powers : (K : ℕ) → sum_below (n * K) f ≡ sum_below K (λ k. sum_below n (λ i. f (n * k + i)))
    by_powers zero = ap (λ t. sum_below t f) (mul-zero n)
    by_powers (suc K) = ap (λ t. sum_below t f) (mul-suc n K) ∙ sum_split (n * K) n f ∙ ap (λ t. t + sum_below n (λ i. f (n * K + i))) (by_powers K) ∙ sym (sum_last K (λ k. sum_below n (λ i. f (n * k + i))))

-- one term taken out
pub sum_skip : (n p : ℕ) (f : ℕ → ℕ) → p < suc n → sum_below (suc n) f ≡ f p + sum_below n (λ j. f (skip p j))
sum_skip n zero f h = refl
sum_skip zero (suc p) f h = absurd (not-suc-le-zero (le_of_suc-le-suc h))
sum_skip (suc n) (suc p) f h = let e = sum_skip n p (λ k. f (suc k)) (le_of_suc-le-suc h) in omega arith

-- a property that holds just below t is counted t times
pub sum_threshold : (K t : ℕ) (Q : ℕ → Type 0) (dec : (k : ℕ) → Dec (Q k)) → t ≤ K → ((k : ℕ) → k < t → Q k)
    → ((k : ℕ) → t ≤ k → k < K → Q k → ⊥) → sum_below K (λ k. keep (dec k) 1) ≡ t
sum_threshold zero zero Q dec h a b = refl
sum_threshold zero (suc t) Q dec h a b = absurd (not-suc-le-zero h)
sum_threshold (suc K) zero Q dec h a b = ap₂ ◌+◌ (keep_no (dec 0) 1 (b 0 zero-le (suc-le-suc zero-le))) (sum_threshold K zero (λ k. Q (suc k)) (λ k. dec (suc k)) zero-le (λ k l. absurd (not-suc-le-zero l)) (λ k l c. b (suc k) zero-le (suc-le-suc c)))
sum_threshold (suc K) (suc t) Q dec h a b = ap₂ ◌+◌ (keep_yes (dec 0) 1 (a 0 (suc-le-suc zero-le))) (sum_threshold K t (λ k. Q (suc k)) (λ k. dec (suc k)) (le_of_suc-le-suc h) (λ k l. a (suc k) (suc-le-suc l)) (λ k l c. b (suc k) (suc-le-suc l) (suc-le-suc c))) ∙ omega arith

pub sum_none : (K : ℕ) (f : ℕ → ℕ) → ((k : ℕ) → k < K → f k ≡ 0) → sum_below K f ≡ 0
sum_none K f e = sum_ext K f (λ k. 0) e ∙ sum_constant K 0 ∙ mul-zero K

-- one nonzero term
pub sum_single : (K t : ℕ) (f : ℕ → ℕ) → t < K → ((k : ℕ) → k < K → (k ≡ t → ⊥) → f k ≡ 0) → sum_below K f ≡ f t
sum_single zero t f h e = absurd (not-suc-le-zero h)
sum_single (suc K) zero f h e = ap (λ s. f 0 + s) (sum_none K (λ k. f (suc k)) (λ k l. e (suc k) (suc-le-suc l) (λ z. omega arith))) ∙ add-zero (f 0)
sum_single (suc K) (suc t) f h e = ap₂ ◌+◌ (e 0 (suc-le-suc zero-le) (λ z. omega arith)) (sum_single K t (λ k. f (suc k)) (le_of_suc-le-suc h) (λ k l n. e (suc k) (suc-le-suc l) (λ z. n (omega arith)))) ∙ zero-add (f (suc t))

pub sum_le : (n : ℕ) (f g : ℕ → ℕ) → ((k : ℕ) → k < n → f k ≤ g k) → sum_below n f ≤ sum_below n g
sum_le zero f g h = zero-le
sum_le (suc n) f g h = let a = h 0 (suc-le-suc zero-le) in let b = sum_le n (λ k. f (suc k)) (λ k. g (suc k)) (λ k l. h (suc k) (suc-le-suc l)) in omega arith

-- a term is at most the sum
pub sum_member : (n : ℕ) (f : ℕ → ℕ) (k : ℕ) → k < n → f k ≤ sum_below n f
sum_member zero f k l = absurd (not-suc-le-zero l)
sum_member (suc n) f zero l = omega arith
sum_member (suc n) f (suc k) l = let h = sum_member n (λ j. f (suc j)) k (le_of_suc-le-suc l) in omega arith

-- terms no greater, with the same sum, are the same
pub sum_le_same : (n : ℕ) (f g : ℕ → ℕ) → ((k : ℕ) → k < n → f k ≤ g k) → sum_below n f ≡ sum_below n g → (k : ℕ) → k < n → f k ≡ g k
sum_le_same zero f g h e k l = absurd (not-suc-le-zero l)
sum_le_same (suc n) f g h e zero l = let a = h 0 (suc-le-suc zero-le) in let b = sum_le n (λ k. f (suc k)) (λ k. g (suc k)) (λ k c. h (suc k) (suc-le-suc c)) in omega arith
sum_le_same (suc n) f g h e (suc k) l =
    let a = h 0 (suc-le-suc zero-le) in
    let b = sum_le n (λ j. f (suc j)) (λ j. g (suc j)) (λ j c. h (suc j) (suc-le-suc c)) in
    sum_le_same n (λ j. f (suc j)) (λ j. g (suc j)) (λ j c. h (suc j) (suc-le-suc c)) (omega arith) k (le_of_suc-le-suc l)

-- the numbers below N with a property, in rising order
pub record Enumerated (N : ℕ) (Q : ℕ → Type 0) (dec : (q : ℕ) → Dec (Q q)) : Type 0 where
  pub count : ℕ
  pub place : ℕ → ℕ
  pub within : (j : ℕ) → j < count → place j < N
  pub holds : (j : ℕ) → j < count → Q (place j)
  pub rising : (i j : ℕ) → i < j → j < count → place i < place j
  pub every : (q : ℕ) → q < N → Q q → (j : ℕ) × (j < count) × (place j ≡ q)
  pub sums : (f : ℕ → ℕ) → sum_below count (λ j. f (place j)) ≡ sum_below N (λ q. keep (dec q) (f q))

pub enumerate : (N : ℕ) (Q : ℕ → Type 0) (dec : (q : ℕ) → Dec (Q q)) → Enumerated N Q dec
enumerate zero Q dec = record { count = 0; place = λ j. j; within = λ j l. absurd (not-suc-le-zero l); holds = λ j l. absurd (not-suc-le-zero l); rising = λ i j h l. absurd (not-suc-le-zero l); every = λ q l. absurd (not-suc-le-zero l); sums = λ f. refl }
enumerate (suc N) Q dec = go (dec 0) refl (enumerate N (λ q. Q (suc q)) (λ q. dec (suc q)))
  where
    go : (d : Dec (Q 0)) → dec 0 ≡ d → Enumerated N (λ q. Q (suc q)) (λ q. dec (suc q)) → Enumerated (suc N) Q dec
    go (no n) e r = record {
      count = r.count;
      place = λ j. suc (r.place j);
      within = λ j l. suc-le-suc (r.within j l);
      holds = r.holds;
      rising = λ i j h l. suc-le-suc (r.rising i j h l);
      every = every;
      sums = λ f. r.sums (λ q. f (suc q)) ∙ sym (ap (λ t. keep t (f 0) + rest f) e ∙ zero-add (rest f));
    }
      where
        rest : (ℕ → ℕ) → ℕ
        rest f = sum_below N (λ q. keep (dec (suc q)) (f (suc q)))

        every : (q : ℕ) → q < suc N → Q q → (j : ℕ) × (j < r.count) × (suc (r.place j) ≡ q)
        every zero l h = absurd (n h)
        every (suc q) l h = let x = r.every q (le_of_suc-le-suc l) h in (x.0, x.1, ap suc x.2)
    go (yes a) e r = record { count = suc r.count; place = place; within = within; holds = holds; rising = rising; every = every; sums = λ f. ap₂ ◌+◌ (sym (ap (λ t. keep t (f 0)) e)) (r.sums (λ q. f (suc q))) }
      where
        place : ℕ → ℕ
        place zero = 0
        place (suc j) = suc (r.place j)

        within : (j : ℕ) → j < suc r.count → place j < suc N
        within zero l = suc-le-suc zero-le
        within (suc j) l = suc-le-suc (r.within j (le_of_suc-le-suc l))

        holds : (j : ℕ) → j < suc r.count → Q (place j)
        holds zero l = a
        holds (suc j) l = r.holds j (le_of_suc-le-suc l)

        rising : (i j : ℕ) → i < j → j < suc r.count → place i < place j
        rising i zero h l = absurd (not-suc-le-zero h)
        rising zero (suc j) h l = suc-le-suc zero-le
        rising (suc i) (suc j) h l = suc-le-suc (r.rising i j (le_of_suc-le-suc h) (le_of_suc-le-suc l))

        every : (q : ℕ) → q < suc N → Q q → (j : ℕ) × (j < suc r.count) × (place j ≡ q)
        every zero l h = (0, suc-le-suc zero-le, refl)
        every (suc q) l h = let x = r.every q (le_of_suc-le-suc l) h in (suc x.0, suc-le-suc x.1, ap suc x.2)

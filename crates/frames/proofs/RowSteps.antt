-- The row, one generator at a time, and where it stands in the work table. Main results: gcd_of_more, monic_like, divide_step,
-- highest_step, divided_by_gcd.
use Rattle.std.proofs.Common.{◌≡◌, ℕ, suc, ◌+◌, ◌-◌, ◌*◌, ◌<◌, ◌≤◌, max, List, ◌++◌, length, length-append, length-drop, length-take-le, take, drop, Some, None, Option, sym, refl, ap, ap₂, ◌∙◌, subst, inl, inr, not-suc-le-zero, arith, below_more}
use native.Mathlib.Decide.{dec_lt}
use native.Mathlib.Nat.{le-max_right}
use mathlib.Core.Path.{fun_ext}
use Rattle.std.specs.List.{between}
use Rattle.std.specs.Option.{unwrap_or}
use Rattle.algebra.specs.Rings.{RingOps, RingLaws, FieldLaws, IsField}
use Rattle.algebra.specs.Series.{series, scale, Below, Degree}
use Rattle.algebra.specs.Divisors.{Divides, MonicGcd, AllZero, VectorDegree}
use Rattle.algebra.proofs.Bounds as B
use Rattle.algebra.proofs.Series as S
use Rattle.algebra.proofs.Sums as Sums
use Rattle.tables.specs.Places.{at, Kept, Cleared, poly_at}
use Rattle.polynomials.specs.Polynomials.{DegreeOf}
use Rattle.tables.proofs.Parts as P
use Rattle.tables.proofs.Slices.{part_is, at_drop, at_take, at_left, at_right, at_below, cleared_append, cleared_take, cleared_drop}
use Rattle.std.proofs.lemmas.List.{take_at, drop_at, drop-drop}
use Rattle.frames.specs.Common.{GcdOfPair, GcdOfFirst, MonicLike}
use Rattle.frames.specs.Rows.{row_in, generator_in, gcd_in, quotient_in, ZeroOutside, Highest, DividedByGcd}
use Rattle.frames.proofs.Common as C

module _ {R : Type 0} (o : RingOps R) (L : RingLaws o) where
  abbrev SL : RingLaws (series o)
  SL = S.series_laws o L

  divides_zero : (h : ℕ → R) → Divides o h (series o).zero
  divides_zero h = record { quotient = (series o).zero; polynomial = B.polynomial_zero o L; is = Sums.product_zero (series o) SL h }

  divides_self : (h : ℕ → R) → Divides o h h
  divides_self h = record { quotient = (series o).one; polynomial = B.polynomial_constant o L o.one; is = SL.product_one h }

  -- what zero divides is zero
  zero_divides : (f g : ℕ → R) → f ≡ (series o).zero → Divides o f g → g ≡ (series o).zero
  zero_divides f g z d = sym d.is ∙ ap (λ t. (series o).product t d.quotient) z ∙ Sums.zero_product (series o) SL d.quotient

  pub gcd_of_none : (a : ℕ → ℕ → R) (f : ℕ → R) → f ≡ (series o).zero → GcdOfFirst o 0 a f
  gcd_of_none a f z h = (λ d i l. absurd (not-suc-le-zero l), λ all. subst (Divides o h) (sym z) (divides_zero h))

  pub gcd_of_more : (i : ℕ) (a : ℕ → ℕ → R) (f g d : ℕ → R) → GcdOfFirst o i a f → GcdOfPair o f g d → g ≡ a i → GcdOfFirst o (i + 1) a d
  gcd_of_more i a f g d first pair is h = (
    λ p. below_more (λ j. Divides o h (a j)) i ((first h).0 ((pair h).0 p).0) (subst (Divides o h) is ((pair h).0 p).1),
    λ all. (pair h).1 ((first h).1 (λ j l. all j (omega arith)), subst (Divides o h) (sym is) (all i (omega arith))),
  )

  -- a zero divisor has a zero row, and the other way round
  pub row_of_zero : (n : ℕ) (a : ℕ → ℕ → R) (f : ℕ → R) → GcdOfFirst o n a f → f ≡ (series o).zero → AllZero o n a
  row_of_zero n a f gcd z i l = zero_divides f (a i) z ((gcd f).0 (divides_self f) i l)

  zero_of_row : (n : ℕ) (a : ℕ → ℕ → R) (f : ℕ → R) → GcdOfFirst o n a f → AllZero o n a → f ≡ (series o).zero
  zero_of_row n a f gcd z = zero_divides (series o).zero f refl ((gcd (series o).zero).1 (λ i l. subst (Divides o (series o).zero) (sym (z i l)) (divides_zero (series o).zero)))

  pub monic_divides : (n e : ℕ) (a : ℕ → ℕ → R) (f g : ℕ → R) → GcdOfFirst o n a f → MonicLike o f g e → (i : ℕ) → i < n → Divides o g (a i)
  monic_divides n e a f g gcd like = (gcd g).0 ((like.divisors g).0 (divides_self g))

  -- the highest degree so far
  pub highest_none : (h : ℕ → ℕ → R) → Highest o 0 h 0
  highest_none h = inl (λ i l. absurd (not-suc-le-zero l), refl)

  pub highest_step : (i d r width : ℕ) (h : ℕ → ℕ → R) (found : Option ℕ) → Highest o i h d → DegreeOf o width (h i) found → r ≡ max d (unwrap_or found 0) → Highest o (i + 1) h r
  highest_step i d r width h None (inl (z, e)) degree r_is = inl (below_more (λ j. h j ≡ (series o).zero) i z degree, omega arith)
  highest_step i d r width h None (inr v) degree r_is =
      let s : r ≡ d = omega arith in
      inr (subst (VectorDegree o (i + 1) h) (sym s)
      (record {
        bounded = below_more (λ j. Below o (suc d) (h j)) i v.bounded (λ k l. ap (λ (t : ℕ → R). t k) degree);
        component = v.component;
        within = let w = v.within in omega arith;
        top = v.top;
      }))
  highest_step i d r width h (Some k) (inl (z, e)) degree r_is =
      let m = le-max_right d k in
      let s : r ≡ k = r_is ∙ ap (λ t. max t k) e ∙ max_zero k in
      inr (subst (VectorDegree o (i + 1) h) (sym s)
      (record {
        bounded = below_more (λ j. Below o (suc k) (h j)) i (λ j l n b. ap (λ (t : ℕ → R). t n) (z j l)) degree.1.below;
        component = i;
        within = omega arith;
        top = degree.1.top;
      }))
    where
      max_zero : (k : ℕ) → max 0 k ≡ k
      max_zero k = omega arith
  highest_step i d r width h (Some k) (inr v) degree r_is = go (dec_lt d k)
    where
      go : Dec (d < k) → Highest o (i + 1) h r
      go (yes l) =
          let s : r ≡ k = omega arith in
          inr (subst (VectorDegree o (i + 1) h) (sym s)
          (record {
            bounded = below_more (λ j. Below o (suc k) (h j)) i (λ j b. B.below_mono o L (suc d) (suc k) (h j) (omega arith) (v.bounded j b)) degree.1.below;
            component = i;
            within = omega arith;
            top = degree.1.top;
          }))
      go (no l) =
          let s : r ≡ d = omega arith in
          inr (subst (VectorDegree o (i + 1) h) (sym s)
          (record {
            bounded = below_more (λ j. Below o (suc d) (h j)) i v.bounded (B.below_mono o L (suc k) (suc d) (h i) (omega arith) degree.1.below);
            component = v.component;
            within = let w = v.within in omega arith;
            top = v.top;
          }))

-- a divisor made monic
pub monic_like : {R : Type 0} (o : RingOps R) → IsField o → (e : ℕ) (x : R) (f g : ℕ → R) → e < 17 → Degree o f e → o.product (f e) x ≡ o.one → g ≡ scale o x f → MonicLike o f g e
monic_like {R} o field e x f g h degree unit is =
    let L = field.laws.ring in
    subst (λ (g : ℕ → R). MonicLike o f g e) (sym is)
    (record {
      within = h;
      leading = L.product_comm x (f e) ∙ unit;
      below = B.below_scale o L (suc e) x f degree.below;
      divisors = λ d. C.unit_divisors o field f d x (f e) unit;
    })

pub monic_degree : {R : Type 0} (o : RingOps R) → FieldLaws o → (f g : ℕ → R) (e : ℕ) → MonicLike o f g e → Degree o g e
monic_degree o laws f g e like = record { top = λ z. laws.zero_not_one (sym z ∙ like.leading); below = like.below }

module _ {F R : Type 0} (o : RingOps R) (L : RingLaws o) (member : F → R) where
  pub zero_part : (xs : List F) (base width : ℕ) → ((k : ℕ) → k < width → at o member xs (base + k) ≡ o.zero) → poly_at o member xs base width ≡ (series o).zero
  zero_part xs base width z = P.poly_at_is o member xs base width (series o).zero (λ k h. refl) z

  -- after i of the n rows that `xs[..17 * n].chunks_exact(17)` gives, rest is left: the next one
  pub chunk_next : (xs rest part next : List F) (n i : ℕ) → 17 * n ≤ length xs → rest ≡ drop (17 * i) (take (17 * n) xs) → rest ≡ part ++ next → length part ≡ 17
      → (i < n) × (next ≡ drop (17 * (i + 1)) (take (17 * n) xs)) × (at o member part ≡ poly_at o member xs (17 * i) 17)
  chunk_next xs rest part next n i room rest_is split size =
      let all = take (17 * n) xs in
      let all_long : length all ≡ 17 * n = length-take-le (17 * n) xs room in
      let rest_long : length rest ≡ length all - 17 * i = ap length rest_is ∙ length-drop (17 * i) all in
      let both : length rest ≡ length part + length next = ap length split ∙ length-append part next in
      let few : i < n = omega arith in
      let then_is : part ++ next ≡ drop (17 * i) all = sym split ∙ rest_is in (
        few,
        sym (drop_at part next 17 size) ∙ ap (drop 17) then_is ∙ drop-drop 17 (17 * i) all ∙ ap (λ k. drop k all) (let e : 17 * i + 17 ≡ 17 * (i + 1) = omega arith in e),
        ap (at o member) (sym (take_at part next 17 size) ∙ ap (take 17) then_is)
            ∙ part_is o member all (17 * i) 17
            ∙ P.poly_at_is o member all (17 * i) 17 (poly_at o member xs (17 * i) 17) (P.poly_at_below o member xs (17 * i) 17)
            (λ k h. at_take o member (17 * n) xs (17 * i + k) (omega arith) ∙ sym (P.poly_at_in o member xs (17 * i) 17 k h)),
      )

  -- there is no next one after the last
  pub chunk_last : (xs rest : List F) (n i : ℕ) → 17 * n ≤ length xs → rest ≡ drop (17 * i) (take (17 * n) xs) → length rest < 17 → i ≤ n → i ≡ n
  chunk_last xs rest n i room rest_is short few =
      let all = take (17 * n) xs in
      let all_long : length all ≡ 17 * n = length-take-le (17 * n) xs room in
      let rest_long : length rest ≡ length all - 17 * i = ap length rest_is ∙ length-drop (17 * i) all in
      omega arith

  -- the first i quotients, and zero behind them
  abbrev pub DividedFirst : ℕ → (ℕ → ℕ → R) → (ℕ → R) → List F → Type 0
  DividedFirst i a g row =
      ((j : ℕ) → j < i → (series o).product g (row_in o member row 0 j) ≡ a j)
      × ((k : ℕ) → 17 * i ≤ k → at o member row k ≡ o.zero)

  pub divide_step : (i : ℕ) (a : ℕ → ℕ → R) (g q : ℕ → R) (xs ys : List F)
      → DividedFirst i a g xs → (series o).product g q ≡ a i
      → poly_at o member ys (17 * i) 17 ≡ q → Kept o member (17 * i) 17 xs ys
      → DividedFirst (i + 1) a g ys
  divide_step i a g q xs ys inv quotient is keep = (
    below_more (λ j. (series o).product g (row_in o member ys 0 j) ≡ a j) i
        (λ j l. ap ((series o).product g) (P.poly_at_kept o member xs ys (17 * i) 17 (0 + 17 * j) 17 keep (λ k w v. omega arith)) ∙ inv.0 j l)
        (ap ((series o).product g) (ap (λ b. poly_at o member ys b 17) (let e : 0 + 17 * i ≡ 17 * i = omega arith in e) ∙ is) ∙ quotient),
    λ k l. keep k (λ w. omega arith) ∙ inv.1 k (omega arith),
  )

  -- the parts of a cleared work table
  pub record Parts (spare unused divisor row : List F) : Type 0 where
    pub spare_long : length spare ≡ 17
    pub unused_long : length unused ≡ 4351
    pub divisor_long : length divisor ≡ 17
    pub row_long : length row ≡ 136
    pub spare_zero : Cleared o member spare
    pub unused_zero : Cleared o member unused
    pub divisor_zero : Cleared o member divisor
    pub row_zero : Cleared o member row

  pub parts_of : (table tables row front divisor spare unused : List F) → Cleared o member table → length table ≡ 4521
      → tables ≡ take 4385 table → row ≡ drop 4385 table
      → front ≡ take 4368 tables → divisor ≡ drop 4368 tables
      → spare ≡ take 17 front → unused ≡ drop 17 front
      → Parts spare unused divisor row
  parts_of table tables row front divisor spare unused zero long tables_is row_is front_is divisor_is spare_is unused_is =
      let tables_zero : Cleared o member tables = subst (Cleared o member) (sym tables_is) (cleared_take o member 4385 table zero) in
      let front_zero : Cleared o member front = subst (Cleared o member) (sym front_is) (cleared_take o member 4368 tables tables_zero) in
      let tables_long : length tables ≡ 4385 = ap length tables_is ∙ length-take-le 4385 table (omega arith) in
      let front_long : length front ≡ 4368 = ap length front_is ∙ length-take-le 4368 tables (omega arith) in
      record {
        spare_long = ap length spare_is ∙ length-take-le 17 front (omega arith);
        unused_long = ap length unused_is ∙ length-drop 17 front ∙ omega arith;
        divisor_long = ap length divisor_is ∙ length-drop 4368 tables ∙ omega arith;
        row_long = ap length row_is ∙ length-drop 4385 table ∙ omega arith;
        spare_zero = subst (Cleared o member) (sym spare_is) (cleared_take o member 17 front front_zero);
        unused_zero = subst (Cleared o member) (sym unused_is) (cleared_drop o member 17 front front_zero);
        divisor_zero = subst (Cleared o member) (sym divisor_is) (cleared_drop o member 4368 tables tables_zero);
        row_zero = subst (Cleared o member) (sym row_is) (cleared_drop o member 4385 table zero);
      }

  -- the work table: a spare part and places that are not used, the divisor, and the row
  module _ (s t d r : List F) (first : length s ≡ 17) (unused : length t ≡ 4351) (size : length d ≡ 17) where
    front : length (s ++ t) ≡ 4368
    front = length-append s t ∙ ap₂ ◌+◌ first unused

    before : length (s ++ t ++ d) ≡ 4385
    before = length-append (s ++ t) d ∙ ap₂ ◌+◌ front size

    in_row : (k : ℕ) → at o member (s ++ t ++ d ++ r) (4385 + k) ≡ at o member r k
    in_row k = ap (λ b. at o member (s ++ t ++ d ++ r) (b + k)) (sym before) ∙ at_right o member (s ++ t ++ d) r k

    pub placed_gcd : gcd_in o member (s ++ t ++ d ++ r) ≡ at o member d
    placed_gcd =
        P.poly_at_is o member (s ++ t ++ d ++ r) 4368 17 (at o member d) (at_below o member d 17 (omega (arith, size)))
        (λ k h. at_left o member (s ++ t ++ d) r (4368 + k) (omega (arith, before)) ∙ ap (λ b. at o member (s ++ t ++ d) (b + k)) (sym front) ∙ at_right o member (s ++ t) d k)

    pub placed_row : (i : ℕ) → quotient_in o member (s ++ t ++ d ++ r) i ≡ row_in o member r 0 i
    placed_row i =
        P.poly_at_is o member (s ++ t ++ d ++ r) (4385 + 17 * i) 17 (row_in o member r 0 i) (P.poly_at_below o member r (0 + 17 * i) 17)
        (λ k h.
        ap (at o member (s ++ t ++ d ++ r)) (let e : 4385 + 17 * i + k ≡ 4385 + (0 + 17 * i + k) = omega arith in e)
        ∙ in_row (0 + 17 * i + k)
        ∙ sym (P.poly_at_in o member r (0 + 17 * i) 17 k h))

    pub placed_rest : (n : ℕ) → Cleared o member s → Cleared o member t → ((k : ℕ) → 17 * n ≤ k → at o member r k ≡ o.zero) → ZeroOutside o member 4368 (17 + 17 * n) (s ++ t ++ d ++ r)
    placed_rest n zs zt zr k out = elim (dec_lt k 4368) [
      | yes l ↦ at_left o member (s ++ t ++ d) r k (omega (arith, before)) ∙ at_left o member (s ++ t) d k (omega (arith, front)) ∙ cleared_append o member s t zs zt k
      | no l ↦ elim (dec_lt k (4385 + 17 * n)) [
        | yes m ↦ absurd (out (omega arith, omega arith))
        | no m ↦ ap (at o member (s ++ t ++ d ++ r)) (let e : k ≡ 4385 + (k - 4385) = omega arith in e) ∙ in_row (k - 4385) ∙ zr (k - 4385) (omega arith)
      ]
    ]

    pub placed_zero : Cleared o member s → Cleared o member t → Cleared o member d → Cleared o member r → Cleared o member (s ++ t ++ d ++ r)
    placed_zero zs zt zd zr = cleared_append o member (s ++ t ++ d) r (cleared_append o member (s ++ t) d (cleared_append o member s t zs zt) zd) zr

  -- all of it together
  pub divided_by_gcd : (laws : FieldLaws o) (n e d : ℕ) (f g : ℕ → R) (generators row work : List F)
      → GcdOfFirst o n (generator_in o member generators) f
      → MonicLike o f g e
      → DividedFirst n (generator_in o member generators) g row
      → Highest o n (row_in o member row 0) d
      → gcd_in o member work ≡ g → ((i : ℕ) → quotient_in o member work i ≡ row_in o member row 0 i)
      → ZeroOutside o member 4368 (17 + 17 * n) work
      → DividedByGcd o member n generators work e d
  divided_by_gcd laws n e d f g generators row work first like divided high gcd_is row_is rest =
      record {
        gcd = subst (MonicGcd o n a) (sym gcd_is) (record {
          monic = record { degree = e; leading = like.leading; below = like.below };
          divides = (gcd g).0 (divides_self o L g);
          greatest = λ h p all. (gcd h).1 all;
        });
        degree = subst (λ (t : ℕ → R). Degree o t e) (sym gcd_is) (monic_degree o laws f g e like);
        divided = record {
          polynomials = λ i l. (17, P.poly_at_below o member work (4385 + 17 * i) 17);
          is = λ i l. ap₂ (series o).product gcd_is (row_is i) ∙ divided.0 i l;
        };
        highest = subst (λ (h : ℕ → ℕ → R). VectorDegree o n h d) (sym (fun_ext row_is)) (found high);
        rest = rest;
      }
    where
      a : ℕ → ℕ → R
      a = generator_in o member generators

      gcd : GcdOfFirst o n a g
      gcd h = (λ p. (first h).0 ((like.divisors h).0 p), λ all. (like.divisors h).1 ((first h).1 all))

      found : Highest o n (row_in o member row 0) d → VectorDegree o n (row_in o member row 0) d
      found (inr v) = v
      found (inl (z, s)) =
          absurd ((monic_degree o laws f g e like).top (ap (λ (t : ℕ → R). t e)
          (zero_of_row o L n a g gcd (λ i l. sym (divided.0 i l) ∙ ap ((series o).product g) (z i l) ∙ Sums.product_zero (series o) (S.series_laws o L) g))))

-- the highest degree of a row goes by the polynomials of the row
highest_cong : {R : Type 0} (o : RingOps R) (n d : ℕ) (h f : ℕ → ℕ → R) → ((i : ℕ) → i < n → h i ≡ f i) → Highest o n h d → Highest o n f d
highest_cong o n d h f same (inl (z, e)) = inl (λ i l. sym (same i l) ∙ z i l, e)
highest_cong {R} o n d h f same (inr v) =
    inr (record {
      bounded = λ i l. subst (Below o (suc d)) (same i l) (v.bounded i l);
      component = v.component;
      within = v.within;
      top = λ z. v.top (ap (λ (t : ℕ → R). t d) (same v.component v.within) ∙ z);
    })

-- a row in a part of a table, `&xs[base..end]`
pub highest_range : {F R : Type 0} (o : RingOps R) (member : F → R) (xs : List F) (base end n d : ℕ) → base + 17 * n ≤ end → Highest o n (row_in o member (between base end xs) 0) d → Highest o n (row_in o member xs base) d
highest_range o member xs base end n d room high =
    highest_cong o n d (row_in o member (between base end xs) 0) (row_in o member xs base)
    (λ i l.
    P.poly_at_is o member (between base end xs) (0 + 17 * i) 17 (row_in o member xs base i) (P.poly_at_below o member xs (base + 17 * i) 17)
    (λ k h.
    at_take o member (end - base) (drop base xs) (0 + 17 * i + k) (omega arith)
    ∙ at_drop o member base xs (0 + 17 * i + k)
    ∙ ap (at o member xs) (let e : base + (0 + 17 * i + k) ≡ base + 17 * i + k = omega arith in e)
    ∙ sym (P.poly_at_in o member xs (base + 17 * i) 17 k h)))
    high

-- Slices of a table. Main results: part_is (the polynomial of a part is that of the slice), put_part and kept_put (a part written back),
-- and what was written place by place (written_more, scaled_is, added_is).
use Rattle.std.proofs.Common.{◌≡◌, ℕ, zero, suc, ◌+◌, ◌-◌, ◌<◌, ◌≤◌, List, [], ◌∷◌, ◌++◌, length, take, drop, refl, sym, ap, ap₂, ◌∙◌, not-suc-le-zero, arith, below_more, append_assoc}
use Rattle.std.specs.List.{between, copy_within}
use Rattle.std.proofs.lemmas.List.Edits.{length-between}
use Rattle.std.proofs.lemmas.List.{length-take-le, drop-drop}
use native.Mathlib.Decide.{dec_lt}
use native.Mathlib.Nat.{le_of_suc-le-suc}
use mathlib.Core.Path.{fun_ext}
use lib.ListN.{set}
use borrow.Rule.Slice.PartMut.{put_mid}
use Rattle.algebra.specs.Rings.{RingOps, RingLaws}
use Rattle.algebra.specs.Series.{series, shift, scale, Below}
use Rattle.algebra.proofs.Series.{shift_at, shift_low}
use Rattle.algebra.proofs.Sums.{product_zero}
use Rattle.tables.specs.Places.{at, Cleared, Kept, poly_at}
use Rattle.tables.proofs.Places.{at_past, at_set_same, at_set_other}
use Rattle.tables.proofs.Parts.{poly_at_is}

module _ {F R : Type 0} (o : RingOps R) (member : F → R) where
  -- coefficients of a slice end with it
  pub at_below : (xs : List F) (n : ℕ) → length xs ≤ n → Below o n (at o member xs)
  at_below xs n l k h = at_past o member xs k (omega arith)

  pub at_drop : (b : ℕ) (xs : List F) (k : ℕ) → at o member (drop b xs) k ≡ at o member xs (b + k)
  at_drop zero xs k = ap (at o member xs) (let e : k ≡ 0 + k = omega arith in e)
  at_drop (suc b) [] k = refl
  at_drop (suc b) (x ∷ xs) k = at_drop b xs k ∙ ap (at o member (x ∷ xs)) (let e : suc (b + k) ≡ suc b + k = omega arith in e)

  pub at_take : (w : ℕ) (xs : List F) (k : ℕ) → k < w → at o member (take w xs) k ≡ at o member xs k
  at_take zero xs k h = absurd (not-suc-le-zero h)
  at_take (suc w) [] k h = refl
  at_take (suc w) (x ∷ xs) zero h = refl
  at_take (suc w) (x ∷ xs) (suc k) h = at_take w xs k (le_of_suc-le-suc h)

  pub at_take_past : (w : ℕ) (xs : List F) (k : ℕ) → w ≤ k → at o member (take w xs) k ≡ o.zero
  at_take_past zero xs k h = refl
  at_take_past (suc w) [] k h = refl
  at_take_past (suc w) (x ∷ xs) zero h = absurd (not-suc-le-zero h)
  at_take_past (suc w) (x ∷ xs) (suc k) h = at_take_past w xs k (le_of_suc-le-suc h)

  -- no coefficient is lost where those that are left out are zero
  pub at_cut : (xs : List F) (w : ℕ) → Below o w (at o member xs) → at o member (take w xs) ≡ at o member xs
  at_cut xs w below = fun_ext (λ k. elim (dec_lt k w) [ yes l ↦ at_take w xs k l | no l ↦ at_take_past w xs k (omega arith) ∙ sym (below k (omega arith)) ])

  pub at_left : (xs ys : List F) (k : ℕ) → k < length xs → at o member (xs ++ ys) k ≡ at o member xs k
  at_left [] ys k h = absurd (not-suc-le-zero h)
  at_left (x ∷ xs) ys zero h = refl
  at_left (x ∷ xs) ys (suc k) h = at_left xs ys k (le_of_suc-le-suc h)

  pub cleared_append : (xs ys : List F) → Cleared o member xs → Cleared o member ys → Cleared o member (xs ++ ys)
  cleared_append [] ys zx zy k = zy k
  cleared_append (x ∷ xs) ys zx zy zero = zx 0
  cleared_append (x ∷ xs) ys zx zy (suc k) = cleared_append xs ys (λ j. zx (suc j)) zy k

  pub at_right : (xs ys : List F) (k : ℕ) → at o member (xs ++ ys) (length xs + k) ≡ at o member ys k
  at_right [] ys k = ap (at o member ys) (let e : 0 + k ≡ k = omega arith in e)
  at_right (x ∷ xs) ys k = ap (at o member (x ∷ (xs ++ ys))) next ∙ at_right xs ys k
    where
      next : suc (length xs) + k ≡ suc (length xs + k)
      next = omega arith

  -- a front written back where what lies behind it is zero
  pub put_front : (xs ys : List F) (k : ℕ) → length ys ≡ k → Below o k (at o member xs) → at o member (ys ++ drop k xs) ≡ at o member ys
  put_front xs ys k size below = fun_ext (λ j. elim (dec_lt j k) [
    | yes l ↦ at_left ys (drop k xs) j (omega arith)
    | no l ↦ behind j (j - k) (let e : j ≡ length ys + (j - k) = omega arith in e)
  ])
    where
      behind : (j i : ℕ) → j ≡ length ys + i → at o member (ys ++ drop k xs) j ≡ at o member ys j
      behind j i e =
          ap (at o member (ys ++ drop k xs)) e ∙ at_right ys (drop k xs) i ∙ at_drop k xs i ∙ below (k + i) (omega arith) ∙ sym (at_past o member ys j (omega arith))

  -- the parts of a cleared table
  pub cleared_take : (n : ℕ) (xs : List F) → Cleared o member xs → Cleared o member (take n xs)
  cleared_take n xs z k = elim (dec_lt k n) [ yes l ↦ at_take n xs k l ∙ z k | no l ↦ at_take_past n xs k (omega arith) ]

  pub cleared_drop : (n : ℕ) (xs : List F) → Cleared o member xs → Cleared o member (drop n xs)
  cleared_drop n xs z k = at_drop n xs k ∙ z (n + k)

  -- the polynomial of a part is that of the slice
  pub part_is : (xs : List F) (base width : ℕ) → at o member (take width (drop base xs)) ≡ poly_at o member xs base width
  part_is xs base width =
      sym (poly_at_is o member xs base width (at o member (take width (drop base xs)))
      (λ k h. at_take_past width (drop base xs) k h)
      (λ k h. sym (at_take width (drop base xs) k h ∙ at_drop base xs k)))

  -- the same of `&xs[base..end]`
  pub range_is : (xs : List F) (base end width : ℕ) → end ≡ base + width → at o member (between base end xs) ≡ poly_at o member xs base width
  range_is xs base end width e = ap (λ w. at o member (take w (drop base xs))) (let w : end - base ≡ width = omega arith in w) ∙ part_is xs base width

  pub whole_is : (xs : List F) (width : ℕ) → length xs ≤ width → poly_at o member xs 0 width ≡ at o member xs
  whole_is xs width h = poly_at_is o member xs 0 width (at o member xs) (at_below xs width h) (λ k l. ap (at o member xs) (let e : 0 + k ≡ k = omega arith in e))

  module _ (a k : ℕ) (xs ys : List F) (room : a + k ≤ length xs) (size : length ys ≡ k) where
    -- the slice is what its part was written to be
    pub put_part : (width : ℕ) → width ≡ k → poly_at o member (put_mid a k xs ys) a width ≡ at o member ys
    put_part width e =
        poly_at_is o member (put_mid a k xs ys) a width (at o member ys) (at_below ys width (omega arith))
        (λ j h.
        let front : length (take a xs) ≡ a = length-take-le a xs (omega arith) in
        ap (λ b. at o member (put_mid a k xs ys) (b + j)) (sym front)
        ∙ at_right (take a xs) (ys ++ drop k (drop a xs)) j
        ∙ at_left ys (drop k (drop a xs)) j (omega arith))

    -- and outside it, it is as it was
    pub kept_put : (width : ℕ) → width ≡ k → Kept o member a width xs (put_mid a k xs ys)
    kept_put width e j out = elim (dec_lt j a) [
      | yes l ↦ at_left (take a xs) (ys ++ drop k (drop a xs)) j (omega (arith, front)) ∙ at_take a xs j l
      | no l ↦ elim (dec_lt j (a + k)) [
        | yes m ↦ absurd (out (omega arith, omega arith))
        | no m ↦ behind (j - (a + k)) (let d : j ≡ a + (k + (j - (a + k))) = omega arith in d)
      ]
    ]
      where
        front : length (take a xs) ≡ a
        front = length-take-le a xs (omega arith)

        behind : (i : ℕ) → j ≡ a + (k + i) → at o member (put_mid a k xs ys) j ≡ at o member xs j
        behind i d =
            ap (at o member (put_mid a k xs ys)) (let f : j ≡ length (take a xs) + (length ys + i) = omega (arith, front) in f)
            ∙ at_right (take a xs) (ys ++ drop k (drop a xs)) (length ys + i)
            ∙ at_right ys (drop k (drop a xs)) i
            ∙ at_drop k (drop a xs) i
            ∙ at_drop a xs (k + i)
            ∙ ap (at o member xs) (sym d)

  -- both of `&mut xs[base..end]`
  module _ (base end width : ℕ) (xs ys : List F) (e : end ≡ base + width) (room : base + width ≤ length xs) (size : length ys ≡ length (between base end xs)) where
    range_size : length ys ≡ end - base
    range_size = size ∙ length-between xs base end (omega arith)

    pub put_range : poly_at o member (put_mid base (end - base) xs ys) base width ≡ at o member ys
    put_range = put_part base (end - base) xs ys (omega arith) range_size width (omega arith)

    pub kept_range : Kept o member base width xs (put_mid base (end - base) xs ys)
    kept_range = kept_put base (end - base) xs ys (omega arith) range_size width (omega arith)

  -- the first n places from power on hold the members of f, and every other place is as it was
  abbrev pub Written : (ℕ → R) → ℕ → ℕ → List F → List F → Type 0
  Written f power n before after =
      ((k : ℕ) → k < n → at o member after (power + k) ≡ f k) × Kept o member power n before after

  -- one place more
  pub written_more : (f : ℕ → R) (power n j : ℕ) (xs ys : List F) (v : F) → Written f power n xs ys → j ≡ power + n → j < length ys → member v ≡ f n → Written f power (n + 1) xs (set ys j v)
  written_more f power n j xs ys v p at_j room is = (
    below_more _ _
        (λ k h. at_set_other o member ys j (power + k) v (λ e. omega arith) ∙ p.0 k h)
        (ap (at o member (set ys j v)) (sym at_j) ∙ at_set_same o member ys j v room ∙ is),
    λ k out. at_set_other o member ys j k v (λ e. out (omega arith, omega arith)) ∙ p.1 k (λ w. out (omega arith, omega arith)),
  )

  -- a row that was multiplied place by place
  pub scaled_is : RingLaws o → (x : R) (n : ℕ) (xs ys : List F) → Written (λ k. o.product x (at o member xs k)) 0 n xs ys → n ≡ length xs → at o member ys ≡ scale o x (at o member xs)
  scaled_is L x n xs ys p n_is = fun_ext (λ k. elim (dec_lt k n) [
    | yes l ↦ ap (at o member ys) (let e : k ≡ 0 + k = omega arith in e) ∙ p.0 k l
    | no l ↦
        let past : at o member xs k ≡ o.zero = at_past o member xs k (omega arith) in
        p.1 k (λ w. omega arith) ∙ past ∙ sym (ap (o.product x) past ∙ product_zero o L x)
  ])

  -- a multiple of a shifted polynomial that was added place by place
  pub added_is : RingLaws o → (x : R) (power n : ℕ) (zs xs ys : List F) → Written (λ k. o.sum (at o member xs (power + k)) (o.product x (at o member zs k))) power n xs ys → n ≡ length zs → at o member ys ≡ (series o).sum (at o member xs) (shift o power (scale o x (at o member zs)))
  added_is L x power n zs xs ys p n_is = fun_ext (λ k. elim (dec_lt k power) [
    | yes l ↦ p.1 k (λ w. omega arith) ∙ sym (ap (o.sum (at o member xs k)) (shift_low o L power k multiple l) ∙ L.sum_zero (at o member xs k))
    | no l ↦ above k (k - power) (let e : k ≡ power + (k - power) = omega arith in e)
  ])
    where
      multiple : ℕ → R
      multiple = scale o x (at o member zs)

      above : (k j : ℕ) → k ≡ power + j → at o member ys k ≡ o.sum (at o member xs k) (shift o power multiple k)
      above k j e = elim (dec_lt j n) [
        | yes l ↦
            ap (at o member ys) e ∙ p.0 j l
            ∙ ap₂ o.sum (ap (at o member xs) (sym e)) (sym (shift_at o L power k j multiple e))
        | no l ↦
            p.1 k (λ w. omega arith)
            ∙ sym (ap (o.sum (at o member xs k)) (shift_at o L power k j multiple e ∙ ap (o.product x) (at_past o member zs j (omega arith)) ∙ product_zero o L x) ∙ L.sum_zero (at o member xs k))
      ]

  -- a part of a table was copied to another
  pub copied_is : (from base end width : ℕ) (xs : List F) → end ≡ from + width → end ≤ length xs → base + width ≤ length xs
      → (poly_at o member (copy_within xs from end base) base width ≡ poly_at o member xs from width) × Kept o member base width xs (copy_within xs from end base)
  copied_is from base end width xs e long room =
      let n : end - from ≡ width = omega arith in
      let size : length (take (end - from) (drop from xs)) ≡ end - from = length-between xs from end long in
      let same : copy_within xs from end base ≡ put_mid base (end - from) xs (take (end - from) (drop from xs)) =
      append_assoc (take base xs) (take (end - from) (drop from xs)) (drop (base + (end - from)) xs)
      ∙ ap (λ zs. take base xs ++ (take (end - from) (drop from xs) ++ zs)) (sym (drop-drop (end - from) base xs)) in (
        ap (λ zs. poly_at o member zs base width) same
            ∙ put_part base (end - from) xs (take (end - from) (drop from xs)) (omega arith) size width (sym n)
            ∙ range_is xs from end width e,
        λ k out. ap (λ zs. at o member zs k) same ∙ kept_put base (end - from) xs (take (end - from) (drop from xs)) (omega arith) size width (sym n) k out,
      )

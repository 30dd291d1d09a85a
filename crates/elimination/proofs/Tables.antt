-- Steps in a table: reading the numbers of one, and writing one behind the others.
use Rattle.std.proofs.Common.{◌≡◌, ℕ, zero, suc, ◌+◌, ◌-◌, ◌*◌, ◌<◌, ◌≤◌, List, [], ◌∷◌, length, take, drop, sym, refl, ap, ◌∙◌, ap₂, mul-le-mul_left, mul-suc, add-one, arith}
use mathlib.Core.Path.{fun_ext}
use borrow.Rule.Slice.PartMut.{put_mid}
use Rattle.std.proofs.lemmas.Slice.{between-put_mid}
use Rattle.algebra.specs.Rings.{RingOps}
use Rattle.tables.specs.Places.{at}
use Rattle.tables.proofs.Slices.{at_drop}
use Rattle.elimination.specs.Steps.{front, step, reduced, column_at}
use Rattle.elimination.proofs.StepMaps.{front_low, front_high, front_is}

-- the rows of step t lie below those of step n
pub row_room : (rows t n : ℕ) → t < n → rows * t + rows ≤ rows * n
row_room rows t n h = omega (arith, mul-suc rows t, mul-le-mul_left rows h)

pub front_ext : {M : Type 0} (o : RingOps M) (n : ℕ) (v w : ℕ → M) → ((r : ℕ) → r < n → v r ≡ w r) → front o n v ≡ front o n w
front_ext o n v w e = front_is o n w (front o n v) (λ r l. front_low o n v r l ∙ e r l) (front_high o n v)

pub front_zero : {M : Type 0} (o : RingOps M) (n r : ℕ) → front o n (λ i. o.zero) r ≡ o.zero
front_zero o zero r = refl
front_zero o (suc n) zero = refl
front_zero o (suc n) (suc r) = front_zero o n r

-- one step more
pub reduced_more : {M : Type 0} (o : RingOps M) (e : ℕ → ℕ → M) (p : ℕ → ℕ) (t : ℕ) (u now next f : ℕ → M) → now ≡ reduced o e p t u → f ≡ e t → next ≡ step o f t (p t) now → next ≡ reduced o e p (t + 1) u
reduced_more o e p t u now next f a b c = rw add-one (c ∙ ap₂ (λ g v. step o g t (p t) v) b a)

module _ {F M : Type 0} (o : RingOps M) (m : F → M) where
  at_take : (n : ℕ) (xs : List F) (r : ℕ) → at o m (take n xs) r ≡ front o n (at o m xs) r
  at_take zero xs r = refl
  at_take (suc n) [] zero = refl
  at_take (suc n) [] (suc r) = sym (front_zero o n r)
  at_take (suc n) (x ∷ xs) zero = refl
  at_take (suc n) (x ∷ xs) (suc r) = at_take n xs r

  -- the members of a part of a table
  pub at_part : (k n : ℕ) (xs : List F) → at o m (take n (drop k xs)) ≡ front o n (λ r. at o m xs (k + r))
  at_part k n xs = fun_ext (at_take n (drop k xs)) ∙ ap (front o n) (fun_ext (at_drop o m k xs))

  -- what stands below the rows of step n is all that the steps before it have
  pub columns_same : (rows n : ℕ) (xs ys : List F) → ((k : ℕ) → k < rows * n → at o m ys k ≡ at o m xs k) → (t : ℕ) → t < n → column_at o m rows ys t ≡ column_at o m rows xs t
  columns_same rows n xs ys e t h = front_ext o rows (λ r. at o m ys (rows * t + r)) (λ r. at o m xs (rows * t + r)) (λ r l. e (rows * t + r) (omega (arith, row_room rows t n h)))

  -- a table after its part of n elements from k on was replaced by ys
  module _ (k n : ℕ) (xs ys : List F) (room : k + n ≤ length xs) (long : length ys ≡ n) where
    size : k + n - k ≡ n
    size = omega arith

    pub part_is : at o m (take (k + n - k) (drop k xs)) ≡ front o n (λ r. at o m xs (k + r))
    part_is = ap (λ j. at o m (take j (drop k xs))) size ∙ at_part k n xs

    pub replaced_here : at o m ys ≡ front o n (λ r. at o m (put_mid k (k + n - k) xs ys) (k + r))
    replaced_here =
        ap (at o m) (sym (between-put_mid k (k + n - k) xs ys (k + n) (omega arith) (omega arith)))
        ∙ ap (λ j. at o m (take j (drop k (put_mid k (k + n - k) xs ys)))) size
        ∙ at_part k n (put_mid k (k + n - k) xs ys)

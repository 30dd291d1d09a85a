-- The member at a place of a part of a table. Main results: part_of (the polynomial in a part), at_put_mid and at_before (a table after
-- a part of it was written).
use Rattle.std.proofs.Common.{◌≡◌, ℕ, ◌+◌, ◌-◌, ◌<◌, ◌≤◌, List, ◌++◌, length, take, drop, ap, ◌∙◌, arith}
use borrow.Rule.Slice.PartMut.{put_mid, post_of}
use Rattle.std.proofs.lemmas.List.{length-take, length-drop, take_all}
use Rattle.algebra.specs.Rings.{RingOps}
use Rattle.tables.specs.Places.{at, poly_at}
use Rattle.tables.proofs.Slices.{at_take, at_left, at_right, part_is}

module _ {F R : Type 0} (o : RingOps R) (member : F → R) where
  -- a part of a table is the polynomial that stands there
  pub part_of : (xs : List F) (base width : ℕ) → base + width ≤ length xs → at o member (take width (take (length xs - base) (drop base xs))) ≡ poly_at o member xs base width
  part_of xs base width h =
      ap (λ (ys : List F). at o member (take width ys)) (take_all (length xs - base) (drop base xs) (omega (arith, length-drop base xs)))
      ∙ part_is o member xs base width

  -- what was written to a part of a table stands there, and the places before it are as they were
  pub at_put_mid : (a w : ℕ) (xs ys : List F) (k : ℕ) → a ≤ length xs → k < length ys → at o member (put_mid a w xs ys) (a + k) ≡ at o member ys k
  at_put_mid a w xs ys k h l =
      ap (at o member (put_mid a w xs ys)) (let e : a + k ≡ length (take a xs) + k = omega (arith, length-take a xs) in e)
      ∙ at_right o member (take a xs) (ys ++ post_of a w xs) k
      ∙ at_left o member ys (post_of a w xs) k l

  pub at_before : (a w : ℕ) (xs ys : List F) (k : ℕ) → a ≤ length xs → k < a → at o member (put_mid a w xs ys) k ≡ at o member xs k
  at_before a w xs ys k h l = at_left o member (take a xs) (ys ++ post_of a w xs) k (omega (arith, length-take a xs)) ∙ at_take o member a xs k l

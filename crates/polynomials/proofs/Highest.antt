-- The highest place that a search from the back finds. Main result: degree_found.
use Rattle.std.proofs.Common.{◌≡◌, ℕ, ◌+◌, ◌-◌, ◌<◌, true, List, [], ◌∷◌, length, get_or, Some, None, Option, sym, ap, ◌∙◌, not-suc-le-zero, arith}
use native.Mathlib.Decide.{dec_lt}
use mathlib.Core.Path.{fun_ext}
use Rattle.std.specs.Option.{MatchOption, IfSome, IsSomeAnd, option_map}
use Rattle.std.specs.Iterator.Runs.{Run, ItemsMapToReversed, AllItems, AllItemsBelow}
use Rattle.algebra.specs.Rings.{RingOps}
use Rattle.tables.specs.Places.{at}
use Rattle.tables.proofs.Places.{at_read, at_past}
use Rattle.polynomials.specs.Polynomials.{DegreeOf}

-- some element, where there is one
some_of : {F : Type 0} (xs : List F) (k : ℕ) → k < length xs → F
some_of [] k h = absurd (not-suc-le-zero h)
some_of (x ∷ xs) k h = x

module _ {F R A : Type 0} (o : RingOps R) (member : F → R) (v : A → F) (Hit Miss : A → Type 0)
    (hits : (x : A) → Hit x → member (v x) ≡ o.zero → ⊥) (misses : (x : A) → Miss x → member (v x) ≡ o.zero) where
  item_all : (m : Option A) (y : F) → option_map v m ≡ Some y → IfSome m Miss → member y ≡ o.zero
  item_all None y e h = absurd (cc)
  item_all (Some x) y e h = let s : v x ≡ y = cc in sym (ap member s) ∙ misses x h

  item_miss : (m : Option A) (y : F) → option_map v m ≡ Some y → IsSomeAnd m Miss → member y ≡ o.zero
  item_miss None y e h = absurd h
  item_miss (Some x) y e h = let s : v x ≡ y = cc in sym (ap member s) ∙ misses x h

  item_hit : (m : Option A) (y : F) → option_map v m ≡ Some y → IsSomeAnd m Hit → member y ≡ o.zero → ⊥
  item_hit None y e h z = h
  item_hit (Some x) y e h z = let s : v x ≡ y = cc in hits x h (ap member s ∙ z)

  module _ {S : Type 0} {steps : S → Option A → S → Type 0} (xs : List F) (p : Run steps) (items : ItemsMapToReversed p v xs) where
    degree_of : (Keeps : Type 0) → Keeps → (r : Option ℕ) → IfSome r (λ i. i < length xs)
        → MatchOption r ((p.whole ≡ true) × (Keeps → AllItems p Miss)) (λ i. (i + p.len ≡ length xs) × (Keeps → IsSomeAnd (p.at (length xs - 1 - i)) Hit × AllItemsBelow p (length xs - 1 - i) Miss))
        → DegreeOf o (length xs) (at o member xs) r
    degree_of Keeps keeps None bound ran =
        fun_ext (λ k. elim (dec_lt k (length xs)) [
          | yes l ↦
              let d = some_of xs k l in
              let whole : p.len ≡ length xs = items.1 ran.0 in
              at_read o member xs k d l ∙ item_all (p.at (length xs - 1 - k)) (get_or xs k d) (items.2 k d l (omega arith)) (ran.1 keeps (length xs - 1 - k))
          | no n ↦ at_past o member xs k (omega arith)
        ])
    degree_of Keeps keeps (Some i) bound ran = (
      bound,
      record {
        top = λ z.
            let d = some_of xs i bound in
            item_hit (p.at (length xs - 1 - i)) (get_or xs i d) (items.2 i d bound (omega arith)) (ran.1 keeps).0 (sym (at_read o member xs i d bound) ∙ z);
        below = λ k h. elim (dec_lt k (length xs)) [
          | yes l ↦
              let d = some_of xs k l in
              at_read o member xs k d l ∙ item_miss (p.at (length xs - 1 - k)) (get_or xs k d) (items.2 k d l (omega arith)) ((ran.1 keeps).1 (length xs - 1 - k) (omega arith))
          | no n ↦ at_past o member xs k (omega arith)
        ];
      },
    )

-- r is the degree where a search from the back for a coefficient that is not zero found r
pub degree_found : {F R A S : Type 0} {steps : S → Option A → S → Type 0} (o : RingOps R) (member : F → R) (v : A → F) (Hit Miss : A → Type 0) (Keeps : Type 0) (xs : List F) (p : Run steps) (r : Option ℕ)
    → ItemsMapToReversed p v xs → IfSome r (λ i. i < length xs)
    → MatchOption r ((p.whole ≡ true) × (Keeps → AllItems p Miss)) (λ i. (i + p.len ≡ length xs) × (Keeps → IsSomeAnd (p.at (length xs - 1 - i)) Hit × AllItemsBelow p (length xs - 1 - i) Miss))
    → Keeps → ((x : A) → Hit x → member (v x) ≡ o.zero → ⊥) → ((x : A) → Miss x → member (v x) ≡ o.zero)
    → DegreeOf o (length xs) (at o member xs) r
degree_found o member v Hit Miss Keeps xs p r items bound ran keeps hits misses = degree_of o member v Hit Miss hits misses xs p items Keeps keeps r bound ran

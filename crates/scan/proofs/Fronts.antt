-- The first places of a list, as a list of their own. Main results: rising_front, places_front, check_front.
use mathlib.Core.List.{List}
use mathlib.Core.Path.{◌≡◌, sym, ap, ◌∙◌}
use Prim.Native.Nat.{ℕ, ◌<◌, ◌≤◌}
use native.Mathlib.Omega.{arith}
use lib.ListN.{length, take, length-take}
use Rattle.std.proofs.lemmas.List.{get_or-take}
use Rattle.algebra.specs.Rings.{RingOps}
use Rattle.elimination.specs.Steps.{entry_at}
use Rattle.tables.specs.Places.{at}
use Rattle.scan.specs.Columns.{cell, AtPlaces, CheckAt, Rising}

module _ (rank : ℕ) (places : List ℕ) (room : rank ≤ length places) where
  abbrev front : List ℕ
  front = take rank places

  pub count : length front ≡ rank
  count = omega (arith, length-take rank places)

  same : (t : ℕ) → t < length front → entry_at front t ≡ entry_at places t
  same t l = get_or-take rank places t 0 (omega (arith, count))

  pub rising_front : (n : ℕ) → Rising n rank (entry_at places) → Rising n (length front) (entry_at front)
  rising_front n r = record {
    within = λ t l. rw (same t l) (r.within t (omega (arith, count)));
    rising = λ s t h l. rw (same t l, same s (omega arith)) (r.rising s t h (omega (arith, count)));
  }

  module _ {F M : Type 0} (o : RingOps M) (member : F → M) (n j : ℕ) (x : ℕ → M) (before after : List F) where
    pub places_front : AtPlaces o member n j (length front) (entry_at front) x before after → AtPlaces o member n j rank (entry_at places) x before after
    places_front a = record {
      here = λ t l. let h : t < length front = omega (arith, count) in ap (λ p. at o member after (cell n j p)) (sym (same t h)) ∙ a.here t h;
      others = λ k h. a.others k (λ t l e. h t (omega (arith, count)) (e ∙ ap (cell n j) (same t l)));
    }

    pub check_front : (q : ℕ) → CheckAt o member n j q (length front) (entry_at front) x before after → CheckAt o member n j q rank (entry_at places) x before after
    check_front q a = record {
      here = λ t l. let h : t < length front = omega (arith, count) in ap (λ p. at o member after (cell n j p)) (sym (same t h)) ∙ a.here t h;
      one = a.one;
      others = λ k h m. a.others k (λ t l e. h t (omega (arith, count)) (e ∙ ap (cell n j) (same t l))) m;
    }

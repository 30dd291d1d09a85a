-- Places of a column in the frame table: cell_room and cell_injective, and a column written place by place.
use mathlib.Core.List.{List}
use mathlib.Core.Path.{◌≡◌, refl, sym, ap, ap₂, ◌∙◌}
use Prim.Native.Nat.{ℕ, ◌+◌, ◌*◌, ◌/◌, ◌%◌, ◌<◌, ◌≤◌}
use native.Mathlib.Decide.{dec_lt}
use native.Mathlib.Nat.{not-suc-le-zero, mod-lt, div-add-mod, mul-le-mul_left}
use native.Mathlib.Omega.{arith}
use borrow.Author.Count.{below_more}
use lib.ListN.{length, get_or}
use Rattle.std.specs.List.{zip}
use Rattle.std.proofs.lemmas.List.{get_or_default}
use Rattle.std.proofs.lemmas.Slice.Zip.{get_or-zip, length-zip}
use Rattle.algebra.specs.Rings.{RingOps}
use Rattle.tables.specs.Places.{at, Kept}
use Rattle.tables.proofs.Places.{at_read}
use Rattle.elimination.specs.Steps.{entry_at}
use Rattle.scan.specs.Columns.{cell, AtPlaces, CheckAt, Rising}

-- the power of a place among the first w n
pub power_lt : (n w q : ℕ) → q < n * w → q / n < w
power_lt n w q h = elim (dec_lt (q / n) w) [ yes l ↦ l | no l ↦ absurd (let e : w ≤ q / n = omega arith in let f = mul-le-mul_left n e in let g = div-add-mod q n in omega arith) ]

pub cell_room : (n j q : ℕ) → 0 < n → n ≤ 8 → j < 8 → q < n * 17 → cell n j q < 1088
cell_room n j q p l a b = let e = mod-lt q p in let f = power_lt n 17 q b in omega arith

pub cell_injective : (n j p q : ℕ) → 0 < n → n ≤ 8 → p < n * 17 → q < n * 17 → cell n j p ≡ cell n j q → p ≡ q
cell_injective n j p q h l a b e =
    let mp = mod-lt p h in
    let mq = mod-lt q h in
    let dp = power_lt n 17 p a in
    let dq = power_lt n 17 q b in
    let same_class : p % n ≡ q % n = omega arith in
    let same_power : p / n ≡ q / n = omega arith in
    sym (div-add-mod p n) ∙ ap₂ (λ s t. n * s + t) same_power same_class ∙ div-add-mod q n

-- a list beside a shorter one of places
pub zipped_is : {F M : Type 0} (o : RingOps M) (member : F → M) (places : List ℕ) (list : List F) (t : ℕ) (p : ℕ × F) → length places ≤ length list
    → (t < length (zip places list)) × (p ≡ get_or (zip places list) t p) → (t < length places) × ((p.0 ≡ entry_at places t) × (at o member list t ≡ member p.1))
zipped_is o member places list t p room (less, e) =
    let inside : t < length places = omega (arith, length-zip places list) in
    let within : t < length list = omega arith in
    let is : p ≡ (get_or places t p.0, get_or list t p.1) = e ∙ get_or-zip places list t p inside within in
    (inside, (ap (λ q. q.0) is ∙ get_or_default places t p.0 0 inside, at_read o member list t p.1 within ∙ ap member (sym (ap (λ q. q.1) is))))

module _ {F M : Type 0} (o : RingOps M) (member : F → M) (n j : ℕ) (P : ℕ → ℕ) (x : ℕ → M) where
  pub at_places_none : (xs : List F) → AtPlaces o member n j 0 P x xs xs
  at_places_none xs = record { here = λ t l. absurd (not-suc-le-zero l); others = λ k h. refl }

  -- one place more
  pub at_places_more : (rank t : ℕ) (xs ys zs : List F) → 0 < n → n ≤ 8 → t < rank → Rising n rank P → AtPlaces o member n j t P x xs ys
      → at o member zs (cell n j (P t)) ≡ x t → Kept o member (cell n j (P t)) 1 ys zs → AtPlaces o member n j (t + 1) P x xs zs
  at_places_more rank t xs ys zs positive small less places inv here keep = record {
    here = below_more (λ s. at o member zs (cell n j (P s)) ≡ x s) t
        (λ s l. keep (cell n j (P s)) (λ w. let e = cell_injective n j (P s) (P t) positive small (places.within s (omega arith)) (places.within t less) (omega arith) in let f = places.rising s t l less in omega arith) ∙ inv.here s l)
        here;
    others = λ k h. keep k (λ w. h t (omega arith) (omega arith)) ∙ inv.others k (λ s l. h s (omega arith));
  }

  -- one at the place q, behind the others
  pub check_at : (rank q : ℕ) (xs ys zs : List F) → 0 < n → n ≤ 8 → q < n * 17 → Rising n rank P → ((t : ℕ) → t < rank → P t < q) → AtPlaces o member n j rank P x xs ys
      → at o member zs (cell n j q) ≡ o.one → Kept o member (cell n j q) 1 ys zs → CheckAt o member n j q rank P x xs zs
  check_at rank q xs ys zs positive small within places later inv here keep = record {
    here = λ t l. keep (cell n j (P t)) (λ w. let e = cell_injective n j (P t) q positive small (places.within t l) within (omega arith) in let f = later t l in omega arith) ∙ inv.here t l;
    one = here;
    others = λ k h m. keep k (λ w. m (omega arith)) ∙ inv.others k h;
  }

  -- the same entries by another name
  pub at_places_of : (y : ℕ → M) (rank : ℕ) (xs ys : List F) → ((t : ℕ) → t < rank → y t ≡ x t) → AtPlaces o member n j rank P y xs ys → AtPlaces o member n j rank P x xs ys
  at_places_of y rank xs ys same a = record { here = λ t l. a.here t l ∙ same t l; others = a.others }

  -- what stands behind the columns is as it was
  pub places_behind : (rank : ℕ) (xs ys : List F) → 0 < n → n ≤ 8 → j < 8 → Rising n rank P → AtPlaces o member n j rank P x xs ys → Kept o member 0 1088 xs ys
  places_behind rank xs ys positive small room places a k out = a.others k (λ t b e. let y = cell_room n j (P t) positive small room (places.within t b) in out (omega arith, omega arith))

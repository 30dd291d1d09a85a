-- Columns in the frame table as vectors: new_column (a column written), other_column (the others), and written_start, written_pivot,
-- written_basic and read_off_written (the check columns written, from one place to the next).
use mathlib.Core.Bool.{Bool}
use mathlib.Core.List.{List}
use mathlib.Core.Path.{◌≡◌, refl, sym, ap, ap₂, subst, ◌∙◌}
use mathlib.Core.Logic.{inl, inr}
use Prim.Native.Nat.{ℕ, suc, ◌+◌, ◌*◌, ◌/◌, ◌%◌, ◌<◌, ◌≤◌}
use native.Mathlib.Decide.{dec_lt}
use native.Mathlib.Nat.{not-suc-le-zero, mod-lt, eq-or-lt_of_le, le_of_suc-le-suc, mul-le-mul_left, div-add-mod}
use native.Mathlib.Omega.{arith}
use Rattle.algebra.specs.Rings.{RingOps, RingLaws}
use Rattle.algebra.specs.Scanning.{Scanned, AtPivots, ReadOff}
use Rattle.algebra.proofs.Places.{place_div, place_mod}
use Rattle.algebra.proofs.Sums.{negative_zero}
use Rattle.tables.specs.Places.{at, poly_at}
use Rattle.tables.proofs.Parts.{poly_at_in, poly_at_below, poly_at_is}
use Rattle.scan.specs.Columns.{cell, AtPlaces, CheckAt}
use Rattle.frames.specs.Rows.{column_in}
use Rattle.scan.specs.Walked.{Written}
use Rattle.scan.proofs.Cells.{power_lt}

-- the column, component and power of a place of the frame table
pub cell_parts : (n j i k h q : ℕ) → 0 < n → n ≤ 8 → i < 8 → k < 17 → q < n * 17 → 136 * j + 17 * i + k ≡ cell n h q → (j ≡ h) × (i ≡ q % n) × (k ≡ q / n)
cell_parts n j i k h q positive small a b c e = let x = mod-lt q positive in let y = power_lt n 17 q c in (omega arith, omega arith, omega arith)

pub cell_of : (n j i k : ℕ) → i < n → cell n j (n * k + i) ≡ 136 * j + 17 * i + k
cell_of n j i k l = ap₂ (λ s t. 136 * j + 17 * s + t) (place_mod n k i l) (place_div n k i l)

-- places up to s^d are among the first 17 n
pub within_all : (n d q : ℕ) → d ≤ 16 → q < n * suc d → q < n * 17
within_all n d q h l = let e : suc d ≤ 17 = omega arith in let f = mul-le-mul_left n e in omega arith

module _ {F M : Type 0} (o : RingOps M) (member : F → M) (n d rank : ℕ) (P : ℕ → ℕ) (positive : 0 < n) (small : n ≤ 8) (low : d ≤ 16) (places : (t : ℕ) → t < rank → P t < n * suc d) where
  -- after x was written at the places P of column j, nothing else but what is in X was changed
  module _ (before after : List F) (j : ℕ) (X : ℕ → Type 0)
      (others : (k : ℕ) → ((t : ℕ) → t < rank → k ≡ cell n j (P t) → ⊥) → (X k → ⊥) → at o member after k ≡ at o member before k) where
    pub other_column : (h i : ℕ) → (h ≡ j → ⊥) → i < 8 → ((k : ℕ) → k < 17 → X (136 * h + 17 * i + k) → ⊥) → column_in o member after h i ≡ column_in o member before h i
    other_column h i ne l apart =
        poly_at_is o member after (136 * h + 17 * i) 17 (poly_at o member before (136 * h + 17 * i) 17) (poly_at_below o member before (136 * h + 17 * i) 17)
        (λ k a. others (136 * h + 17 * i + k) (λ t b e. ne (cell_parts n h i k j (P t) positive small l a (within_all n d (P t) low (places t b)) e).0) (apart k a) ∙ sym (poly_at_in o member before (136 * h + 17 * i) 17 k a))

    pub new_column : (x : ℕ → M) (excepted : ℕ → Type 0)
        → ((t : ℕ) → t < rank → at o member after (cell n j (P t)) ≡ x t)
        → ((i k : ℕ) → i < n → k < 17 → X (136 * j + 17 * i + k) → (k < suc d) × excepted (n * k + i))
        → ((i k : ℕ) → i < n → k < 17 → at o member before (136 * j + 17 * i + k) ≡ o.zero)
        → AtPivots o n d rank P x excepted (column_in o member after j)
    new_column x excepted here inside zero = record {
      bounded = λ i l k a. elim (dec_lt k 17) [
        | yes b ↦ poly_at_in o member after (136 * j + 17 * i) 17 k b
            ∙ others (136 * j + 17 * i + k)
            (λ t c e. let y = (cell_parts n j i k j (P t) positive small (omega arith) b (within_all n d (P t) low (places t c)) e).2 in let z = power_lt n (suc d) (P t) (places t c) in omega arith)
            (λ y. let z = (inside i k l b y).0 in omega arith)
            ∙ zero i k l b
        | no b ↦ poly_at_below o member after (136 * j + 17 * i) 17 k (omega arith)
      ];
      at_pivot = λ t i k l a b e. poly_at_in o member after (136 * j + 17 * i) 17 k (omega arith) ∙ ap (at o member after) (sym (ap (cell n j) e ∙ cell_of n j i k a)) ∙ here t l;
      elsewhere = λ i k a b no_pivot ne.
          poly_at_in o member after (136 * j + 17 * i) 17 k (omega arith)
          ∙ others (136 * j + 17 * i + k) (λ t l e. no_pivot t l (place_is (P t) i k (within_all n d (P t) low (places t l)) a (omega arith) e)) (λ y. ne (inside i k a (omega arith) y).1)
          ∙ zero i k a (omega arith);
    }
      where
        place_is : (p i k : ℕ) → p < n * 17 → i < n → k < 17 → 136 * j + 17 * i + k ≡ cell n j p → p ≡ n * k + i
        place_is p i k l a b e =
            let y = cell_parts n j i k j p positive small (omega arith) b l e in
            sym (ap₂ (λ s t. n * s + t) y.2 y.1 ∙ div-add-mod p n)

-- a column as it was
pub at_pivots_same : {M : Type 0} (o : RingOps M) (n d rank : ℕ) (P : ℕ → ℕ) (x y : ℕ → M) (p q : ℕ) (h g : ℕ → ℕ → M) → ((t : ℕ) → t < rank → y t ≡ x t) → q ≡ p → ((i : ℕ) → i < n → g i ≡ h i)
    → AtPivots o n d rank P x (λ z. z ≡ p) h → AtPivots o n d rank P y (λ z. z ≡ q) g
at_pivots_same {M} o n d rank P x y p q h g same place column a = record {
  bounded = λ i l k b. ap (λ (f : ℕ → M). f k) (column i l) ∙ a.bounded i l k b;
  at_pivot = λ t i k l b c e. ap (λ (f : ℕ → M). f k) (column i b) ∙ a.at_pivot t i k l b c e ∙ sym (same t l);
  elsewhere = λ i k b c others ne. ap (λ (f : ℕ → M). f k) (column i b) ∙ a.elsewhere i k b c others (λ e. ne (e ∙ sym place));
}

module _ {F M : Type 0} (o : RingOps M) (L : RingLaws o) (member : F → M) (n d : ℕ) where
  pub written_start : (P B : ℕ → ℕ) (E : ℕ → ℕ → M) (frame : List F) → ((k : ℕ) → k < 1088 → at o member frame k ≡ o.zero) → Written o member n d 0 P 0 B E frame
  written_start P B E frame zero = record {
    check = λ j l. absurd (not-suc-le-zero l);
    one = λ j i k l. absurd (not-suc-le-zero l);
    rest = λ j i k a b c h. zero (136 * j + 17 * i + k) (omega arith);
  }

  module _ (r : ℕ → ℕ → M) (q rank : ℕ) (P : ℕ → ℕ) (b : ℕ) (B : ℕ → ℕ) (E : ℕ → ℕ → M) (found : ℕ → Bool) (frame : List F)
      (s : Scanned o n d r q rank P b B E found) (w : Written o member n d rank P b B E frame) where
    -- a pivotal place: the columns written are zero there
    pub written_pivot : (Q : ℕ → ℕ) → ((t : ℕ) → t < rank → Q t ≡ P t) → Q rank ≡ q → rank < suc (d + d) → Written o member n d (suc rank) Q b B E frame
    written_pivot Q same here room = record {
      check = λ j l. record {
        bounded = (w.check j l).bounded;
        at_pivot = λ t i k a c e f. elim (eq-or-lt_of_le (le_of_suc-le-suc a)) [
          | inl last ↦
              let place : q ≡ n * k + i = sym here ∙ ap Q (sym last) ∙ f in
              (w.check j l).elsewhere i k c e (λ u v g. let x = s.pivots_walked u v in omega arith) (λ g. let x = s.basics_walked j l in omega arith)
              ∙ sym (ap o.negative (ap (E j) last ∙ s.earlier j rank l room (λ u v. omega arith)) ∙ negative_zero o L)
          | inr less ↦ (w.check j l).at_pivot t i k less c e (sym (same t less) ∙ f)
        ];
        elsewhere = λ i k c e others ne. (w.check j l).elsewhere i k c e (λ t a f. others t (omega arith) (same t a ∙ f)) ne;
      };
      one = w.one;
      rest = w.rest;
    }

    module _ (positive : 0 < n) (small : n ≤ 8) (low : d ≤ 16) (all : q ≤ n * suc d) where
      within : (t : ℕ) → t < rank → P t < n * suc d
      within t l = let x = s.pivots_walked t l in omega arith

      -- a basic place: its check column
      pub written_basic : (C : ℕ → ℕ) (D : ℕ → ℕ → M) (x : ℕ → M) (after : List F) → ((j : ℕ) → j < b → C j ≡ B j) → C b ≡ q
          → ((j t : ℕ) → j < b → D j t ≡ E j t) → ((t : ℕ) → t < rank → x t ≡ o.negative (D b t)) → suc b < 8 → q < n * suc d
          → CheckAt o member n (suc b) q rank P x frame after → Written o member n d rank P (suc b) C D after
      written_basic C D x after same here multipliers new room inside a = record {
        check = λ j l. elim (eq-or-lt_of_le (le_of_suc-le-suc l)) [
          | inl last ↦ subst (λ u. AtPivots o n d rank P (λ t. o.negative (D u t)) (λ z. z ≡ C u) (column_in o member after (suc u))) (sym last) new_check
          | inr less ↦ at_pivots_same o n d rank P (λ t. o.negative (E j t)) (λ t. o.negative (D j t)) (B j) (C j) (column_in o member frame (suc j)) (column_in o member after (suc j))
              (λ t c. ap o.negative (multipliers j t less)) (same j less) (λ i c. kept j i less (omega arith)) (w.check j less)
        ];
        one = λ j i k l c e f. elim (eq-or-lt_of_le (le_of_suc-le-suc l)) [
          | inl last ↦ poly_at_in o member after (136 * suc j + 17 * i) 17 k (omega arith) ∙ ap (at o member after) (sym (cell_of n (suc j) i k c) ∙ ap₂ (λ u v. cell n (suc u) v) last (f ∙ ap C last ∙ here)) ∙ a.one
          | inr less ↦ ap (λ (g : ℕ → M). g k) (kept j i less (omega arith)) ∙ w.one j i k less c e (f ∙ same j less)
        ];
        rest = λ j i k c e f h. a.others (136 * j + 17 * i + k)
            (λ t l g. let y = cell_parts n j i k (suc b) (P t) positive small e f (within_all n d (P t) low (within t l)) g in let z = mod-lt (P t) positive in h (omega arith) (omega arith) (omega arith))
            (λ g. let y = cell_parts n j i k (suc b) q positive small e f (within_all n d q low inside) g in let z = mod-lt q positive in h (omega arith) (omega arith) (omega arith))
            ∙ w.rest j i k c e f (λ l m z. h l (omega arith) z);
      }
        where
          kept : (j i : ℕ) → j < b → i < 8 → column_in o member after (suc j) i ≡ column_in o member frame (suc j) i
          kept j i l c = other_column o member n d rank P positive small low within frame after (suc b) (λ k. k ≡ cell n (suc b) q) a.others (suc j) i (λ e. omega arith) c
              (λ k e f. let y = (cell_parts n (suc j) i k (suc b) q positive small c e (within_all n d q low inside) f).0 in omega arith)

          new_check : AtPivots o n d rank P (λ t. o.negative (D b t)) (λ z. z ≡ C b) (column_in o member after (suc b))
          new_check = new_column o member n d rank P positive small low within frame after (suc b) (λ k. k ≡ cell n (suc b) q) a.others (λ t. o.negative (D b t)) (λ z. z ≡ C b)
              (λ t l. a.here t l ∙ new t l)
              (λ i k l c e.
              let y = cell_parts n (suc b) i k (suc b) q positive small (omega arith) c (within_all n d q low inside) e in
              let z = power_lt n (suc d) q inside in
              (omega arith, ap₂ (λ u v. n * u + v) y.2 y.1 ∙ div-add-mod q n ∙ sym here))
              (λ i k l c. w.rest (suc b) i k room (omega arith) c (λ u v z. omega arith))

      -- column 0
      module _ (u : ℕ → M) (after : List F) (a : AtPlaces o member n 0 rank P u frame after) where
        kept_check : (j i : ℕ) → i < 8 → column_in o member after (suc j) i ≡ column_in o member frame (suc j) i
        kept_check j i c = other_column o member n d rank P positive small low within frame after 0 (λ k. ⊥) (λ k h z. a.others k h) (suc j) i (λ e. omega arith) c (λ k e f. f)

        pub read_off_written : ReadOff o n d rank P b B E u (column_in o member after)
        read_off_written = record {
          first = new_column o member n d rank P positive small low within frame after 0 (λ k. ⊥) (λ k h z. a.others k h) u (λ q. ⊥) a.here
              (λ i k l c e. absurd e)
              (λ i k l c. w.rest 0 i k (omega arith) (omega arith) c (λ e. omega arith));
          check = λ j l. at_pivots_same o n d rank P (λ t. o.negative (E j t)) (λ t. o.negative (E j t)) (B j) (B j) (column_in o member frame (suc j)) (column_in o member after (suc j))
              (λ t c. refl) refl (λ i c. kept_check j i (omega arith)) (w.check j l);
          one = λ j i k l c e f. ap (λ (g : ℕ → M). g k) (kept_check j i (omega arith)) ∙ w.one j i k l c e f;
        }

        pub rest_written : (j i k : ℕ) → j < 8 → i < 8 → k < 17 → (j ≤ b → i < n → ⊥) → at o member after (136 * j + 17 * i + k) ≡ o.zero
        rest_written j i k c e f h =
            a.others (136 * j + 17 * i + k) (λ t l g. let y = cell_parts n j i k 0 (P t) positive small e f (within_all n d (P t) low (within t l)) g in let z = mod-lt (P t) positive in h (omega arith) (omega arith))
            ∙ w.rest j i k c e f (λ l m z. h m z)

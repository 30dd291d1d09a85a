-- What is known when places have been walked, for a row of n polynomials, n not 0.
use mathlib.Core.Bool.{Bool, true, false}
use mathlib.Core.Path.{◌≡◌, ap, subst}
use Prim.Native.Nat.{ℕ, zero, suc, ◌+◌, ◌-◌, ◌*◌, ◌%◌, ◌<◌, ◌≤◌}
use native.Mathlib.Nat.{not-suc-le-zero}
use native.Mathlib.Omega.{arith}
use Rattle.algebra.specs.Rings.{RingOps, IsField}
use Rattle.algebra.specs.Series.{total, series}
use Rattle.algebra.specs.Independence.{All, Spanned}
use Rattle.algebra.specs.Divisors.{Combination, VectorDegree}
use Rattle.algebra.specs.Places.{place_list}
use Rattle.algebra.specs.Frames.{FrameColumns}
use Rattle.algebra.specs.Scanning.{Scanned, ReadOff}
use Rattle.algebra.proofs.Scanning as Scanning

module _ {M : Type 0} (o : RingOps M) (F : IsField o) (d : ℕ) (r : ℕ → ℕ → M) where
  abbrev pub list : ℕ → ℕ → ℕ → M
  list n q = place_list o n r q

  -- y is a sum of multiples of the lists at P 0 .. P (rank - 1)
  abbrev pub Made : ℕ → ℕ → (ℕ → ℕ) → (ℕ → M) → Type 0
  Made n rank P y = Spanned o All rank (suc (d + d)) (λ t. place_list o n r (P t)) y

  pub start : (n : ℕ) → 0 < n → VectorDegree o n r d → (P B : ℕ → ℕ) (E : ℕ → ℕ → M) (found : ℕ → Bool) → ((i : ℕ) → i < n → found i ≡ false) → Scanned o n d r 0 0 P 0 B E found
  start zero p v P B E found none = absurd (not-suc-le-zero p)
  start (suc m) p v P B E found none = Scanning.scanned_start o F m d r v P B E found none

  pub skip : (n : ℕ) → 0 < n → VectorDegree o n r d → (q rank : ℕ) (P : ℕ → ℕ) (b : ℕ) (B : ℕ → ℕ) (E : ℕ → ℕ → M) (found : ℕ → Bool) → Scanned o n d r q rank P b B E found
      → found (q % n) ≡ true → Scanned o n d r (suc q) rank P b B E found
  skip zero p v q rank P b B E found s = absurd (not-suc-le-zero p)
  skip (suc m) p v q rank P b B E found s = Scanning.scanned_skip o F m d r v q rank P b B E found s

  pub pivot_room : (n : ℕ) → 0 < n → VectorDegree o n r d → (q rank : ℕ) (P : ℕ → ℕ) (b : ℕ) (B : ℕ → ℕ) (E : ℕ → ℕ → M) (found : ℕ → Bool) → Scanned o n d r q rank P b B E found
      → (Made n rank P (list n q) → ⊥) → rank < suc (d + d)
  pivot_room zero p v q rank P b B E found s = absurd (not-suc-le-zero p)
  pivot_room (suc m) p v q rank P b B E found s = Scanning.pivot_room o F m d r v q rank P b B E found s

  pub pivot : (n : ℕ) → 0 < n → VectorDegree o n r d → (q rank : ℕ) (P : ℕ → ℕ) (b : ℕ) (B : ℕ → ℕ) (E : ℕ → ℕ → M) (found : ℕ → Bool) → Scanned o n d r q rank P b B E found
      → (Q : ℕ → ℕ) → ((t : ℕ) → t < rank → Q t ≡ P t) → Q rank ≡ q → (Made n rank P (list n q) → ⊥) → Scanned o n d r (suc q) (suc rank) Q b B E found
  pivot zero p v q rank P b B E found s = absurd (not-suc-le-zero p)
  pivot (suc m) p v q rank P b B E found s = Scanning.scanned_pivot o F m d r v q rank P b B E found s

  pub basic_room : (n : ℕ) → 0 < n → VectorDegree o n r d → (q rank : ℕ) (P : ℕ → ℕ) (b : ℕ) (B : ℕ → ℕ) (E : ℕ → ℕ → M) (found : ℕ → Bool) → Scanned o n d r q rank P b B E found
      → q < n * suc d → found (q % n) ≡ false → Made n rank P (list n q) → suc b < n
  basic_room zero p v q rank P b B E found s l unknown made = absurd (not-suc-le-zero p)
  basic_room (suc m) p v q rank P b B E found s l unknown made = let x = Scanning.basic_room o F m d r v q rank P b B E found s l unknown made in omega arith

  pub basic : (n : ℕ) → 0 < n → VectorDegree o n r d → (q rank : ℕ) (P : ℕ → ℕ) (b : ℕ) (B : ℕ → ℕ) (E : ℕ → ℕ → M) (found : ℕ → Bool) → Scanned o n d r q rank P b B E found
      → (C : ℕ → ℕ) (D : ℕ → ℕ → M) (marked : ℕ → Bool)
      → ((j : ℕ) → j < b → C j ≡ B j) → C b ≡ q
      → ((j t : ℕ) → j < b → t < suc (d + d) → D j t ≡ E j t) → ((t : ℕ) → rank ≤ t → t < suc (d + d) → D b t ≡ o.zero)
      → ((i : ℕ) → i < n → (i ≡ q % n → ⊥) → marked i ≡ found i) → marked (q % n) ≡ true
      → q < n * suc d → found (q % n) ≡ false
      → ((k : ℕ) → k < suc (d + d) → list n q k ≡ total o rank (λ t. o.product (D b t) (list n (P t) k)))
      → Scanned o n d r (suc q) rank P (suc b) C D marked
  basic zero p v q rank P b B E found s = absurd (not-suc-le-zero p)
  basic (suc m) p v q rank P b B E found s = Scanning.scanned_basic o F m d r v q rank P b B E found s

  pub unit_made : (n : ℕ) → 0 < n → VectorDegree o n r d → (rank : ℕ) (P : ℕ → ℕ) (b : ℕ) (B : ℕ → ℕ) (E : ℕ → ℕ → M) (found : ℕ → Bool) → Scanned o n d r (n * suc d) rank P b B E found
      → Combination o n r (series o).one → Made n rank P (series o).one
  unit_made zero p v rank P b B E found s = absurd (not-suc-le-zero p)
  unit_made (suc m) p v rank P b B E found s = Scanning.unit_spanned o F m d r v rank P b B E found s

  pub frame_columns : (n : ℕ) → 0 < n → VectorDegree o n r d → (rank : ℕ) (P : ℕ → ℕ) (b : ℕ) (B : ℕ → ℕ) (E : ℕ → ℕ → M) (found : ℕ → Bool) → Scanned o n d r (n * suc d) rank P b B E found
      → (u : ℕ → M) (c : ℕ → ℕ → ℕ → M) → ((k : ℕ) → k < suc (d + d) → (series o).one k ≡ total o rank (λ t. o.product (u t) (list n (P t) k)))
      → ReadOff o n d rank P b B E u c → FrameColumns o (n - 1) d r B c
  frame_columns zero p v rank P b B E found s u c unit w = absurd (not-suc-le-zero p)
  frame_columns (suc m) p v rank P b B E found s u c unit w = subst (λ t. FrameColumns o t d r B c) (omega arith) (Scanning.read_off o F m d r v rank P b B E found s u c unit w)

  pub all_found : (n : ℕ) → 0 < n → VectorDegree o n r d → (rank : ℕ) (P : ℕ → ℕ) (b : ℕ) (B : ℕ → ℕ) (E : ℕ → ℕ → M) (found : ℕ → Bool) → Scanned o n d r (n * suc d) rank P b B E found → suc b ≡ n
  all_found zero p v rank P b B E found s = absurd (not-suc-le-zero p)
  all_found (suc m) p v rank P b B E found s = ap suc (Scanning.scanned_end o F m d r v rank P b B E found s).0

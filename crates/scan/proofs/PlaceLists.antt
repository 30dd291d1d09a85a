-- The list at a place of a row, written into a cleared column.
use mathlib.Core.List.{List}
use mathlib.Core.Path.{◌≡◌, sym, ap, ◌∙◌}
use Prim.Native.Nat.{ℕ, suc, ◌+◌, ◌-◌, ◌*◌, ◌/◌, ◌%◌, ◌<◌, ◌≤◌}
use native.Mathlib.Decide.{dec_lt}
use native.Mathlib.Nat.{mod-lt}
use native.Mathlib.Omega.{arith}
use Rattle.algebra.specs.Rings.{RingOps, RingLaws}
use Rattle.algebra.specs.Divisors.{Bounded}
use Rattle.algebra.specs.Places.{place_list}
use Rattle.algebra.proofs.Series.{shift_at, shift_low}
use Rattle.frames.specs.Rows.{generator_in}
use Rattle.tables.specs.Places.{at, Cleared, Kept, poly_at}
use Rattle.tables.proofs.Parts.{poly_at_in}

module _ {F M : Type 0} (o : RingOps M) (L : RingLaws o) (member : F → M) where
  pub list_written : (n d q : ℕ) (row cleared column : List F) → 0 < n → d ≤ 16 → Bounded o n (suc d) (generator_in o member row)
      → Cleared o member cleared → poly_at o member column (q / n) (d + 1) ≡ poly_at o member row (17 * (q % n)) (d + 1) → Kept o member (q / n) (d + 1) cleared column
      → (k : ℕ) → at o member column k ≡ place_list o n (generator_in o member row) q k
  list_written n d q row cleared column positive small bounded zero copy keep k = elim (dec_lt k (q / n)) [
    | yes l ↦ outside k (λ w. omega arith) ∙ sym (shift_low o L (q / n) k (r (q % n)) l)
    | no l ↦ above (k - q / n) (omega arith)
  ]
    where
      r : ℕ → ℕ → M
      r = generator_in o member row

      outside : (k : ℕ) → ((q / n ≤ k) × (k < q / n + (d + 1)) → ⊥) → at o member column k ≡ o.zero
      outside k h = keep k h ∙ zero k

      above : (j : ℕ) → k ≡ q / n + j → at o member column k ≡ place_list o n r q k
      above j e = elim (dec_lt j (d + 1)) [
        | yes l ↦
            ap (at o member column) e
            ∙ sym (poly_at_in o member column (q / n) (d + 1) j l)
            ∙ ap (λ (f : ℕ → M). f j) copy
            ∙ poly_at_in o member row (17 * (q % n)) (d + 1) j l
            ∙ sym (poly_at_in o member row (17 * (q % n)) 17 j (omega arith))
            ∙ sym (shift_at o L (q / n) k j (r (q % n)) e)
        | no l ↦ outside k (λ w. omega arith) ∙ sym (shift_at o L (q / n) k j (r (q % n)) e ∙ bounded (q % n) (mod-lt q positive) j (omega arith))
      ]

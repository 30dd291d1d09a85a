-- Degrees packed one after the other. Assumes nothing.
use Rattle.std.proofs.Common.{◌≡◌, ℕ, zero, suc, ◌+◌, ◌*◌, ◌^◌, ◌<◌, ◌≤◌, List, [], ◌∷◌, get_or, refl, ap, ◌∙◌, subst, add-one, inl, inr, arith, lit≤}
use native.Mathlib.Nat.{pow-succ', pow-le-pow_right}
use Rattle.algebra.specs.Rings.{RingOps}
use Rattle.algebra.specs.Divisors.{AllZero, VectorDegree}
use Rattle.frames.specs.Rows.{Highest, column_in}
use Rattle.framing.specs.Framing.{DegreesFrom}

pub highest_degree : {R : Type 0} (o : RingOps R) (n d : ℕ) (h : ℕ → ℕ → R) → Highest o n h d → (AllZero o n h → ⊥) → VectorDegree o n h d
highest_degree o n d h (inl z) some = absurd (some z.0)
highest_degree o n d h (inr v) some = v

module _ {F R : Type 0} (o : RingOps R) (member : F → R) (n : ℕ) (frame : List F) where
  pub degrees_none : (j : ℕ) → j ≡ n → DegreesFrom o member n frame j 0
  degrees_none j e = record { degrees = []; count = omega arith; is = refl; column = λ k h. absurd (omega arith) }

  pub degrees_more : (j d p : ℕ) → j < n → VectorDegree o n (column_in o member frame j) d → DegreesFrom o member n frame (suc j) p → DegreesFrom o member n frame j (d + 256 * p)
  degrees_more j d p h first rest =
      record {
        degrees = d ∷ rest.degrees;
        count = ap suc rest.count ∙ (omega arith);
        is = ap (λ x. d + 256 * x) rest.is;
        column = column;
      }
    where
      column : (k : ℕ) → j + k < n → VectorDegree o n (column_in o member frame (j + k)) (get_or (d ∷ rest.degrees) k 0)
      column zero l = subst (λ (i : ℕ). VectorDegree o n (column_in o member frame i) d) (let z : j ≡ j + 0 = omega arith in z) first
      column (suc k) l = subst (λ (i : ℕ). VectorDegree o n (column_in o member frame i) (get_or rest.degrees k 0)) (let z : suc j + k ≡ j + suc k = omega arith in z) (rest.column k (omega arith))

-- one byte more
pub packed_below : (y d p : ℕ) → d ≤ 16 → p < 256 ^ y → d + 256 * p < 256 ^ (y + 1)
packed_below y d p low below = let e : 256 ^ (y + 1) ≡ 256 * 256 ^ y = ap (λ k. 256 ^ k) (add-one y) ∙ pow-succ' 256 y in omega arith

pub eight_bytes : (k : ℕ) → k ≤ 8 → 256 ^ k ≤ 2 ^ 64
eight_bytes k h = pow-le-pow_right (lit≤ tt) h

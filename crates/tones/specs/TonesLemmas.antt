-- Tones are numbered, keep the laws of a ring, and have inverses; the quadratics that have no root. Assumes nothing.
use Rattle.std.specs.Prelude.{Bool, ◌≡◌, refl, ℕ, zero, suc, ◌+◌, ◌-◌, ◌*◌, ◌/◌, ◌%◌, ◌<◌, ◌≤◌, eqb, get_or}
use Rattle.std.proofs.Common.{sym, ap, ◌∙◌, add_comm, add-zero, mul_comm, mul_assoc, add-mul, mul-one, arith, eqb→eq}
use Rattle.std.proofs.Math.Nat.{add-mul-mod_self_left, div-add-mod}
use Rattle.algebra.specs.Rings.{RingLaws, FieldLaws, Invertible, Numbering}
use Rattle.fields.specs.Quadratics.{Rootless}
use Rattle.fields.proofs.Roots.{NoRootBelow, rootless}
use Rattle.tones.specs.Tones.{number_of, tones, tone_of, tone_ops, inverses}
use Rattle.tones.specs.declared.Tone.{Tone}
use Rattle.tones.specs.declared.Tone.TheVariants.{T0, T1, T2, T3, T4, T5, T6, T7, T8, T9, T10, T11, T12, T13, T14, T15, T16, T17, T18, T19, T20, T21, T22, T23, T24, T25, T26, T27, T28, T29, T30}
use Rattle.fields.proofs.Tests.{every_below}

pub tone_number : (x : Tone) → tone_of (number_of x) ≡ x
tone_number T0 = refl
tone_number T1 = refl
tone_number T2 = refl
tone_number T3 = refl
tone_number T4 = refl
tone_number T5 = refl
tone_number T6 = refl
tone_number T7 = refl
tone_number T8 = refl
tone_number T9 = refl
tone_number T10 = refl
tone_number T11 = refl
tone_number T12 = refl
tone_number T13 = refl
tone_number T14 = refl
tone_number T15 = refl
tone_number T16 = refl
tone_number T17 = refl
tone_number T18 = refl
tone_number T19 = refl
tone_number T20 = refl
tone_number T21 = refl
tone_number T22 = refl
tone_number T23 = refl
tone_number T24 = refl
tone_number T25 = refl
tone_number T26 = refl
tone_number T27 = refl
tone_number T28 = refl
tone_number T29 = refl
tone_number T30 = refl

numbered : ℕ → Bool
numbered k = eqb (number_of (get_or tones k T0)) k

pub number_tone : (n : ℕ) → number_of (tone_of n) ≡ n % 31
unfolding numbered
number_tone n = eqb→eq (number_of (tone_of n)) (n % 31) (every_below numbered 31 tt (n % 31) (omega arith))

pub number_below : (x : Tone) → number_of x < 31
number_below x = let e : number_of x ≡ number_of x % 31 = ap number_of (sym (tone_number x)) ∙ number_tone (number_of x) in omega arith

pub number_apart : (x y : Tone) → number_of x ≡ number_of y → x ≡ y
number_apart x y e = sym (tone_number x) ∙ ap tone_of e ∙ tone_number y

-- one residue, one tone
tone_residue : (m n : ℕ) → m % 31 ≡ n % 31 → tone_of m ≡ tone_of n
tone_residue m n e = ap (λ k. get_or tones k T0) e

-- the residue of a product is that of the product of residues
mod_product : (m n : ℕ) → (m % 31 * n) % 31 ≡ (m * n) % 31
mod_product m n =
    let split : 31 * (m / 31) + m % 31 ≡ m = div-add-mod m 31 in
    let whole : m * n ≡ m % 31 * n + 31 * (m / 31 * n) =
    ap (λ k. k * n) (sym split) ∙ add-mul (31 * (m / 31)) (m % 31) n ∙ (omega (arith, mul_assoc 31 (m / 31) n)) in
    sym (ap (λ k. k % 31) whole ∙ add-mul-mod_self_left (m % 31 * n) 31 (m / 31 * n))

tone_product : (m n : ℕ) → tone_of (number_of (tone_of m) * n) ≡ tone_of (m * n)
tone_product m n = ap (λ k. tone_of (k * n)) (number_tone m) ∙ tone_residue (m % 31 * n) (m * n) (mod_product m n)

sum_assoc : (x y z : Tone) → tone_of (number_of (tone_of (number_of x + number_of y)) + number_of z) ≡ tone_of (number_of x + number_of (tone_of (number_of y + number_of z)))
sum_assoc x y z =
    tone_residue (number_of (tone_of (number_of x + number_of y)) + number_of z) (number_of x + number_of (tone_of (number_of y + number_of z)))
    (let p = number_tone (number_of x + number_of y) in let q = number_tone (number_of y + number_of z) in omega arith)

sum_negative : (x : Tone) → tone_of (number_of x + number_of (tone_of (31 - number_of x))) ≡ T0
sum_negative x =
    tone_residue (number_of x + number_of (tone_of (31 - number_of x))) 0
    (let p = number_tone (31 - number_of x) in let q = number_below x in omega arith)

product_assoc : (x y z : Tone) → tone_of (number_of (tone_of (number_of x * number_of y)) * number_of z) ≡ tone_of (number_of x * number_of (tone_of (number_of y * number_of z)))
product_assoc x y z =
    tone_product (number_of x * number_of y) (number_of z)
    ∙ ap tone_of (mul_assoc (number_of x) (number_of y) (number_of z) ∙ mul_comm (number_of x) (number_of y * number_of z))
    ∙ sym (tone_product (number_of y * number_of z) (number_of x))
    ∙ ap tone_of (mul_comm (number_of (tone_of (number_of y * number_of z))) (number_of x))

product_sum : (x y z : Tone) → tone_of (number_of x * number_of (tone_of (number_of y + number_of z))) ≡ tone_of (number_of (tone_of (number_of x * number_of y)) + number_of (tone_of (number_of x * number_of z)))
product_sum x y z =
    ap tone_of (mul_comm (number_of x) (number_of (tone_of (number_of y + number_of z))))
    ∙ tone_product (number_of y + number_of z) (number_of x)
    ∙ tone_residue ((number_of y + number_of z) * number_of x) (number_of (tone_of (number_of x * number_of y)) + number_of (tone_of (number_of x * number_of z)))
    (let p = number_tone (number_of x * number_of y) in
    let q = number_tone (number_of x * number_of z) in
    omega (arith, add-mul (number_of y) (number_of z) (number_of x), mul_comm (number_of x) (number_of y), mul_comm (number_of x) (number_of z)))

tone_laws : RingLaws tone_ops
tone_laws = record {
  sum_assoc = sum_assoc;
  sum_comm = λ x y. ap tone_of (add_comm (number_of x) (number_of y));
  sum_zero = λ x. ap tone_of (add-zero (number_of x)) ∙ tone_number x;
  sum_negative = sum_negative;
  product_assoc = product_assoc;
  product_comm = λ x y. ap tone_of (mul_comm (number_of x) (number_of y));
  product_one = λ x. ap tone_of (mul-one (number_of x)) ∙ tone_number x;
  product_sum = product_sum;
}

pub tone_field : FieldLaws tone_ops
tone_field = record { ring = tone_laws; zero_not_one = λ e. let z : ◌≡◌ {A = ℕ} 0 1 = ap number_of e in omega arith }

pub tone_numbering : Numbering tone_ops 31 number_of
tone_numbering = record {
  below = number_below;
  named = λ k h. (tone_of k, number_tone k ∙ (omega arith));
  apart = number_apart;
  zero_first = refl;
}

-- the table's rule, as a test
inverted : ℕ → Bool
inverted k = eqb (suc k * get_or inverses (suc k) 0 % 31) 1

inverse_right : (x : Tone) → (x ≡ T0 → ⊥) → tone_of (number_of x * get_or inverses (number_of x) 0) ≡ T1
unfolding inverted
inverse_right x nz = go (number_of x) refl
  where
    go : (k : ℕ) → number_of x ≡ k → tone_of (k * get_or inverses k 0) ≡ T1
    go zero e = absurd (nz (number_apart x T0 e))
    go (suc k) e = tone_residue (suc k * get_or inverses (suc k) 0) 1 (eqb→eq _ 1 (every_below inverted 30 tt k (let b = number_below x in omega arith)))

-- the tone of the table's entry is the inverse
pub inverse_tone : (x : Tone) → (x ≡ T0 → ⊥) → tone_of (number_of x * number_of (tone_of (get_or inverses (number_of x) 0))) ≡ T1
inverse_tone x nz =
    ap tone_of (mul_comm (number_of x) (number_of (tone_of (get_or inverses (number_of x) 0))))
    ∙ tone_product (get_or inverses (number_of x) 0) (number_of x)
    ∙ ap tone_of (mul_comm (get_or inverses (number_of x) 0) (number_of x))
    ∙ inverse_right x nz

pub tone_invertible : Invertible tone_ops
tone_invertible x nz = (tone_of (get_or inverses (number_of x) 0), inverse_tone x nz)

-- a quadratic has no root where a test of all 31 passes
pub no_root : (t c : Tone) → NoRootBelow tone_ops number_of tone_of 31 t c → Rootless tone_ops t c
no_root = rootless tone_ops number_of tone_of 31 tone_number number_below refl

-- the codes and the kind of pairs of tones fit their types
pub small : (31 ≤ 256) × (1 ≤ 253)
small = (omega arith, omega arith)

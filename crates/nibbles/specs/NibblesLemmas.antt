-- Nibbles are numbered, keep the laws of a ring, and have inverses. Assumes nothing.
-- The rule is tested against a table at all 256 pairs; the laws are then tested on the table.
use Rattle.std.specs.Prelude.{Bool, ◌≡◌, refl, ℕ, zero, suc, ◌%◌, ◌<◌, ◌≤◌, eqb, get_or}
use Rattle.std.proofs.Common.{sym, ap, ap₂, ◌∙◌, arith, eqb→eq}
use Rattle.std.specs.Int.Bits.{bit_xor, xor_assoc, xor_self, xor_zero_r}
use Rattle.std.proofs.lemmas.Nat.{xor_comm, xor_lt}
use Rattle.algebra.specs.Rings.{RingLaws, FieldLaws, Invertible, Numbering}
use Rattle.fields.specs.Quadratics.{Rootless}
use Rattle.fields.proofs.Roots.{NoRootBelow, rootless}
use Rattle.fields.proofs.Tests.{every_below, every_pair, every_triple}
use Rattle.nibbles.specs.Nibbles.{code_of, nibbles, nibble_of, carryless, reduced, nibble_ops}
use Rattle.nibbles.specs.Tables.{entry, inverses}
use Rattle.nibbles.specs.declared.Nibble.{Nibble}
use Rattle.nibbles.specs.declared.Nibble.TheVariants.{N0, N1, N2, N3, N4, N5, N6, N7, N8, N9, N10, N11, N12, N13, N14, N15}

pub nibble_code : (x : Nibble) → nibble_of (code_of x) ≡ x
nibble_code N0 = refl
nibble_code N1 = refl
nibble_code N2 = refl
nibble_code N3 = refl
nibble_code N4 = refl
nibble_code N5 = refl
nibble_code N6 = refl
nibble_code N7 = refl
nibble_code N8 = refl
nibble_code N9 = refl
nibble_code N10 = refl
nibble_code N11 = refl
nibble_code N12 = refl
nibble_code N13 = refl
nibble_code N14 = refl
nibble_code N15 = refl

numbered : ℕ → Bool
numbered k = eqb (code_of (get_or nibbles k N0)) k

pub code_nibble : (n : ℕ) → code_of (nibble_of n) ≡ n % 16
unfolding numbered
code_nibble n = eqb→eq (code_of (nibble_of n)) (n % 16) (every_below numbered 16 tt (n % 16) (omega arith))

pub code_below : (x : Nibble) → code_of x < 16
code_below x = let e : code_of x ≡ code_of x % 16 = ap code_of (sym (nibble_code x)) ∙ code_nibble (code_of x) in omega arith

pub code_apart : (x y : Nibble) → code_of x ≡ code_of y → x ≡ y
code_apart x y e = sym (nibble_code x) ∙ ap nibble_of e ∙ nibble_code y

ruled : ℕ → ℕ → Bool
ruled a b = eqb (code_of (nibble_of (reduced (carryless a b)))) (entry a b)

-- the rule gives the table's entry
pub code_product : (x y : Nibble) → code_of (nibble_ops.product x y) ≡ entry (code_of x) (code_of y)
unfolding ruled
code_product x y = eqb→eq _ (entry (code_of x) (code_of y)) (every_pair ruled 16 tt (code_of x) (code_of y) (code_below x) (code_below y))

code_sum : (x y : Nibble) → code_of (nibble_ops.sum x y) ≡ bit_xor (code_of x) (code_of y)
code_sum x y =
    let fits : bit_xor (code_of x) (code_of y) < 16 = xor_lt 4 (code_of x) (code_of y) (code_below x) (code_below y) in
    code_nibble (bit_xor (code_of x) (code_of y)) ∙ (omega arith)

sum_assoc : (x y z : Nibble) → nibble_ops.sum (nibble_ops.sum x y) z ≡ nibble_ops.sum x (nibble_ops.sum y z)
sum_assoc x y z =
    ap (λ k. nibble_of (bit_xor k (code_of z))) (code_sum x y)
    ∙ ap nibble_of (xor_assoc (code_of x) (code_of y) (code_of z))
    ∙ ap (λ k. nibble_of (bit_xor (code_of x) k)) (sym (code_sum y z))

assoc : ℕ → ℕ → ℕ → Bool
assoc a b c = eqb (entry (entry a b) c) (entry a (entry b c))

product_assoc : (x y z : Nibble) → nibble_ops.product (nibble_ops.product x y) z ≡ nibble_ops.product x (nibble_ops.product y z)
unfolding assoc
product_assoc x y z =
    code_apart (nibble_ops.product (nibble_ops.product x y) z) (nibble_ops.product x (nibble_ops.product y z))
    (code_product (nibble_ops.product x y) z
    ∙ ap (λ k. entry k (code_of z)) (code_product x y)
    ∙ eqb→eq _ (entry (code_of x) (entry (code_of y) (code_of z))) (every_triple assoc 16 tt (code_of x) (code_of y) (code_of z) (code_below x) (code_below y) (code_below z))
    ∙ ap (entry (code_of x)) (sym (code_product y z))
    ∙ sym (code_product x (nibble_ops.product y z)))

comm : ℕ → ℕ → Bool
comm a b = eqb (entry a b) (entry b a)

product_comm : (x y : Nibble) → nibble_ops.product x y ≡ nibble_ops.product y x
unfolding comm
product_comm x y =
    code_apart (nibble_ops.product x y) (nibble_ops.product y x)
    (code_product x y
    ∙ eqb→eq _ (entry (code_of y) (code_of x)) (every_pair comm 16 tt (code_of x) (code_of y) (code_below x) (code_below y))
    ∙ sym (code_product y x))

unit : ℕ → Bool
unit a = eqb (entry a 1) a

product_one : (x : Nibble) → nibble_ops.product x N1 ≡ x
unfolding unit
product_one x = code_apart (nibble_ops.product x N1) x (code_product x N1 ∙ eqb→eq _ (code_of x) (every_below unit 16 tt (code_of x) (code_below x)))

spread : ℕ → ℕ → ℕ → Bool
spread a b c = eqb (entry a (bit_xor b c)) (bit_xor (entry a b) (entry a c))

product_sum : (x y z : Nibble) → nibble_ops.product x (nibble_ops.sum y z) ≡ nibble_ops.sum (nibble_ops.product x y) (nibble_ops.product x z)
unfolding spread
product_sum x y z =
    code_apart (nibble_ops.product x (nibble_ops.sum y z)) (nibble_ops.sum (nibble_ops.product x y) (nibble_ops.product x z))
    (code_product x (nibble_ops.sum y z)
    ∙ ap (entry (code_of x)) (code_sum y z)
    ∙ eqb→eq _ (bit_xor (entry (code_of x) (code_of y)) (entry (code_of x) (code_of z))) (every_triple spread 16 tt (code_of x) (code_of y) (code_of z) (code_below x) (code_below y) (code_below z))
    ∙ ap₂ bit_xor (sym (code_product x y)) (sym (code_product x z))
    ∙ sym (code_sum (nibble_ops.product x y) (nibble_ops.product x z)))

nibble_laws : RingLaws nibble_ops
nibble_laws = record {
  sum_assoc = sum_assoc;
  sum_comm = λ x y. ap nibble_of (xor_comm (code_of x) (code_of y));
  sum_zero = λ x. ap nibble_of (xor_zero_r (code_of x)) ∙ nibble_code x;
  sum_negative = λ x. ap nibble_of (xor_self (code_of x));
  product_assoc = product_assoc;
  product_comm = product_comm;
  product_one = product_one;
  product_sum = product_sum;
}

pub nibble_field : FieldLaws nibble_ops
nibble_field = record { ring = nibble_laws; zero_not_one = λ e. let z : ◌≡◌ {A = ℕ} 0 1 = ap code_of e in omega arith }

pub nibble_numbering : Numbering nibble_ops 16 code_of
nibble_numbering = record {
  below = code_below;
  named = λ k h. (nibble_of k, code_nibble k ∙ (omega arith));
  apart = code_apart;
  zero_first = refl;
}

-- the nibble of the table's entry is the product
pub product_nibble : (x y : Nibble) → nibble_of (entry (code_of x) (code_of y)) ≡ nibble_ops.product x y
product_nibble x y = ap nibble_of (sym (code_product x y)) ∙ nibble_code (nibble_ops.product x y)

-- the table's rule, as a test
inverted : ℕ → Bool
inverted k = eqb (entry (suc k) (get_or inverses (suc k) 0 % 16)) 1

-- the nibble of the table's entry is the inverse
pub inverse_nibble : (x : Nibble) → (x ≡ N0 → ⊥) → nibble_ops.product x (nibble_of (get_or inverses (code_of x) 0)) ≡ N1
unfolding inverted
inverse_nibble x nz =
    code_apart (nibble_ops.product x (nibble_of (get_or inverses (code_of x) 0))) N1
    (code_product x (nibble_of (get_or inverses (code_of x) 0))
    ∙ ap (entry (code_of x)) (code_nibble (get_or inverses (code_of x) 0))
    ∙ go (code_of x) refl)
  where
    go : (k : ℕ) → code_of x ≡ k → entry k (get_or inverses k 0 % 16) ≡ 1
    go zero e = absurd (nz (code_apart x N0 e))
    go (suc k) e = eqb→eq _ 1 (every_below inverted 15 tt k (let b = code_below x in omega arith))

pub nibble_invertible : Invertible nibble_ops
nibble_invertible x nz = (nibble_of (get_or inverses (code_of x) 0), inverse_nibble x nz)

-- a quadratic has no root where a test of all 16 passes
pub no_root : (t c : Nibble) → NoRootBelow nibble_ops code_of nibble_of 16 t c → Rootless nibble_ops t c
no_root = rootless nibble_ops code_of nibble_of 16 nibble_code code_below refl

-- the codes and the kind of pairs of nibbles fit their types
pub small : (16 ≤ 256) × (2 ≤ 253)
small = (omega arith, omega arith)

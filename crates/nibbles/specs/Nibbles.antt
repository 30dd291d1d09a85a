-- The nibbles: polynomials of degree below 4 over the bits, each named by its code. The clauses of the crate cite it; it assumes nothing.
-- Bit k of a code, of weight 2^k, is the coefficient of x^k modulo 2.
use Rattle.std.specs.Prelude.{List, [], ◌∷◌, ℕ, ◌+◌, ◌*◌, ◌/◌, ◌%◌, ◌^◌, get_or}
use Rattle.std.specs.Int.Bits.{bit_xor}
use Rattle.algebra.specs.Rings.{RingOps}
use Rattle.nibbles.specs.declared.Nibble.{Nibble}
use Rattle.nibbles.specs.declared.Nibble.TheVariants.{N0, N1, N2, N3, N4, N5, N6, N7, N8, N9, N10, N11, N12, N13, N14, N15}

abbrev pub code_of : Nibble → ℕ
code_of N0 = 0
code_of N1 = 1
code_of N2 = 2
code_of N3 = 3
code_of N4 = 4
code_of N5 = 5
code_of N6 = 6
code_of N7 = 7
code_of N8 = 8
code_of N9 = 9
code_of N10 = 10
code_of N11 = 11
code_of N12 = 12
code_of N13 = 13
code_of N14 = 14
code_of N15 = 15

abbrev pub nibbles : List Nibble
nibbles = N0 ∷ N1 ∷ N2 ∷ N3 ∷ N4 ∷ N5 ∷ N6 ∷ N7 ∷ N8 ∷ N9 ∷ N10 ∷ N11 ∷ N12 ∷ N13 ∷ N14 ∷ N15 ∷ []

-- the nibble of a number's four low bits
abbrev pub nibble_of : ℕ → Nibble
nibble_of n = get_or nibbles (n % 16) N0

-- the coefficient of x^k
abbrev pub coefficient : ℕ → ℕ → ℕ
coefficient k n = n / 2 ^ k % 2

-- the product of two polynomials of degree below 4: the sum of m·x^k over the terms x^k of n
abbrev pub carryless : ℕ → ℕ → ℕ
carryless m n =
    bit_xor (bit_xor (coefficient 0 n * m) (coefficient 1 n * (m * 2)))
    (bit_xor (coefficient 2 n * (m * 4)) (coefficient 3 n * (m * 8)))

-- a term x^(k + 4) is taken away by adding x^k·(x^4 + x + 1), whose code is 19·2^k
abbrev pub without : ℕ → ℕ → ℕ
without k n = bit_xor n (coefficient (k + 4) n * (19 * 2 ^ k))

-- the remainder by x^4 + x + 1 of a polynomial of degree below 7
abbrev pub reduced : ℕ → ℕ
reduced n = without 0 (without 1 (without 2 n))

abbrev pub nibble_ops : RingOps Nibble
nibble_ops = record {
  zero = N0;
  one = N1;
  sum = λ x y. nibble_of (bit_xor (code_of x) (code_of y));
  negative = λ x. x;
  product = λ x y. nibble_of (reduced (carryless (code_of x) (code_of y)));
}

-- The tones: residues modulo 31, each named by its number. The clauses of the crate cite it; it assumes nothing.
use Rattle.std.specs.Prelude.{List, [], ◌∷◌, ℕ, ◌+◌, ◌-◌, ◌*◌, ◌%◌, get_or}
use Rattle.algebra.specs.Rings.{RingOps}
use Rattle.tones.specs.declared.Tone.{Tone}
use Rattle.tones.specs.declared.Tone.TheVariants.{T0, T1, T2, T3, T4, T5, T6, T7, T8, T9, T10, T11, T12, T13, T14, T15, T16, T17, T18, T19, T20, T21, T22, T23, T24, T25, T26, T27, T28, T29, T30}

abbrev pub number_of : Tone → ℕ
number_of T0 = 0
number_of T1 = 1
number_of T2 = 2
number_of T3 = 3
number_of T4 = 4
number_of T5 = 5
number_of T6 = 6
number_of T7 = 7
number_of T8 = 8
number_of T9 = 9
number_of T10 = 10
number_of T11 = 11
number_of T12 = 12
number_of T13 = 13
number_of T14 = 14
number_of T15 = 15
number_of T16 = 16
number_of T17 = 17
number_of T18 = 18
number_of T19 = 19
number_of T20 = 20
number_of T21 = 21
number_of T22 = 22
number_of T23 = 23
number_of T24 = 24
number_of T25 = 25
number_of T26 = 26
number_of T27 = 27
number_of T28 = 28
number_of T29 = 29
number_of T30 = 30

abbrev pub tones : List Tone
tones = T0 ∷ T1 ∷ T2 ∷ T3 ∷ T4 ∷ T5 ∷ T6 ∷ T7 ∷ T8 ∷ T9 ∷ T10 ∷ T11 ∷ T12 ∷ T13 ∷ T14 ∷ T15 ∷ T16 ∷ T17 ∷ T18 ∷ T19 ∷ T20 ∷ T21 ∷ T22 ∷ T23 ∷ T24 ∷ T25 ∷ T26 ∷ T27 ∷ T28 ∷ T29 ∷ T30 ∷ []

-- the tone of a number's residue
abbrev pub tone_of : ℕ → Tone
tone_of n = get_or tones (n % 31) T0

abbrev pub tone_ops : RingOps Tone
tone_ops = record {
  zero = T0;
  one = T1;
  sum = λ x y. tone_of (number_of x + number_of y);
  negative = λ x. tone_of (31 - number_of x);
  product = λ x y. tone_of (number_of x * number_of y);
}

-- the number of each residue's inverse, 0 for zero, which has none
abbrev pub inverses : List ℕ
inverses = 0 ∷ 1 ∷ 16 ∷ 21 ∷ 8 ∷ 25 ∷ 26 ∷ 9 ∷ 4 ∷ 7 ∷ 28 ∷ 17 ∷ 13 ∷ 12 ∷ 20 ∷ 29 ∷ 2 ∷ 11 ∷ 19 ∷ 18 ∷ 14 ∷ 3 ∷ 24 ∷ 27 ∷ 22 ∷ 5 ∷ 6 ∷ 23 ∷ 10 ∷ 15 ∷ 30 ∷ []

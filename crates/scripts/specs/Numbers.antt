-- Numbers in base ten. The clauses of `number` and `byte` cite it; it assumes nothing.
use Rattle.std.specs.Prelude.{◌≡◌, ℕ, ◌-◌, ◌^◌, ◌<◌, min, List}
use Rattle.std.specs.Str.Parse.{IsNumeral, digits_value}

-- the word is digits, at least one, and n is the number that they write, or the largest of 32 bits where that is less
abbrev pub Number : List ℕ → ℕ → Type 0
Number w n = IsNumeral 10 w × (n ≡ min (digits_value 10 w) (2 ^ 32 - 1))

-- a number that is a byte
abbrev pub Byte : List ℕ → ℕ → Type 0
Byte w n = Number w n × (n < 256)

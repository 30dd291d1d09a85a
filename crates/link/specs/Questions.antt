-- What the calls on the link ask. The clauses of `calls` cite it; it assumes nothing.
use Rattle.std.specs.Prelude.{ℕ, ◌+◌, ◌-◌, ◌*◌, ◌/◌, ◌&&◌, List, [], ◌∷◌, ◌==◌, nat_le}
use Rattle.fields.specs.Questions.{Question, asks}
use Rattle.design.specs.declared.fault.DesignFault.TheVariants.{TableLength}
use Rattle.link.specs.declared.fault.LinkFault.{LinkFault}
use Rattle.link.specs.declared.fault.LinkFault.TheVariants.{Design, Divisor, Length}

-- A call on a design of n generators, of degree d and divisor degree e, brings a table, a message of L symbols and a block. It asks: has
-- the table its exact length, is the divisor's degree zero, is L from 1 to 4,096 and the block n (L + d) long.
abbrev pub link_questions : (exact table n d e L long : ℕ) → List (Question LinkFault)
link_questions exact table n d e L long =
    asks (table == exact) (Design TableLength)
    ∷ asks (e == 0) Divisor
    ∷ asks (nat_le 1 L && nat_le L 4096 && long == n * (L + d)) Length
    ∷ []

-- the symbols of the message that a block of n streams and this length can hold
abbrev pub symbols_in : (n d long : ℕ) → ℕ
symbols_in n d long = long / n - d

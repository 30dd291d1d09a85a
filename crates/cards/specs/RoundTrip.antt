-- A card that is read back to the design that it was written from. The clauses of `write_card` cite it; it assumes nothing.
use Rattle.std.specs.Prelude.{◌≡◌, ℕ, ◌+◌, ◌*◌, ◌<◌, ◌≤◌, List}
use Rattle.algebra.specs.Rings.{RingOps}
use Rattle.tables.specs.Places.{at}
use Rattle.cards.specs.declared.fault.CardFault.{CardFault}
use Rattle.cards.specs.Reading.{Grants, Refuses}

-- Reading the card into a table of 136 is not refused; and whatever it grants has the same n and the same n generators, power by power, and
-- zero in the rows from n on.
pub record ReadsBack {F R : Type 0} (o : RingOps R) (member : F → R) (number : R → ℕ) (order kind n : ℕ) (table : List F) (card : List ℕ) : Type 0 where
  pub granted : (f : CardFault) → Refuses order kind card 136 f → ⊥
  pub count : (m : ℕ) (after : List F) → Grants o member number order kind card 136 m after → m ≡ n
  pub same : (m : ℕ) (after : List F) → Grants o member number order kind card 136 m after → (i k : ℕ) → i < n → k < 17 → at o member after (17 * i + k) ≡ at o member table (17 * i + k)
  pub others : (m : ℕ) (after : List F) → Grants o member number order kind card 136 m after → (i k : ℕ) → n ≤ i → k < 17 → at o member after (17 * i + k) ≡ o.zero

-- What stands in the tables when the places below q have been walked. The clauses of the walk cite it; it assumes nothing.
use Rattle.std.specs.Prelude.{Bool, List, ◌≡◌, ℕ, suc, ◌<◌, ◌≤◌, ◌+◌, ◌*◌}
use Rattle.algebra.specs.Rings.{RingOps}
use Rattle.algebra.specs.Places.{place_list}
use Rattle.algebra.specs.Scanning.{Scanned, AtPivots}
use Rattle.tables.specs.Places.{at}
use Rattle.elimination.specs.Steps.{column_at, entry_at, AreSteps, Reduces}
use Rattle.frames.specs.Rows.{column_in}
use Rattle.scan.specs.Columns.{mark_at}

-- check columns 1 .. b are written, and everything else is zero
pub record Written {F M : Type 0} (o : RingOps M) (member : F → M) (n d rank : ℕ) (P : ℕ → ℕ) (b : ℕ) (B : ℕ → ℕ) (E : ℕ → ℕ → M) (frame : List F) : Type 0 where
  pub check : (j : ℕ) → j < b → AtPivots o n d rank P (λ t. o.negative (E j t)) (λ q. q ≡ B j) (column_in o member frame (suc j))
  pub one : (j i k : ℕ) → j < b → i < n → k < suc d → n * k + i ≡ B j → column_in o member frame (suc j) i k ≡ o.one
  pub rest : (j i k : ℕ) → j < 8 → i < 8 → k < 17 → (0 < j → j ≤ b → i < n → ⊥) → at o member frame (136 * j + 17 * i + k) ≡ o.zero

-- The pivotal places found stand in places, their steps in steps and pivots. B and E are the basic places found and their multipliers;
-- found marks their classes, and frame has their check columns. `WalkedTo` says it of a walk, for the clauses.
pub record Walked {F M : Type 0} (o : RingOps M) (member : F → M) (n d rows : ℕ) (r : ℕ → ℕ → M) (q rank b : ℕ) (steps : List F) (pivots places : List ℕ) (found : List Bool) (frame : List F) : Type 0 where
  pub B : ℕ → ℕ
  pub E : ℕ → ℕ → M
  pub scanned : Scanned o n d r q rank (entry_at places) b B E (mark_at found)
  pub are : AreSteps o rows rank (column_at o member rows steps) (entry_at pivots)
  pub reduces : Reduces o rows rank (column_at o member rows steps) (entry_at pivots) (λ t. place_list o n r (entry_at places t))
  pub written : Written o member n d rank (entry_at places) b B E frame

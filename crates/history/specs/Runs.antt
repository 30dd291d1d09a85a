-- Runs of calls on one design, by any relation of one step. The clauses of `perform` cite it; it assumes nothing.
use Rattle.std.specs.Prelude.{List, [], ◌∷◌}

-- a list of calls, each on what the one before it left
pub data Performs {Q T S : Type 0} (step : Q → S → T → S → Type 0) : List Q → S → List T → S → Type 0 where
  done : {s : S} → Performs step [] s [] s
  next : {q : Q} {qs : List Q} {r : T} {rs : List T} {s t u : S} → step q s r t → Performs step qs t rs u → Performs step (q ∷ qs) s (r ∷ rs) u

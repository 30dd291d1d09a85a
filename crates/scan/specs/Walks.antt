-- A walk that came to a place, with its frame. The clauses of the walk cite it; it assumes nothing.
use Rattle.std.specs.Prelude.{ℕ, List}
use Rattle.frames.specs.Rows.{generator_in}
use Rattle.scan.specs.declared.walk.Walk.{Walk}
use Rattle.scan.specs.Walked.{Walked}

-- the walk's tables and the frame hold what they do when the places below q have been walked
abbrev pub WalkedTo : {F : Type 0} {f : _} → ℕ → Walk F f → List F → Type 0
WalkedTo {F} {f} q w frame =
    Walked f.ops f.member w.row.n w.row.d w.steps.rows (generator_in f.ops f.member w.row.entries.now)
    q w.steps.rank w.basics w.steps.factors.now w.steps.pivots.now w.places w.found frame

use Rattle.std.proofs.Common.{rules, tests, ◌≡◌, ℕ, ◌<◌, List, length, Option, Some, None, MatchOption, sym, ap, ◌∙◌, arith}
use Rattle.std.specs.Prelude.{◌≢◌}
use Rattle.std.specs.List.{AllWithin, HoldsAt, Contains}
use Rattle.std.proofs.lemmas.Iterator.{first_from_find, YieldsList-from_slice}
use Rattle.std.proofs.lemmas.Iterator.Consumers.{YieldsList-from_copied}
use Rattle.std.proofs.lemmas.Bool.Decides.{Decides-eqb}
use Rattle.std.proofs.lemmas.Slice.Eq.{slice_eq-Decides}
use Rattle.scripts.proofs.call.spelled_by.Goals as goal

-- the first of all values that a word spells, or none
first_spelled : {X : Type 0} (spelling : X → List ℕ) (w : List ℕ) (all : List X) (r : Option X) → ((x : X) → Contains all x) → MatchOption r (AllWithin (λ x. w ≢ spelling x) all 0 (length all)) (λ x. (w ≡ spelling x) × (i : ℕ) × (i < length all) × HoldsAt (λ y. y ≡ x) all i × AllWithin (λ x. w ≢ spelling x) all 0 i) → MatchOption r ((x : X) → w ≢ spelling x) (λ x. w ≡ spelling x)
first_spelled spelling w all None complete never = λ x e. let at = complete x in never at.0 x (omega arith) at.1 (e ∙ ap spelling (sym at.2))
first_spelled spelling w all (Some x) complete found = found.0

pub returns : goal.returns
returns g c =
    let w = c.args.word.now in
    let spelling = g.S.Spelled.spelling in
    first_spelled spelling w c.args.all.now c.find.result c.requires
    (first_from_find _ _ c.find.result (λ x. w ≡ spelling x) (λ x. w ≢ spelling x) c.find.ensures.ran (YieldsList-from_copied (YieldsList-from_slice c.args.all.now cc)) (λ x q k. search (rules, tests, slice_eq-Decides {A = ℕ} Decides-eqb)) (λ x q k. search (rules, tests, slice_eq-Decides {A = ℕ} Decides-eqb)))

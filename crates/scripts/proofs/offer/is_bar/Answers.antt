use Rattle.std.proofs.Common.{◌≡◌, ℕ, Decides, codes}
use Rattle.std.proofs.lemmas.Bool.Decides.{Decides-eqb, same_from_decides}
use Rattle.std.proofs.lemmas.Slice.Eq.{bytes_eq-Decides, slice_eq-Decides}
use Rattle.scripts.specs.Meaning.{bar}
use Rattle.scripts.proofs.offer.is_bar.Goals as goal

pub returns : goal.returns
returns c =
    let w = c.args.word.now in
    let same : Decides c.eq.result (w ≡ c.as_slice.result.now) = slice_eq-Decides {A = ℕ} Decides-eqb _ _ _ c.eq.ensures in
    same_from_decides c.eq.result (bar w) (rw c.as_slice.ensures at same) (bytes_eq-Decides w (codes "|"))

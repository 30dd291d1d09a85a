-- A block is clean when the sums of its check columns vanish at enough times. Main result: tells_clean.
use Rattle.std.proofs.Common.{◌≡◌, ℕ, suc, ◌+◌, ◌-◌, ◌*◌, ◌<◌, ◌≤◌, Bool, true, false, List, length, sym, refl, ap, ◌∙◌, arith}
use mathlib.Core.Path.{fun_ext}
use native.Mathlib.Decide.{dec_lt}
use Rattle.algebra.specs.Rings.{RingOps, RingLaws}
use Rattle.algebra.specs.Series.{dot, series, Below}
use Rattle.algebra.specs.Link.{Clean}
use Rattle.algebra.proofs.Bounds as B
use Rattle.tables.proofs.Parts.{poly_at_below}
use Rattle.framing.specs.Framing.{column_in}
use Rattle.link.specs.Blocks.{stream, Tells}
use Rattle.link.proofs.Streams.{stream_past, dot_streams}

module _ {F R : Type 0} (o : RingOps R) (L : RingLaws o) (member : F → R) (n : ℕ) (frame block : List F) where
  -- the sum of check column j
  abbrev sum : ℕ → ℕ → R
  sum j = dot (series o) n (stream o member n block) (column_in o member frame j)

  sum_below : (times j : ℕ) → length block ≡ n * times → Below o (times + 16) (sum j)
  sum_below times j e =
      B.below_total o L n (times + 16) (λ i. (series o).product (stream o member n block i) (column_in o member frame j i))
      (λ i h. B.below_product o L times 17 (times + 16) (stream o member n block i) (column_in o member frame j i) (omega arith) (λ t l. stream_past o member n times block i t e l) (poly_at_below o member frame (136 * j + 17 * i) 17))

  -- no check column's sum has s^t
  abbrev pub CleanAt : ℕ → Type 0
  CleanAt t = (j : ℕ) → 1 ≤ j → j < n → sum j t ≡ o.zero

  abbrev IsClean : Type 0
  IsClean = Clean o (n - 1) (column_in o member frame) (stream o member n block)

  pub tells_clean : (times : ℕ) (answer : Bool) → 2 ≤ n → length block ≡ n * times → Tells ((t : ℕ) → 0 ≤ t → t < times + 16 → CleanAt t) answer → Tells IsClean answer
  tells_clean times true low e zeros =
      λ j h. fun_ext (λ t.
      sym (dot_streams o member n n block (column_in o member frame (suc j)) t refl low)
      ∙ elim (dec_lt t (times + 16)) [ yes l ↦ zeros t (omega arith) l (suc j) (omega arith) (omega arith) | no l ↦ sum_below times (suc j) e t (omega arith) ])
  tells_clean times false low e some = λ clean. some (λ t _ _ j l h. at clean t j l h (j - 1) (omega arith))
    where
      at : IsClean → (t j : ℕ) → 1 ≤ j → j < n → (k : ℕ) → suc k ≡ j → sum j t ≡ o.zero
      at clean t j l h k e = ap (λ x. sum x t) (sym e) ∙ dot_streams o member n n block (column_in o member frame (suc k)) t refl low ∙ ap (λ (z : ℕ → R). z t) (clean k (omega arith))

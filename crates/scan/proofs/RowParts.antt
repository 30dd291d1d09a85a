-- The divided row as the last part of the work table.
use mathlib.Core.List.{List, ◌++◌}
use mathlib.Core.Path.{◌≡◌, sym, ap, ◌∙◌, fun_ext}
use Prim.Native.Nat.{◌+◌, ◌*◌}
use native.Mathlib.Omega.{arith}
use lib.ListN.{length}
use Rattle.algebra.specs.Rings.{RingOps}
use Rattle.frames.specs.Rows.{generator_in, quotient_in}
use Rattle.tables.specs.Places.{at, poly_at}
use Rattle.tables.proofs.Parts.{poly_at_in, poly_at_below, poly_at_is}
use Rattle.tables.proofs.Slices.{at_right}

module _ {F M : Type 0} (o : RingOps M) (member : F → M) where
  pub row_part : (work front row : List F) → work ≡ front ++ row → length front ≡ 4385 → quotient_in o member work ≡ generator_in o member row
  row_part work front row split long = fun_ext (λ i.
      poly_at_is o member work (4385 + 17 * i) 17 (poly_at o member row (17 * i) 17) (poly_at_below o member row (17 * i) 17)
      (λ k l.
      ap (λ xs. at o member xs (4385 + 17 * i + k)) split
      ∙ ap (at o member (front ++ row)) (let e : 4385 + 17 * i + k ≡ length front + (17 * i + k) = omega arith in e)
      ∙ at_right o member front row (17 * i + k)
      ∙ sym (poly_at_in o member row (17 * i) 17 k l)))

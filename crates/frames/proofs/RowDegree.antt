-- The highest degree of a row, from the degrees of its parts one after the other. Main result: highest_more.
use Rattle.std.proofs.Common.{◌≡◌, ℕ, ◌+◌, ◌*◌, ◌≤◌, max, List, length, Some, None, Option, refl, ap, ◌∙◌, subst, arith}
use Rattle.std.specs.List.{between}
use Rattle.std.proofs.lemmas.List.Edits.{length-between}
use Rattle.std.specs.Option.{unwrap_or}
use Rattle.std.specs.Ordering.{nat_cmp, ord_max}
use Rattle.algebra.specs.Rings.{RingOps, RingLaws}
use Rattle.tables.specs.Places.{at, poly_at}
use Rattle.tables.proofs.Slices.{range_is}
use Rattle.polynomials.specs.Polynomials.{DegreeOf}
use Rattle.frames.specs.Rows.{row_in, Highest}
use Rattle.frames.proofs.RowSteps.{highest_step}

greater : (a b : ℕ) → ord_max nat_cmp a b ≡ max a b
greater a b = grind arith

module _ {F R : Type 0} (o : RingOps R) (L : RingLaws o) (member : F → R) where
  degree_below : (width : ℕ) (p : ℕ → R) (found : Option ℕ) → DegreeOf o width p found → width ≤ 17 → unwrap_or found 0 ≤ 16
  degree_below width p None z few = omega arith
  degree_below width p (Some k) h few = omega (arith, h.0)

  -- one more part of the row, with its degree
  pub highest_more : (xs : List F) (i d r m : ℕ) (found : Option ℕ) → 17 * i + 17 ≤ length xs → Highest o i (row_in o member xs 0) d → d ≤ 16
      → DegreeOf o (length (between (17 * i) (17 * i + 17) xs)) (at o member (between (17 * i) (17 * i + 17) xs)) found
      → m ≡ unwrap_or found 0 → r ≡ ord_max nat_cmp d m → Highest o (i + 1) (row_in o member xs 0) r × (r ≤ 16)
  highest_more xs i d r m found room highest few degree m_is r_is =
      let part : at o member (between (17 * i) (17 * i + 17) xs) ≡ row_in o member xs 0 i =
      range_is o member xs (17 * i) (17 * i + 17) 17 refl ∙ ap (λ b. poly_at o member xs b 17) (let e : 17 * i ≡ 0 + 17 * i = omega arith in e) in
      let long : length (between (17 * i) (17 * i + 17) xs) ≤ 17 = omega (arith, length-between xs (17 * i) (17 * i + 17) room) in
      let larger : r ≡ max d (unwrap_or found 0) = r_is ∙ greater d m ∙ ap (max d) m_is in
      let here = subst (λ (p : ℕ → R). DegreeOf o (length (between (17 * i) (17 * i + 17) xs)) p found) part degree in (
        highest_step o L i d r (length (between (17 * i) (17 * i + 17) xs)) (row_in o member xs 0) found highest here larger,
        (let b = degree_below (length (between (17 * i) (17 * i + 17) xs)) (row_in o member xs 0 i) found here long in omega (arith, larger, b, few)),
      )

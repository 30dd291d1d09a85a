-- The divisor, behind a part of the work table that was lent. Main result: passed_behind.
use Rattle.std.proofs.Common.{◌≡◌, ℕ, ◌+◌, ◌-◌, List, ◌++◌, length, drop, sym, subst, ap, ◌∙◌, arith}
use native.Mathlib.Decide.{dec_lt}
use Rattle.algebra.specs.Rings.{RingOps}
use Rattle.algebra.specs.Series.{Degree}
use Rattle.algebra.specs.DegreeTest.{PassesTest}
use Rattle.frames.specs.Rows.{generator_in, gcd_in}
use Rattle.framing.specs.Framing.{column_in}
use Rattle.tables.specs.Places.{at, Kept}
use Rattle.tables.proofs.Parts.{poly_at_kept}
use Rattle.tables.proofs.Slices.{at_right, at_drop}
use Rattle.judging.specs.Offers.{RowOf, Passed}

module _ {F M : Type 0} (o : RingOps M) (member : F → M) (work part : List F) (size : length part ≡ 4368) where
  pub gcd_behind : gcd_in o member (part ++ drop 4368 work) ≡ gcd_in o member work
  gcd_behind = poly_at_kept o member work (part ++ drop 4368 work) 0 4368 4368 17 kept (λ k w v. omega arith)
    where
      kept : Kept o member 0 4368 work (part ++ drop 4368 work)
      kept k out = elim (dec_lt k 4368) [
        | yes l ↦ absurd (out (omega arith, omega arith))
        | no l ↦ ap (at o member (part ++ drop 4368 work)) (let e : k ≡ length part + (k - 4368) = omega arith in e)
            ∙ at_right o member part (drop 4368 work) (k - 4368)
            ∙ at_drop o member 4368 work (k - 4368)
            ∙ ap (at o member work) (let e : 4368 + (k - 4368) ≡ k = omega arith in e)
      ]

  pub passed_behind : (n : ℕ) (generators offered : List F) (d e : ℕ) → Passed o member n generators offered work d e → Passed o member n generators offered (part ++ drop 4368 work) d e
  passed_behind n generators offered d e passed = record {
    row_of = subst (λ (g : ℕ → M). RowOf o n (generator_in o member generators) g d) (sym gcd_behind) passed.row_of;
    divisor_degree = subst (λ (g : ℕ → M). Degree o g e) (sym gcd_behind) passed.divisor_degree;
    test = subst (λ (g : ℕ → M). PassesTest o (n - 1) (generator_in o member generators) g d (column_in o member offered)) (sym gcd_behind) passed.test;
    within = passed.within;
  }

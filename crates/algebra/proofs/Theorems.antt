-- The theorems up to the row divided by its gcd, put together from the lemmas. Those on frames, the test and the link end the files
-- OptimalFrames, TestExact and Link.
use mathlib.Core.Path.{refl}
use native.Mathlib.Omega.{arith}
use Rattle.algebra.specs.Rings.{RingOps, RingLaws, IsField}
use Rattle.algebra.specs.Series.{series, Polynomial}
use Rattle.algebra.specs.Independence.{All, Domain}
use Rattle.algebra.specs.Theorems.{SeriesRing, PolynomialDegrees, DivisionWithRemainder, GreatestCommonDivisor, Exchange, ExchangeOverField, RowDividedByGcd}
use Rattle.algebra.proofs.Series as S
use Rattle.algebra.proofs.Bounds as B
use Rattle.algebra.proofs.Degrees as D
use Rattle.algebra.proofs.Division as V
use Rattle.algebra.proofs.Gcd as G
use Rattle.algebra.proofs.Exchange as E
use Rattle.algebra.proofs.DividedRow as R
use Prim.Native.Nat.{suc, ◌+◌}

pub exchange_over_domain : {R : Type 0} (o : RingOps R) (L : RingLaws o) (P : R → Type 0) → Domain o P → Exchange o P
exchange_over_domain o L P D = record { solution = E.exchange o L P D; dependent = E.dependent_of_spanned o L P D; spanning = E.spanned_of_independent o L P D }

module _ {M : Type 0} (o : RingOps M) (F : IsField o) where
  abbrev L : RingLaws o
  L = F.laws.ring

  pub series_ring : SeriesRing o
  series_ring = record {
    laws = S.series_laws o L;
    coefficients = S.coefficient_is_sum o L;
    shifted = λ n j f. S.shift_at o L n (n + j) j f refl;
    shifted_low = S.shift_low o L;
    shifted_product = S.shift_product o L;
  }

  pub polynomial_degrees : PolynomialDegrees o
  polynomial_degrees = record {
    sum_below = B.below_sum o L;
    product_below = λ e d f g. B.below_product o L (suc e) (suc d) (suc (e + d)) f g (omega arith);
    shift_below = λ n N f. B.below_shift o L n N (n + N) f (omega arith);
    leading_product = B.leading_product o L;
    degree_product = D.degree_product o F;
    degree_unique = D.degree_unique o F;
    zero_or_degree = D.zero_or_degree o F;
    zero_of_product = D.zero_of_product o F;
    product_cancel = D.product_cancel o F;
  }

  pub division_with_remainder : DivisionWithRemainder o
  division_with_remainder = record { exists = λ f b e d p. V.divide o F p.0 f b e d p.1; unique = V.division_unique o F }

  pub greatest_common_divisor : GreatestCommonDivisor o
  greatest_common_divisor = record { exists = G.gcd_exists o F; unique = G.gcd_unique o F; combination = G.gcd_combination o F }

  pub exchange_over_field : ExchangeOverField o
  exchange_over_field = record {
    members = exchange_over_domain o L All (E.domain_of_field o F);
    polynomials = exchange_over_domain (series o) (S.series_laws o L) (Polynomial o) (E.domain_of_polynomials o F);
    same_span = E.spanned_of_independent_members o F;
  }

  pub row_divided_by_gcd : RowDividedByGcd o
  row_divided_by_gcd = record {
    exists = R.divided_row_exists o F;
    combination = R.one_is_combination o F;
    same_syzygies = R.same_syzygies o F;
    degree = λ n a g r p d. R.vector_degree_exists o F n r d.polynomials (R.one_is_combination o F n a g r p d);
    small_combination = λ n a g r d p q v. R.small_combination o F n d r q.polynomials (R.one_is_combination o F n a g r p q) v;
  }

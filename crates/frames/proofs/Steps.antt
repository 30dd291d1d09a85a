-- The steps of Euclid's algorithm. Main results: euclid_turn (one step of Euclid's algorithm), gcd_at_end.
use Rattle.std.proofs.Common.{◌≡◌, ℕ, suc, ◌+◌, sym, refl, ◌∙◌, subst, arith}
use Rattle.algebra.specs.Rings.{RingOps, RingLaws, IsField}
use Rattle.algebra.specs.Series.{series, Below, Degree}
use Rattle.algebra.specs.Divisors.{Divides}
use Rattle.algebra.proofs.Bounds as B
use Rattle.algebra.proofs.Series as S
use Rattle.algebra.proofs.Sums as Sums
use Rattle.polynomials.specs.Polynomials.{LeavesRemainder}
use Rattle.frames.specs.Common.{SameCommon, GcdOfPair}
use Rattle.frames.proofs.Common as C

pub same_common_cong : {R : Type 0} (o : RingOps R) (f g p q f' g' p' q' : ℕ → R) → f ≡ f' → g ≡ g' → p ≡ p' → q ≡ q' → SameCommon o f' g' p' q' → SameCommon o f g p q
same_common_cong {R} o f g p q f' g' p' q' ef eg ep eq s =
    subst (λ (t : ℕ → R). SameCommon o t g p q) (sym ef)
    (subst (λ (t : ℕ → R). SameCommon o f' t p q) (sym eg)
    (subst (λ (t : ℕ → R). SameCommon o f' g' t q) (sym ep)
    (subst (λ (t : ℕ → R). SameCommon o f' g' p' t) (sym eq) s)))

pub same_common_trans : {R : Type 0} (o : RingOps R) (f g p q r s : ℕ → R) → SameCommon o f g p q → SameCommon o p q r s → SameCommon o f g r s
same_common_trans o f g p q r s a b h = (λ x. (a h).0 ((b h).0 x), λ x. (b h).1 ((a h).1 x))

-- with zero beside it, what is left is the greatest common divisor
pub gcd_at_end : {R : Type 0} (o : RingOps R) → RingLaws o → (f g p q : ℕ → R) → q ≡ (series o).zero → SameCommon o f g p q → GcdOfPair o f g p
gcd_at_end o L f g p q z s h = (
  λ d. (s h).0 (d, subst (Divides o h) (sym z) (record { quotient = (series o).zero; polynomial = B.polynomial_zero o L; is = Sums.product_zero (series o) (S.series_laws o L) h })),
  λ d. ((s h).1 d).0,
)

-- the right polynomial g, of degree e, goes to the left, and what it leaves of f to the right
pub euclid_turn : {R : Type 0} (o : RingOps R) (field : IsField o) (e : ℕ) (f g r p q : ℕ → R)
    → Degree o g e → LeavesRemainder o e f g r → p ≡ g → q ≡ r
    → SameCommon o f g p q × Below o (e + 1) p × Below o e q
euclid_turn o field e f g r p q degree rem p_is q_is = (
  same_common_cong o f g p q f g g r refl refl p_is q_is (C.same_common_step o field f g r e rem.0 rem.1),
  subst (Below o (e + 1)) (sym p_is) (B.below_mono o field.laws.ring (suc e) (e + 1) g (omega arith) degree.below),
  subst (Below o e) (rem.1 ∙ sym q_is) rem.0.small,
)

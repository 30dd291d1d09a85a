-- Pivotal places of any lists of width w over a field: those whose list is no combination of the lists before it. Main results: pivotal_span
-- (a combination of lists is a combination of pivotal ones), pivotal_unique (in one way only).
use mathlib.Core.Path.{◌≡◌, refl, sym, ap, ap₂, ◌∙◌, subst}
use mathlib.Core.Logic.{inl, inr}
use mathlib.Core.List.{[], ◌∷◌}
use Prim.Native.Nat.{ℕ, zero, suc, ◌<◌}
use native.Mathlib.Nat.{le_of_suc-le-suc, not-suc-le-zero, le_refl, eq-or-lt_of_le}
use native.Mathlib.Omega.{arith}
use Rattle.algebra.specs.Rings.{RingOps, RingLaws, IsField}
use Rattle.algebra.specs.Series.{total}
use Rattle.algebra.specs.Independence.{All, Domain, Spanned}
use Rattle.algebra.proofs.Rows.{slot, slot_at, slot_low}
use Rattle.algebra.proofs.Sums as Sums
use Rattle.algebra.proofs.Solver.{solve, var, 𝟏, ◌⊞◌, ◌⊠◌, neg}
use Rattle.algebra.proofs.Exchange as E
use Rattle.algebra.proofs.Spans as Spans

-- y is a combination of the lists at the pivotal places below Q
pub record PivotalSpan {M : Type 0} (o : RingOps M) (w : ℕ) (l : ℕ → ℕ → M) (Q : ℕ) (y : ℕ → M) : Type 0 where
  pub factor : ℕ → M
  pub off : (q : ℕ) → q < Q → Spanned o All q w l (l q) → factor q ≡ o.zero
  pub is : (k : ℕ) → k < w → y k ≡ total o Q (λ q. o.product (factor q) (l q k))

module _ {M : Type 0} (o : RingOps M) (F : IsField o) where
  abbrev L : RingLaws o
  L = F.laws.ring

  abbrev members : Domain o All
  members = E.domain_of_field o F

  open o use {zero as O, one as I, sum as ◌+◌, negative as -◌, product as ◌·◌}

  infixl 60 ◌+◌
  infixl 70 ◌·◌
  infix 80 -◌
  pub total_slot_last : (Q : ℕ) (v : M) (x l : ℕ → M) → total o (suc Q) (λ q. slot Q v x q · l q) ≡ total o Q (λ q. x q · l q) + v · l Q
  total_slot_last Q v x l =
      Sums.total_last o L Q (λ q. slot Q v x q · l q)
      ∙ ap₂ ◌+◌ (Sums.total_ext o L Q (λ q. slot Q v x q · l q) (λ q. x q · l q) (λ q b. ap (λ t. t · l q) (slot_low Q v x q b))) (ap (λ t. t · l Q) (slot_at Q v x))

  module _ (w : ℕ) (l : ℕ → ℕ → M) where
    extend : (Q : ℕ) (y z : ℕ → M) (v : M) → ((k : ℕ) → k < w → z k ≡ y k + v · l Q k)
        → (Spanned o All Q w l (l Q) → v ≡ O) → PivotalSpan o w l Q y → PivotalSpan o w l (suc Q) z
    extend Q y z v e n s = record {
      factor = slot Q v s.factor;
      off = λ q h p. elim (eq-or-lt_of_le (le_of_suc-le-suc h)) [
        | inl same ↦ ap (slot Q v s.factor) same ∙ slot_at Q v s.factor ∙ n (subst (λ t. Spanned o All t w l (l t)) same p)
        | inr less ↦ slot_low Q v s.factor q less ∙ s.off q less p
      ];
      is = λ k b. e k b ∙ ap (λ t. t + v · l Q k) (s.is k b) ∙ sym (total_slot_last Q v s.factor (λ q. l q k));
    }

    pub pivotal_span : (Q : ℕ) (y : ℕ → M) → Spanned o All Q w l y → PivotalSpan o w l Q y
    pivotal_span zero y s = record { factor = λ q. O; off = λ q h p. refl; is = s.is }
    pivotal_span (suc Q) y s = go (Spans.spanned_decides o F w Q l (l Q)) (pivotal_span Q)
      where
        f : ℕ → M
        f = s.factor

        before : ℕ → M
        before k = total o Q (λ q. f q · l q k)

        before_spanned : Spanned o All Q w l before
        before_spanned = record { factor = f; inside = λ j b. tt; is = λ k b. refl }

        split : (k : ℕ) → k < w → y k ≡ before k + f Q · l Q k
        split k b = s.is k b ∙ Sums.total_last o L Q (λ q. f q · l q k)

        go : Dec (Spanned o All Q w l (l Q)) → ((z : ℕ → M) → Spanned o All Q w l z → PivotalSpan o w l Q z) → PivotalSpan o w l (suc Q) y
        go (yes c) rest =
            extend Q y y O (λ k b. sym (ap (λ t. y k + t) (Sums.zero_product o L (l Q k)) ∙ L.sum_zero (y k))) (λ p. refl)
            (rest y (Spans.spanned_ext o L All members Q w l (λ k. before k + f Q · l Q k) y (λ k b. sym (split k b)) (Spans.spanned_sum o L All members Q w l before (λ k. f Q · l Q k) before_spanned (Spans.spanned_scale o L All members Q w l (f Q) (l Q) tt c))))
        go (no n) rest = extend Q before y (f Q) split (λ p. absurd (n p)) (rest before before_spanned)

    -- of lists that sum to zero with x Q not zero, that at Q is a combination of the others
    pub spanned_of_relation : (Q : ℕ) (x : ℕ → M) → ((k : ℕ) → k < w → total o (suc Q) (λ q. x q · l q k) ≡ O)
        → (x Q ≡ O → ⊥) → Spanned o All Q w l (l Q)
    spanned_of_relation Q x e n =
        let c = F.inverts (x Q) n in
        record { factor = λ q. - (c.0 · x q); inside = λ j b. tt; is = λ k b. at c.0 c.1 k b }
      where
        at : (c : M) → x Q · c ≡ I → (k : ℕ) → k < w → l Q k ≡ total o Q (λ q. (- (c · x q)) · l q k)
        at c i k b =
            Sums.equal_of_difference o L (l Q k) (total o Q (λ q. (- (c · x q)) · l q k))
            (ap (λ t. l Q k + (- t)) (Sums.total_ext o L Q (λ q. (- (c · x q)) · l q k) (λ q. (- c) · (x q · l q k)) (λ q h. solve o L (c ∷ x q ∷ l q k ∷ []) (neg (var 0 ⊠ var 1) ⊠ var 2) (neg (var 0) ⊠ (var 1 ⊠ var 2)) refl) ∙ Sums.total_scale o L Q (- c) (λ q. x q · l q k))
            ∙ solve o L (l Q k ∷ c ∷ total o Q (λ q. x q · l q k) ∷ []) (var 0 ⊞ neg (neg (var 1) ⊠ var 2)) (𝟏 ⊠ var 0 ⊞ var 1 ⊠ var 2) refl
            ∙ ap (λ t. t · l Q k + c · total o Q (λ q. x q · l q k)) (sym i)
            ∙ solve o L (l Q k ∷ c ∷ total o Q (λ q. x q · l q k) ∷ x Q ∷ []) (var 3 ⊠ var 1 ⊠ var 0 ⊞ var 1 ⊠ var 2) (var 1 ⊠ (var 2 ⊞ var 3 ⊠ var 0)) refl
            ∙ ap (λ t. c · t) (sym (Sums.total_last o L Q (λ q. x q · l q k)) ∙ e k b)
            ∙ Sums.product_zero o L c)

    pub pivotal_unique : (Q : ℕ) (x : ℕ → M) → ((q : ℕ) → q < Q → Spanned o All q w l (l q) → x q ≡ O)
        → ((k : ℕ) → k < w → total o Q (λ q. x q · l q k) ≡ O) → (q : ℕ) → q < Q → x q ≡ O
    pivotal_unique zero x off e = λ q h. absurd (not-suc-le-zero h)
    pivotal_unique (suc Q) x off e = go (F.decides (x Q) O) (pivotal_unique Q x (λ q h. off q (omega arith)))
      where
        go : Dec (x Q ≡ O) → (((k : ℕ) → k < w → total o Q (λ q. x q · l q k) ≡ O) → (q : ℕ) → q < Q → x q ≡ O) → (q : ℕ) → q < suc Q → x q ≡ O
        go (no n) rest q h = absurd (n (off Q (le_refl (suc Q)) (spanned_of_relation Q x e n)))
        go (yes z) rest q h = elim (eq-or-lt_of_le (le_of_suc-le-suc h)) [
          | inl same ↦ ap x same ∙ z
          | inr less ↦ rest (λ k b. sym (L.sum_zero (total o Q (λ q. x q · l q k))) ∙ ap (λ t. total o Q (λ q. x q · l q k) + t) (sym (ap (λ t. t · l Q k) z ∙ Sums.zero_product o L (l Q k))) ∙ sym (Sums.total_last o L Q (λ q. x q · l q k)) ∙ e k b) q less
        ]

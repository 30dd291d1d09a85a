-- Pairs are numbered: the low digit is the low part's number, the high digit the high part's. Assumes nothing.
use Rattle.std.specs.Prelude.{◌≡◌, ℕ, zero, suc, ◌+◌, ◌*◌, ◌/◌, ◌%◌, ◌<◌, ◌≤◌}
use Rattle.std.proofs.Common.{sym, ap, ap₂, ◌∙◌, mul-suc, mul-le-mul_left, mul-le-mul, mod-lt, mod-eq_of_lt, div-lt_iff_lt-mul, le-div_iff_mul-le, zero-add, arith}
use Rattle.std.proofs.Math.Decide.{ℕ_discrete}
use Rattle.std.proofs.Math.Nat.{div-add-mod, div-eq_of_lt, add-mul-div_left, add-mul-mod_self_left}
use Rattle.algebra.specs.Rings.{RingOps, Numbering}
use Rattle.pairs.specs.Pairs.{pair, pair_ops, pair_number}

-- two digits to the base n
pub digits_below : (n u v : ℕ) → u < n → v < n → u + n * v < n * n
digits_below n u v hu hv = let p : n * suc v ≤ n * n = mul-le-mul_left n hv in omega (arith, mul-suc n v)

pub low_digit : (n u v : ℕ) → u < n → (u + n * v) % n ≡ u
low_digit n u v h = add-mul-mod_self_left u n v ∙ mod-eq_of_lt h

pub high_digit : (n u v : ℕ) → u < n → (u + n * v) / n ≡ v
high_digit n u v h = add-mul-div_left u v (let p : zero < n = omega arith in p) ∙ ap (λ k. k + v) (div-eq_of_lt h) ∙ zero-add v

pub high_below : (n k : ℕ) → zero < n → k < n * n → k / n < n
high_below n k p h = (div-lt_iff_lt-mul p).1 h

pub high_past : (n k : ℕ) → zero < n → n ≤ k / n → n * n ≤ k
high_past n k p h = (le-div_iff_mul-le p).0 h

digits : (n k : ℕ) → k % n + n * (k / n) ≡ k
digits n k = omega (arith, div-add-mod k n)

-- a number whose two digits to the base n are u and v
pub two_digits : (n s k u v : ℕ) → s ≡ n → k % s < n → u ≡ k % s → k / s < n → v ≡ k / s → (k < n * n) × (u + n * v ≡ k)
two_digits n s k u v e lu is_u lv is_v =
    let back : u + n * v ≡ k = ap₂ (λ (a b : ℕ). a + n * b) is_u is_v ∙ ap (λ (m : ℕ). k % m + n * (k / m)) e ∙ digits n k in
    let below = digits_below n u v (omega arith) (omega arith) in
    (omega arith, back)

pub square_below : (n m : ℕ) → n ≤ m → n * n ≤ m * m
square_below n m h = mul-le-mul h h

module _ {M : Type 0} {o : RingOps M} {order : ℕ} {number : M → ℕ} (N : Numbering o order number) where
  positive : zero < order
  positive = let b = N.below o.zero in omega arith

  pub decide_zero : (x : M) → Dec (x ≡ o.zero)
  decide_zero x = go (ℕ_discrete (number x) 0)
    where
      go : Dec (number x ≡ 0) → Dec (x ≡ o.zero)
      go (yes e) = yes (N.apart x o.zero (e ∙ sym N.zero_first))
      go (no d) = no (λ e. d (ap number e ∙ N.zero_first))

  pub pair_numbering : (t c : M) → Numbering (pair_ops o t c) (order * order) (pair_number order number)
  pair_numbering t c = record {
    below = λ x. digits_below order (number x.low) (number x.high) (N.below x.low) (N.below x.high);
    named = λ k h.
        let u = N.named (k % order) (mod-lt k positive) in
        let v = N.named (k / order) (high_below order k positive h) in
        (pair u.0 v.0, ap₂ (λ (a b : ℕ). a + order * b) u.1 v.1 ∙ digits order k);
    apart = λ x y e.
        ap₂ pair
        (N.apart x.low y.low (sym (low_digit order (number x.low) (number x.high) (N.below x.low)) ∙ ap (λ (k : ℕ). k % order) e ∙ low_digit order (number y.low) (number y.high) (N.below y.low)))
        (N.apart x.high y.high (sym (high_digit order (number x.low) (number x.high) (N.below x.low)) ∙ ap (λ (k : ℕ). k / order) e ∙ high_digit order (number y.low) (number y.high) (N.below y.low)));
    zero_first = ap (λ (k : ℕ). k + order * k) N.zero_first ∙ (omega arith);
  }

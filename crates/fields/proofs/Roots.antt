-- A quadratic over numbered members has no root where a test of all numbers passes. Assumes nothing.
use Rattle.std.proofs.Common.{◌≡◌, ℕ, ◌<◌, T, ap, ◌∙◌, ltb, ltb→lt, arith}
use Rattle.algebra.specs.Rings.{RingOps}
use Rattle.fields.specs.Quadratics.{quadratic, Rootless}
use Rattle.fields.proofs.Tests.{every, every_below}

module _ {M : Type 0} (o : RingOps M) (number : M → ℕ) (named : ℕ → M) where
  -- the quadratic's value at each member numbered below n has a number that is not 0
  abbrev pub NoRootBelow : ℕ → M → M → Type 0
  NoRootBelow n t c = T (every (λ k. ltb 0 (number (quadratic o t c (named k)))) n)

  pub rootless : (n : ℕ) → ((x : M) → named (number x) ≡ x) → ((x : M) → number x < n) → number o.zero ≡ 0 → (t c : M) → NoRootBelow n t c → Rootless o t c
  rootless n back below zero_first t c test z e =
      let positive = ltb→lt 0 _ (every_below (λ k. ltb 0 (number (quadratic o t c (named k)))) n test (number z) (below z)) in
      let none : number (quadratic o t c (named (number z))) ≡ 0 = ap (λ x. number (quadratic o t c x)) (back z) ∙ ap number e ∙ zero_first in
      omega arith

-- Whether a test passes at all numbers of a range, as `all` tells it. Main result: all_tells.
use Rattle.std.proofs.Common.{◌≡◌, ℕ, ◌+◌, ◌-◌, ◌<◌, ◌≤◌, Bool, true, false, List, length, Option, MatchOption, sym, ◌∙◌, subst, refl, arith}
use denote.Param.Members.{Mut}
use Rattle.std.specs.declared.ops.Range.{Range}
use Rattle.std.proofs.iter.Yields.{nat_range_steps}
use Rattle.std.proofs.lemmas.Iterator.{YieldsList-from_range, cases_from_all}
use Rattle.std.proofs.lemmas.List.FromFn.{length-range_with_len, get_or-range_with_len}
use Rattle.std.specs.Bool.{MatchBool}
use Rattle.std.specs.Fn.{Called}
use Rattle.std.specs.Iterator.{YieldsThen}
use Rattle.std.specs.List.{FoldsTo, AllWithin, HoldsAt, range_with_len}
use Rattle.link.specs.Blocks.{Tells}

tells_from_list : (Yes : ℕ → Type 0) (a b : ℕ) (r : Bool) → MatchBool r (AllWithin Yes (range_with_len a (b - a)) 0 (length (range_with_len a (b - a)))) ((k : ℕ) × (k < length (range_with_len a (b - a))) × HoldsAt (λ x. Yes x → ⊥) (range_with_len a (b - a)) k)
    → Tells ((k : ℕ) → a ≤ k → k < b → Yes k) r
tells_from_list Yes a b true each =
    λ k low high. subst Yes (get_or-range_with_len a (b - a) (k - a) 0 (omega arith) ∙ (let e : a + (k - a) ≡ k = omega arith in e)) (each (k - a) 0 (omega arith) (omega (arith, length-range_with_len a (b - a))))
tells_from_list Yes a b false some =
    λ each. some.2 0 (subst Yes (sym (get_or-range_with_len a (b - a) some.0 0 (omega (arith, length-range_with_len a (b - a), some.1)))) (each (a + some.0) (omega arith) (omega (arith, length-range_with_len a (b - a), some.1))))

pub all_tells : {F : Type 0} {g : Mut F (ℕ × Unit {0}) Bool} {s : Range ℕ} (a b : ℕ) (u : Range ℕ) (f : F) (r : Bool) (Yes : ℕ → Type 0) → s ≡ record { start = a; end = b }
    → (xs : List ℕ) × (o : Option ℕ) × (j : F) × YieldsThen nat_range_steps s xs o u × FoldsTo (λ p x q. Called g p (x, tt) true q) f xs j × MatchOption o (r ≡ true) (λ x. (r ≡ false) × ((h : F) × Called g j (x, tt) false h))
    → ((x : ℕ) (q : F) → Called g f (x, tt) true q → (q ≡ f) × Yes x) → ((x : ℕ) (q : F) → Called g f (x, tt) false q → Yes x → ⊥)
    → Tells ((k : ℕ) → a ≤ k → k < b → Yes k) r
all_tells a b u f r Yes is ran passes fails =
    tells_from_list Yes a b r (cases_from_all u f r Yes (λ x. Yes x → ⊥) ran (YieldsList-from_range a b (b - a) is refl) passes fails)

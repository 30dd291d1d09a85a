use Rattle.std.proofs.Common.{rules, ℕ, ◌-◌, ◌<◌, ◌≤◌, take, drop, subst, sym, arith}
use Rattle.std.proofs.lemmas.Iterator.{YieldsList-from_slice, IsFirst-from_position}
use Rattle.elimination.specs.Steps.{entry_at}
use Rattle.judging.specs.Columns.{check_degree, NoHigher}
use Rattle.judging.proofs.Ordered.{checks_listed, no_higher}
use Rattle.judging.proofs.degrees.Graded.count_no_higher.Goals as goal
use borrow.Author.Tests.{tests}

pub returns : goal.returns
returns g c =
    let graded = c.args.self.now in
    let first = entry_at graded.degrees 0 in
    let xs = take (graded.offer.now.n - 1) (drop 1 graded.degrees) in
    let found = IsFirst-from_position _ _ c.position.result (λ y. first < y) (λ y. y ≤ first) c.position.ensures.ran (YieldsList-from_slice xs cc) (λ x q k. search (rules, tests)) (λ x q k. search (rules, tests)) in
    subst (λ (k : ℕ). NoHigher (graded.offer.now.n - 1) first (check_degree graded.degrees) k) (sym c.unwrap_or.ensures)
    (no_higher xs (graded.offer.now.n - 1) (check_degree graded.degrees) (checks_listed graded.degrees graded.offer.now.n (omega arith) (omega arith)) first c.position.result found)

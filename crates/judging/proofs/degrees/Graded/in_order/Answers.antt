use Rattle.std.proofs.Common.{rules, ◌≡◌, ◌-◌, ◌<◌, ◌^◌, sum, take, drop, arith}
use Rattle.std.proofs.lemmas.Bool.Decides.{when_true, when_false}
use Rattle.std.proofs.lemmas.List.Sorted.{non_decreasing_from_is_sorted}
use Rattle.judging.specs.Columns.{check_degree}
use Rattle.judging.proofs.Ordered.{checks_listed, checks_small, in_order, out_of_order}
use Rattle.judging.proofs.degrees.Graded.in_order.Goals as goal

pub sum-requires-clause-fits : goal.sum-requires-clause-fits
sum-requires-clause-fits g c =
    let graded = c.args.self.now in
    let small : sum (take (graded.offer.now.n - 1) (drop 1 graded.degrees)) < 2 ^ 64 = checks_small graded.degrees graded.offer.now.n (omega arith) (omega arith) graded.bound (omega arith) in
    search rules

pub returns-then-is_sorted : goal.returns-then-is_sorted
returns-then-is_sorted g c =
    let graded = c.args.self.now in
    let xs = take (graded.offer.now.n - 1) (drop 1 graded.degrees) in
    let whole : c.sum.result ≡ sum xs = search rules in
    in_order xs (graded.offer.now.n - 1) (check_degree graded.degrees) (checks_listed graded.degrees graded.offer.now.n (omega arith) (omega arith)) c.sum.result c.args.d whole
    (when_true _ _ c.if-is_sorted.true (non_decreasing_from_is_sorted xs c.is_sorted.result c.is_sorted.ensures.cases))

pub returns-else-is_sorted : goal.returns-else-is_sorted
returns-else-is_sorted g c =
    let graded = c.args.self.now in
    let xs = take (graded.offer.now.n - 1) (drop 1 graded.degrees) in
    rw c.if-is_sorted.false
    (out_of_order xs (graded.offer.now.n - 1) (check_degree graded.degrees) (checks_listed graded.degrees graded.offer.now.n (omega arith) (omega arith)) c.args.d
    (when_false _ _ c.if-is_sorted.false (non_decreasing_from_is_sorted xs c.is_sorted.result c.is_sorted.ensures.cases)))

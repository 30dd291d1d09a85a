use Rattle.std.proofs.Common.{rules, ℕ, ◌≡◌, min, sum_by, arith}
use Rattle.std.proofs.lemmas.Fn.{fold_over, slice_gives, fronts}
use Rattle.std.proofs.lemmas.List.Sums.{sum_by_push}
use Rattle.test_support.proofs.elements.sum_of_codes.Goals as goal

pub returns : goal.returns
returns g c =
    let code : g.row.F.Denot → ℕ = λ x. g.F.Field.number (g.F.Field.member x) in
    let sum = fold_over fronts (λ y. y.now) _ (λ ys n. n ≡ min (sum_by code ys) 18446744073709551615) _ (λ ys a x b f' j k. let more = sum_by_push code ys x.now in search rules)
    _ _ _ _ (slice_gives c.iter.result) (omega arith) c.fold.ensures.ran in
    search rules

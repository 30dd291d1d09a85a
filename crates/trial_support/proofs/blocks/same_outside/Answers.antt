use Rattle.std.proofs.Common.{◌≡◌, ◌≢◌, ◌<◌, ◌≤◌, ℕ, rules, arith}
use Rattle.std.specs.List.{enumerate_from, zip}
use Rattle.std.proofs.lemmas.Iterator.{cases_from_all, YieldsList-from_slice, YieldsList-from_zip}
use Rattle.std.proofs.lemmas.Iterator.Consumers.{YieldsList-from_enumerate}
use Rattle.std.proofs.lemmas.Iterator.Search.{true_from_All}
use borrow.Author.Tests.{tests}
use Rattle.trial_support.proofs.blocks.same_outside.Goals as goal

pub returns-clause-outside : goal.returns-clause-outside
returns-clause-outside g c =
    let code : g.row.F.Denot → ℕ = λ x. g.F.Field.number (g.F.Field.member x) in
    let Alike : ℕ × (g.row.F.Denot × g.row.F.Denot) → Type 0 = λ at. (c.args.from ≤ at.0 → c.args.to < at.0) → code at.1.0 ≡ code at.1.1 in
    let Other : ℕ × (g.row.F.Denot × g.row.F.Denot) → Type 0 = λ at. (c.args.from ≤ at.0 → c.args.to < at.0) × (code at.1.0 ≢ code at.1.1) in
    let pairs = YieldsList-from_enumerate (YieldsList-from_zip (YieldsList-from_slice c.args.left.now (cc)) (YieldsList-from_slice c.args.right.now (cc))) (cc) in
    let found = cases_from_all c.all.new.self _ c.all.result Alike Other c.all.ensures.ran pairs (λ x q k. search (rules, tests)) (λ x q k. search (rules, tests)) in
    (λ yes k d within. (rw yes at found) k d (omega arith) within, λ all. true_from_All Alike Other c.all.result (enumerate_from 0 (zip c.args.left.now c.args.right.now)) (λ x yes no. no.1 (yes no.0)) found all)

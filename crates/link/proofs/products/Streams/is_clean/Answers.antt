use Rattle.std.proofs.Common.{◌+◌, refl, rules}
use borrow.Author.Tests.{tests}
use Rattle.link.proofs.Cleanness.{CleanAt, tells_clean}
use Rattle.link.proofs.Ranges.{all_tells}
use Rattle.link.proofs.products.Streams.is_clean.Goals as goal

pub returns : goal.returns
returns g c =
    let f = g.F.Field in
    let block = c.args.self.now in
    tells_clean f.ops g.met.F.Field.laws.ring f.member block.n c.args.frame.now block.symbols.now block.times c.all.result c.requires.block block.whole
    (all_tells 0 (block.times + 16) _ _ c.all.result (CleanAt f.ops g.met.F.Field.laws.ring f.member block.n c.args.frame.now block.symbols.now)
    refl c.all.ensures.ran (λ t q called. search (rules, tests)) (λ t q called. search (rules, tests)))

use Rattle.std.proofs.Common.{◌≡◌, refl, rules}
use borrow.Author.Tests.{tests}
use Rattle.algebra.specs.Series.{dot, series}
use Rattle.framing.specs.Framing.{column_in}
use Rattle.link.specs.Blocks.{stream}
use Rattle.link.proofs.Ranges.{all_tells}
use Rattle.link.proofs.products.Streams.clean_at.Goals as goal

pub returns : goal.returns
returns g c =
    let f = g.F.Field in
    all_tells 1 c.args.self.now.n _ _ c.all.result
    (λ j. dot (series f.ops) c.args.self.now.n (stream f.ops f.member c.args.self.now.n c.args.self.now.symbols.now) (column_in f.ops f.member c.args.frame.now j) c.args.t ≡ f.ops.zero)
    refl c.all.ensures.ran (λ j q called. search (rules, tests)) (λ j q called. search (rules, tests))

use Rattle.std.proofs.Common.{◌<◌, sym, refl, ap, ◌∙◌, subst, arith, rules}
use Rattle.std.specs.Slice.Iter.{chunks_exact_rest, chunks_exact_size}
use Rattle.link.proofs.Combinations.{summed_first, summed_within, summed_after, summed_all}
use Rattle.link.proofs.products.Streams.combination.Goals as goal

pub fold-requires-clause-callable : goal.fold-requires-clause-callable
fold-requires-clause-callable g c =
    let f = g.F.Field in
    let frame = c.args.frame.now in
    let made = c.enumerate.result in
    record {
      at = λ xs u q x v ys fs step.
          let so = summed_after f.ops g.met.F.Field.laws.ring f.member frame c.args.j _ (omega arith) _ (λ sum x q turned. search rules) xs made u _ q ys fs
          (summed_first f.ops g.met.F.Field.laws.ring f.member frame c.args.j _ (omega arith) made _ refl
          (ap chunks_exact_size c.enumerate.ensures.source ∙ c.chunks_exact.ensures.size) c.enumerate.ensures.count (ap chunks_exact_rest c.enumerate.ensures.source ∙ c.chunks_exact.ensures.rest) c.zero.ensures) in
          let within = summed_within f.ops g.met.F.Field.laws.ring f.member frame c.args.j _ (omega arith) u v q x so step in
          let lower : x.0 < q.0.0.now.n = subst (λ z. x.0 < z.0.now.n) (sym so.0) within in
          search rules;
    }

pub returns : goal.returns
returns g c =
    let f = g.F.Field in
    let frame = c.args.frame.now in
    let made = c.enumerate.result in
    let ran = c.fold.ensures.ran in
    let last = ran.2.1 in
    summed_all f.ops g.met.F.Field.laws.ring f.member frame c.args.j _ (omega arith) last.0 ran.2.0 (ran.1, c.fold.result)
    (summed_after f.ops g.met.F.Field.laws.ring f.member frame c.args.j _ (omega arith) _ (λ sum x q turned. search rules) ran.0 made last.0 _ (ran.1, c.fold.result) last.1 ran.3
    (summed_first f.ops g.met.F.Field.laws.ring f.member frame c.args.j _ (omega arith) made _ refl
    (ap chunks_exact_size c.enumerate.ensures.source ∙ c.chunks_exact.ensures.size) c.enumerate.ensures.count (ap chunks_exact_rest c.enumerate.ensures.source ∙ c.chunks_exact.ensures.rest) c.zero.ensures))
    last.2

use mathlib.Core.Path.{◌≡◌, ap, ◌∙◌}
use Prim.Native.Nat.{ℕ}
use lib.ListN.{length}
use Rattle.algebra.specs.Rings.{RingOps, RingLaws}
use Rattle.algebra.specs.Series.{scale}
use Rattle.algebra.proofs.Sums.{negative_product, one_product}
use Rattle.elimination.specs.Steps.{entry_at}
use Rattle.tables.specs.Places.{at}
use Rattle.scan.proofs.Cells.{check_at, at_places_of}
use Rattle.scan.proofs.columns.write_check.Goals as goal

negated : {M : Type 0} (o : RingOps M) → RingLaws o → (x : M) (f g : ℕ → M) → x ≡ o.negative o.one → g ≡ scale o x f → (t : ℕ) → g t ≡ o.negative (f t)
negated {M} o L x f g minus is t =
    ap (λ (h : ℕ → M). h t) is ∙ ap (λ y. o.product y (f t)) minus ∙ negative_product o L o.one (f t) ∙ ap o.negative (one_product o L (f t))

pub returns-clause-written : goal.returns-clause-written
returns-clause-written g c =
    let f = g.F.Field in
    let x : ℕ → f.Member = λ t. f.ops.negative (at f.ops f.member c.args.column.now t) in
    let P = entry_at c.args.places.now in
    let scaled = negated f.ops g.met.F.Field.laws.ring (f.member c.negate.result) (at f.ops f.member c.args.column.now) (at f.ops f.member c.scale.new.row) (c.negate.ensures ∙ ap f.ops.negative c.one.ensures) c.scale.ensures in
    check_at f.ops f.member c.args.row.now.n c.args.j P x (length c.args.places.now) c.args.q c.args.frame.now c.write_at.new.frame c.put_at.new.frame
    c.args.row.now.sized.0 c.args.row.now.sized.1.0 c.requires.room.0 c.requires.rising c.requires.before
    (at_places_of f.ops f.member c.args.row.now.n c.args.j P x (at f.ops f.member c.scale.new.row) (length c.args.places.now) c.args.frame.now c.write_at.new.frame (λ t l. scaled t) c.write_at.ensures.written)
    (c.put_at.ensures.here ∙ c.one-2.ensures) c.put_at.ensures.others

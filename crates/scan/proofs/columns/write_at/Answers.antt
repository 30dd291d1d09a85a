use mathlib.Core.Path.{◌≡◌, sym, subst, ◌∙◌}
use Prim.Native.Nat.{ℕ}
use native.Mathlib.Omega.{arith}
use lib.ListN.{length}
use Rattle.std.specs.List.{zip}
use Rattle.std.proofs.lemmas.Iterator.{YieldsList-from_slice, YieldsList-from_zip}
use Rattle.std.proofs.lemmas.Iterator.Consumers.{YieldsList-turn, YieldsList-end}
use Rattle.std.proofs.lemmas.List.{length_push}
use Rattle.std.proofs.lemmas.Slice.Zip.{length-zip}
use Rattle.elimination.specs.Steps.{entry_at}
use Rattle.tables.specs.Places.{at}
use Rattle.scan.specs.Columns.{AtPlaces}
use Rattle.scan.proofs.Cells.{at_places_more, places_behind, zipped_is}
use Rattle.scan.proofs.columns.write_at.Goals as goal

pub loop-q-preserved : goal.loop-q-preserved
loop-q-preserved g c =
    let f = g.F.Field in
    let row = c.args.row.now in
    let t = length c.loop-q.yielded in
    let P = entry_at c.args.places.now in
    let x = at f.ops f.member c.args.list.now in
    let after = c.put_at.new.frame in
    let chain = YieldsList-from_zip (YieldsList-from_slice c.args.places.now cc) (YieldsList-from_slice c.args.list.now cc) in
    let turn = YieldsList-turn chain c.loop-q.yielded _ c.loop-q.yielded_by c.next.result c.next.new.self (c.in-Some.q, c.in-Some.x) c.in-Some.is c.next.ensures.steps in
    let here = zipped_is f.ops f.member c.args.places.now c.args.list.now t (c.in-Some.q.now, c.in-Some.x.now) c.requires.room.0 turn in
    rw (length_push c.loop-q.yielded (c.in-Some.q, c.in-Some.x))
    (at_places_more f.ops f.member row.n c.args.j P x (length c.args.places.now) t c.args.frame.now c.loop-q.frame after row.sized.0 row.sized.1.0 here.0 c.requires.rising c.loop-q.invariant
    (rw (← here.1.0) c.put_at.ensures.here ∙ sym here.1.1)
    (rw (← here.1.0) c.put_at.ensures.others))

pub returns : goal.returns
returns g c =
    let f = g.F.Field in
    let row = c.args.row.now in
    let rank = length c.args.places.now in
    let zipped : length (zip c.args.places.now c.args.list.now) ≡ rank = omega (arith, length-zip c.args.places.now c.args.list.now) in
    let chain = YieldsList-from_zip (YieldsList-from_slice c.args.places.now cc) (YieldsList-from_slice c.args.list.now cc) in
    let end = YieldsList-end chain c.loop-q.yielded _ c.loop-q.yielded_by c.next.result c.next.new.self c.in-None.is c.next.ensures.steps in
    let all : length c.loop-q.yielded ≡ rank = end.1 ∙ zipped in
    let P = entry_at c.args.places.now in
    let x = at f.ops f.member c.args.list.now in
    let written = subst (λ (t : ℕ). AtPlaces f.ops f.member row.n c.args.j t P x c.args.frame.now c.loop-q.frame) all c.loop-q.invariant in
    record {
      written = written;
      behind = places_behind f.ops f.member row.n c.args.j P x rank c.args.frame.now c.loop-q.frame row.sized.0 row.sized.1.0 c.requires.column c.requires.rising written;
    }

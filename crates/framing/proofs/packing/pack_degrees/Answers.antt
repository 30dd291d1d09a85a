use Rattle.std.proofs.Common.{length, ◌*◌, ◌+◌, ◌≡◌, ◌≤◌, suc, ◌-◌, ◌%◌, ◌<◌, List, ap, ◌∙◌, subst, take, drop, length-drop, arith}
use Rattle.std.proofs.lemmas.List.{length_push}
use Rattle.std.specs.List.{between}
use Rattle.std.specs.Iterator.Adapters.{rev_source}
use Rattle.std.specs.Slice.Iter.{chunks_exact_rest, chunks_exact_size}
use Rattle.frames.specs.Rows.{Highest, column_in, row_in}
use Rattle.frames.proofs.RowSteps.{highest_range}
use Rattle.framing.specs.Framing.{DegreesFrom}
use Rattle.framing.proofs.Chunks.{some_chunk, last_chunk, chunk_place}
use Rattle.framing.proofs.ColumnDegrees.{highest_degree, degrees_none, degrees_more, packed_below, eight_bytes}
use Rattle.framing.proofs.packing.pack_degrees.Goals as goal

pub loop-column-init : goal.loop-column-init
loop-column-init g c =
    let f = g.F.Field in
    let n = c.args.n in
    let j = c.args.j in
    let frame = c.args.frame.now in
    let source = ap rev_source c.into_iter-column-iterator.ensures.into_iter_gives ∙ c.rev-column-items.ensures.source in
    record {
      few = omega arith;
      size = ap chunks_exact_size source ∙ c.chunks_exact-columns.ensures.size;
      left = ap chunks_exact_rest source ∙ c.chunks_exact-columns.ensures.rest ∙ ap (λ w. take w (drop (136 * j) frame)) (let w : 136 * n - 136 * j ≡ 136 * (n - j - 0) = omega arith in w);
      degrees = degrees_none f.ops f.member n frame (j + (n - j - 0)) (omega arith);
      bound = omega arith;
    }

pub overflow_mul-packed : goal.overflow_mul-packed
overflow_mul-packed g c =
    let y = length c.loop-column.yielded in
    let j = 136 * c.args.j in
    let steps = c.in-Some.ensures.steps in
    let some : 0 < c.args.n - c.args.j - y = some_chunk (drop j c.args.frame.now) (chunks_exact_rest (rev_source c.loop-column.column-iterator)) (c.args.n - c.args.j - y) c.loop-column.invariant.left (omega (arith, length-drop j c.args.frame.now))
    (chunks_exact_rest (rev_source c.next.new.self)) c.in-Some.column.now steps.2.0 steps.2.1 (steps.2.2 ∙ c.loop-column.invariant.size) in
    let below = packed_below y 0 c.loop-column.packed (omega arith) c.loop-column.invariant.bound in
    let most = eight_bytes (y + 1) (omega arith) in
    record { fits = omega arith }

pub overflow_add-packed : goal.overflow_add-packed
overflow_add-packed g c =
    let y = length c.loop-column.yielded in
    let j = 136 * c.args.j in
    let steps = c.in-Some.ensures.steps in
    let some : 0 < c.args.n - c.args.j - y = some_chunk (drop j c.args.frame.now) (chunks_exact_rest (rev_source c.loop-column.column-iterator)) (c.args.n - c.args.j - y) c.loop-column.invariant.left (omega (arith, length-drop j c.args.frame.now))
    (chunks_exact_rest (rev_source c.next.new.self)) c.in-Some.column.now steps.2.0 steps.2.1 (steps.2.2 ∙ c.loop-column.invariant.size) in
    let below = packed_below y c.row_degree.result c.loop-column.packed c.row_degree.ensures.bound c.loop-column.invariant.bound in
    let most = eight_bytes (y + 1) (omega arith) in
    record { fits = omega arith }

pub loop-column-preserved : goal.loop-column-preserved
loop-column-preserved g c =
    let f = g.F.Field in
    let n = c.args.n in
    let j = c.args.j in
    let frame = c.args.frame.now in
    let y = length c.loop-column.yielded in
    let m = n - j - y in
    let k = j + (n - j - (y + 1)) in
    let d = c.row_degree.result in
    let p = c.loop-column.packed in
    let inv = c.loop-column.invariant in
    let steps = c.in-Some.ensures.steps in
    let part = c.in-Some.column.now in
    let rest = chunks_exact_rest (rev_source c.loop-column.column-iterator) in
    let left = chunks_exact_rest (rev_source c.next.new.self) in
    let room : 136 * m ≤ length (drop (136 * j) frame) = omega (arith, length-drop (136 * j) frame) in
    let size = steps.2.2 ∙ inv.size in
    let some = some_chunk (drop (136 * j) frame) rest m inv.left room left part steps.2.0 steps.2.1 size in
    let last = last_chunk (drop (136 * j) frame) rest m inv.left room left part steps.2.0 steps.2.1 size (steps.2.3 ∙ ap (λ w. length rest % w) inv.size) in
    let less : m - 1 ≡ n - j - (y + 1) = omega arith in
    let within : k < n = omega arith in
    let place : part ≡ between (136 * k) (136 * k + 136) frame = last.1 ∙ chunk_place frame j (m - 1) k (omega arith) in
    let highest = subst (λ (xs : List _). Highest f.ops n (row_in f.ops f.member xs 0) d) place c.row_degree.ensures.value in
    rw (length_push c.loop-column.yielded c.in-Some.column)
    record {
      few = omega arith;
      size = steps.0 ∙ inv.size;
      left = last.0 ∙ ap (λ i. take (136 * i) (drop (136 * j) frame)) less;
      degrees = degrees_more f.ops f.member n frame k d p within
          (highest_degree f.ops n d (column_in f.ops f.member frame k) (highest_range f.ops f.member frame (136 * k) (136 * k + 136) n d (omega arith) highest) (c.requires.nonzero k within))
          (subst (λ i. DegreesFrom f.ops f.member n frame i p) (let e : j + m ≡ suc k = omega arith in e) inv.degrees);
      bound = packed_below y d p c.row_degree.ensures.bound inv.bound;
    }

use Rattle.std.proofs.Common.{◌≡◌, ◌+◌, ◌*◌, ◌≤◌, length, take}
use Rattle.std.specs.Iterator.Adapters.{enumerate_source, enumerate_count}
use Rattle.std.specs.Slice.Iter.{chunks_exact_rest, chunks_exact_size}
use Rattle.fields.specs.Elements.{code_of}
use Rattle.cards.specs.Cards.{heads, term_count}
use Rattle.cards.specs.Overwriting.{over}
use Rattle.cards.proofs.Generators.{row_generators}
use Rattle.cards.proofs.chains.write_heads.Given as goal

abbrev pub invariant-loop-i : goal.invariant-loop-i
invariant-loop-i g l =
    let f = g.F.Field in
    let i = enumerate_count l.i-iterator in
    let rest = chunks_exact_rest (enumerate_source l.i-iterator) in
    let before = row_generators (code_of f.number f.member) (take (17 * l.n) l.table) in
    let left = row_generators (code_of f.number f.member) rest in
    record {
      size : chunks_exact_size (enumerate_source l.i-iterator) ≡ 17;
      rows : 17 * i + length rest ≡ 17 * l.n;
      one : 1 ≤ l.next;
      few : l.next ≤ 1 + 17 * i;
      counted : l.next + term_count left ≡ 1 + term_count before;
      written : over (3 + i) (heads l.next left) l.buffer ≡ over 3 (heads 1 before) l.initial.buffer;
    }

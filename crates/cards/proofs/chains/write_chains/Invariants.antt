use Rattle.std.proofs.Common.{◌≡◌, ◌+◌, ◌-◌, ◌*◌, ◌≤◌, length, take}
use Rattle.std.specs.Slice.Iter.{chunks_exact_rest, chunks_exact_size}
use Rattle.fields.specs.Elements.{code_of}
use Rattle.cards.specs.Cards.{chains}
use Rattle.cards.specs.Overwriting.{over}
use Rattle.cards.proofs.Generators.{row_generators}
use Rattle.cards.proofs.chains.write_chains.Given as goal

abbrev pub invariant-loop-row : goal.invariant-loop-row
invariant-loop-row g l =
    let f = g.F.Field in
    let rest = chunks_exact_rest l.row-iterator in
    record {
      size : chunks_exact_size l.row-iterator ≡ 17;
      one : 1 ≤ l.next;
      few : l.next + length rest ≤ 1 + 17 * l.n;
      written : over (3 + l.n + 4 * (l.next - 1)) (chains l.next (row_generators (code_of f.number f.member) rest)) l.buffer ≡ over (3 + l.n) (chains 1 (row_generators (code_of f.number f.member) (take (17 * l.n) l.table))) l.initial.buffer;
    }

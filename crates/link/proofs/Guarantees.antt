-- The theorem of blocks, carried to the tables. Main results: encodes_message, tells_encoded, brings_home, one_symbol_changes_few.
use Rattle.std.proofs.Common.{◌≡◌, ℕ, suc, ◌+◌, ◌-◌, ◌*◌, ◌<◌, ◌≤◌, Bool, true, false, ◌↔◌, List, length, sym, ap, ◌∙◌, subst, arith}
use mathlib.Core.Path.{fun_ext}
use native.Mathlib.Decide.{dec_lt}
use Rattle.algebra.specs.Rings.{RingOps, RingLaws, IsField}
use Rattle.algebra.specs.Series.{Below}
use Rattle.algebra.specs.Divisors.{VectorDegree}
use Rattle.algebra.specs.Link.{Encodes, Clean, inverted, DifferAtMost}
use Rattle.algebra.specs.Optimal.{PolynomialVector}
use Rattle.algebra.specs.Theorems.{CleanLink}
use Rattle.algebra.proofs.Bounds as B
use Rattle.algebra.proofs.Link.{clean_link}
use Rattle.tables.proofs.Places.{at_past}
use Rattle.tables.proofs.Parts.{poly_at_below}
use Rattle.frames.specs.Rows.{generator_in}
use Rattle.framing.specs.Framing.{column_in}
use Rattle.link.specs.Blocks.{message_series, stream, Tells, Encoded, Inverted}
use Rattle.link.specs.Guarantees.{OptimalFrame, EncodesMessage, TellsEncoded, BringsHome, OneSymbolChangesFew}
use Rattle.link.proofs.Streams.{stream_past}

module _ {F R : Type 0} (o : RingOps R) (member : F → R) where
  message_below : (message : List F) → Below o (length message) (message_series o member message)
  message_below message k h = at_past o member message k h

  pub encodes_message : RingLaws o → (n d : ℕ) (generators message block : List F) → length block ≡ n * (length message + d)
      → Encoded o member n d generators message block → EncodesMessage o member n d generators message block
  encodes_message L n d generators message block long written bounded =
      record {
        length = message_below message;
        is = λ i h. fun_ext (λ t. elim (dec_lt t (length message + d)) [
          | yes l ↦ written i t h l
          | no l ↦
              stream_past o member n (length message + d) block i t long (omega arith)
              ∙ sym (B.below_product o L (length message) (suc d) (length message + d) (message_series o member message) (generator_in o member generators i) (omega arith) (message_below message) (bounded i h) t (omega arith))
        ]);
      }

  module _ (is_field : IsField o) (n : ℕ) (low : 2 ≤ n) (frame : List F) where
    abbrev link : CleanLink o
    link = clean_link o is_field

    same : n ≡ suc (n - 1)
    same = omega arith

    columns_polynomial : (j : ℕ) → j < suc (n - 1) → PolynomialVector o (suc (n - 1)) (column_in o member frame j)
    columns_polynomial j h i l = (17, poly_at_below o member frame (136 * j + 17 * i) 17)

    -- the block encodes a message of K symbols by the first k polynomials of the row
    abbrev SomeMessage : (row : ℕ → ℕ → R) (K : ℕ) (block : List F) (k : ℕ) → Type 0
    SomeMessage row K block k = (message : ℕ → R) × Encodes o k row K message (stream o member n block)

    abbrev IsClean : List F → Type 0
    IsClean block = Clean o (n - 1) (column_in o member frame) (stream o member n block)

    encoded : (d K : ℕ) (row : ℕ → ℕ → R) (block : List F) → length block ≡ n * (K + d) → OptimalFrame o member n d row frame → IsClean block ↔ SomeMessage row K block (suc (n - 1))
    encoded d K row block long optimal =
        link.clean (n - 1) row d (column_in o member frame) (subst (λ k. VectorDegree o k row d) same optimal.degree) columns_polynomial optimal.columns K (stream o member n block)
        (λ i h t l. stream_past o member n (K + d) block i t long l)

    pub tells_encoded : (d K : ℕ) (block : List F) (answer : Bool) → length block ≡ n * (K + d) → Tells (IsClean block) answer → TellsEncoded o member n d K frame block answer
    tells_encoded d K block true long clean row optimal = subst (SomeMessage row K block) (sym same) ((encoded d K row block long optimal).0 clean)
    tells_encoded d K block false long unclean row optimal = λ e. unclean ((encoded d K row block long optimal).1 (subst (SomeMessage row K block) same e))

    -- what lies past the message is zero
    past : (table : List F) (f : ℕ → R) → ((k : ℕ) → k < length table → message_series o member table k ≡ f k) → Below o (length table) f → message_series o member table ≡ f
    past table f e below = fun_ext (λ k. elim (dec_lt k (length table)) [ yes h ↦ e k h | no h ↦ message_below table k (omega arith) ∙ sym (below k (omega arith)) ])

    pub brings_home : (d : ℕ) (block table : List F) → Inverted o member n frame block table → BringsHome o member n d frame block table
    brings_home d block table is row message optimal encodes =
        past table message (λ k h. is k h ∙ ap (λ (f : ℕ → R). f k) home) encodes.length
      where
        home : inverted o (n - 1) (column_in o member frame) (stream o member n block) ≡ message
        home = link.inverts (n - 1) row (column_in o member frame) optimal.columns (length table) message (stream o member n block) (subst (λ k. Encodes o k row (length table) message (stream o member n block)) same encodes)

    pub one_symbol_changes_few : (block message : List F) → Inverted o member n frame block message → OneSymbolChangesFew o member n frame block message
    one_symbol_changes_few block message is e i t changed other degree h one long is_other =
        record {
          place = few.place;
          elsewhere = λ k far. elim (dec_lt k (length message)) [
            | yes l ↦ is k l ∙ few.elsewhere k far ∙ sym (is_other k (omega arith))
            | no l ↦ message_below message k (omega arith) ∙ sym (message_below other k (omega arith))
          ];
        }
      where
        few : DifferAtMost (suc e) (inverted o (n - 1) (column_in o member frame) (stream o member n block)) (inverted o (n - 1) (column_in o member frame) (stream o member n changed))
        few = link.one_changed (n - 1) (column_in o member frame) e (subst (λ k. VectorDegree o k (column_in o member frame 0) e) same degree) i t (stream o member n block) (stream o member n changed) (omega arith) (λ l k b. one l k (omega arith))

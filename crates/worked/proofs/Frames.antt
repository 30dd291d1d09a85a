-- What the theorem is proved from: the frames of the worked designs and the block of the worked message, each found by tests.
use Rattle.std.proofs.Common.{ℕ, List, [], ◌∷◌}
use Rattle.algebra.specs.Link.{Encodes}
use Rattle.algebra.specs.Lists.{listed, listed_row, listed_block, each, AllFrames}
use Rattle.algebra.specs.Rings.{IsField, Numbering}
use Rattle.algebra.proofs.Fields.{field_of}
use Rattle.algebra.proofs.ComputedFrames.{Hint, frames_by_tests, encodes_by_test}
use Rattle.nibbles.specs.Nibbles.{code_of, nibble_ops}
use Rattle.nibbles.specs.declared.Nibble.TheVariants.{N1, N8}
use Rattle.nibbles.specs.NibblesLemmas.{nibble_field, nibble_numbering, nibble_invertible, no_root}
use Rattle.pairs.specs.Pairs.{pair_number}
use Rattle.pairs.specs.Codes.{pair_numbering, decide_zero}
use Rattle.pairs.specs.Laws.{pair_field, pair_invertible}
use Rattle.tones.specs.Tones.{tone_ops, tone_of}
use Rattle.tones.specs.TonesLemmas.{tone_field, tone_numbering, tone_invertible}
use Rattle.towers.specs.Worked.{byte_ops}
use Rattle.worked.specs.Designs.{tone_designs, byte_of, byte_designs}

field : IsField tone_ops
field = field_of tone_field tone_numbering tone_invertible

byte_numbering : Numbering byte_ops 256 (pair_number 16 code_of)
byte_numbering = pair_numbering nibble_numbering N1 N8

byte_field : IsField byte_ops
byte_field =
    field_of (pair_field nibble_ops N1 N8 nibble_field) byte_numbering
    (pair_invertible nibble_ops N1 N8 nibble_field (decide_zero nibble_numbering) nibble_invertible (no_root N1 N8 tt))

abbrev hint : ℕ → List (List ℕ) → ℕ → List ℕ → ℕ → Hint
hint e r q p S = record { divisor_degree = e; row = r; component = q; places = p; bound = S }

abbrev hints : List Hint
hints =
    hint 0 ((1 ∷ []) ∷ (0 ∷ 1 ∷ []) ∷ []) 1 (2 ∷ []) 2
    ∷ hint 0 ((1 ∷ []) ∷ (0 ∷ 1 ∷ []) ∷ (0 ∷ 0 ∷ 1 ∷ []) ∷ []) 2 (3 ∷ 4 ∷ []) 3
    ∷ hint 0 ((0 ∷ 1 ∷ []) ∷ (1 ∷ 1 ∷ []) ∷ []) 0 (3 ∷ []) 2
    ∷ hint 1 ((0 ∷ 1 ∷ []) ∷ (1 ∷ 1 ∷ []) ∷ []) 0 (3 ∷ []) 3
    ∷ hint 0 ((0 ∷ 0 ∷ 1 ∷ []) ∷ (1 ∷ 1 ∷ []) ∷ []) 0 (5 ∷ []) 3
    ∷ hint 0 ([] ∷ (5 ∷ []) ∷ []) 1 (0 ∷ []) 1
    ∷ hint 0 ((1 ∷ []) ∷ [] ∷ (0 ∷ 0 ∷ 0 ∷ 1 ∷ []) ∷ []) 2 (1 ∷ 9 ∷ []) 4
    ∷ []

pub tone_frames : AllFrames tone_ops tone_of tone_designs
tone_frames = frames_by_tests tone_numbering field tone_of tone_designs hints (tt, (tt, (tt, (tt, (tt, (tt, (tt, tt)))))))

pub byte_frames : AllFrames byte_ops byte_of byte_designs
byte_frames = frames_by_tests byte_numbering byte_field byte_of byte_designs (hint 0 ((16 ∷ []) ∷ (0 ∷ 1 ∷ []) ∷ []) 1 (2 ∷ []) 2 ∷ []) (tt, tt)

pub message_encoded : Encodes tone_ops 2 (listed_row tone_ops (each (each tone_of) ((0 ∷ 0 ∷ 1 ∷ []) ∷ (1 ∷ 1 ∷ []) ∷ []))) 2 (listed tone_ops (each tone_of (3 ∷ 1 ∷ []))) (listed_block tone_ops 2 (each tone_of (0 ∷ 3 ∷ 0 ∷ 4 ∷ 3 ∷ 1 ∷ 1 ∷ 0 ∷ [])))
message_encoded = encodes_by_test tone_numbering field tone_of 2 (each (each tone_of) ((0 ∷ 0 ∷ 1 ∷ []) ∷ (1 ∷ 1 ∷ []) ∷ [])) 2 (each tone_of (3 ∷ 1 ∷ [])) (each tone_of (0 ∷ 3 ∷ 0 ∷ 4 ∷ 3 ∷ 1 ∷ 1 ∷ 0 ∷ [])) 8 tt

use mathlib.Core.Path.{◌∙◌, ap}
use lib.ListN.{get_or}
use Rattle.nibbles.specs.Nibbles.{nibble_of, nibble_ops}
use Rattle.nibbles.specs.Tables.{inverses}
use Rattle.nibbles.specs.NibblesLemmas.{inverse_nibble}
use Rattle.nibbles.proofs.NibbleField.inverse.Goals as goal

pub returns-in_default : goal.returns-in_default
returns-in_default c =
    ap (nibble_ops.product c.args.self)
    (c.low_bits.ensures ∙ ap nibble_of (c.inverse_number.ensures ∙ ap (λ k. get_or inverses k 0) c.from.ensures.0))
    ∙ inverse_nibble c.args.self c.in_default.not-N0

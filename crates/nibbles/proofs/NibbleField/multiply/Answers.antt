use mathlib.Core.Path.{◌∙◌, ap, ap₂}
use Rattle.nibbles.specs.Nibbles.{nibble_of}
use Rattle.nibbles.specs.Tables.{entry}
use Rattle.nibbles.specs.NibblesLemmas.{product_nibble}
use Rattle.nibbles.proofs.NibbleField.multiply.Goals as goal

pub returns : goal.returns
returns c =
    c.low_bits.ensures
    ∙ ap nibble_of (c.product_number.ensures ∙ ap₂ entry c.from.ensures.0 c.from-2.ensures.0)
    ∙ product_nibble c.args.self c.args.other

-- Number, layer and place of the refusals of reading a card. The clauses of `fault` cite it; it assumes nothing.
use Rattle.std.specs.Prelude.{ℕ}
use Rattle.fields.specs.Faults.{field_number, field_layer}
use Rattle.fields.specs.declared.fault.Layer.{Layer}
use Rattle.fields.specs.declared.fault.Layer.TheVariants.{Card}
use Rattle.design.specs.Faults.{design_number, design_layer, design_place}
use Rattle.cards.specs.declared.fault.CardFault.{CardFault}
use Rattle.cards.specs.declared.fault.CardFault.TheVariants.{Design, Length, Kind, GeneratorCount, PowerTooHigh, PowerNotAbove, Field, ZeroCode, NoSuchRecord}

abbrev pub card_number : CardFault → ℕ
card_number (Design f) = design_number f
card_number Length = 13
card_number Kind = 14
card_number GeneratorCount = 2
card_number (PowerTooHigh place) = 4
card_number (PowerNotAbove place) = 16
card_number (Field f place) = field_number f
card_number (ZeroCode place) = 17
card_number (NoSuchRecord place) = 15

-- a table's length is the design's rule and a code's limit the field's; all others are the card's
abbrev pub card_layer : CardFault → Layer
card_layer (Design f) = design_layer f
card_layer Length = Card
card_layer Kind = Card
card_layer GeneratorCount = Card
card_layer (PowerTooHigh place) = Card
card_layer (PowerNotAbove place) = Card
card_layer (Field f place) = field_layer f
card_layer (ZeroCode place) = Card
card_layer (NoSuchRecord place) = Card

-- the byte of the card where the fault lies
abbrev pub card_place : CardFault → ℕ
card_place (Design f) = design_place f
card_place Length = 0
card_place Kind = 0
card_place GeneratorCount = 0
card_place (PowerTooHigh place) = place
card_place (PowerNotAbove place) = place
card_place (Field f place) = place
card_place (ZeroCode place) = place
card_place (NoSuchRecord place) = place

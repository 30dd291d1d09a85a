-- What a refusal carries: its number, its layer and its place. Assumes nothing.
use Rattle.std.specs.Prelude.{ℕ}
use Rattle.fields.specs.declared.fault.Layer.{Layer}
use Rattle.fields.specs.declared.fault.Layer.TheVariants.{Field, Card, Design, Link}
use Rattle.fields.specs.declared.fault.FieldFault.{FieldFault}
use Rattle.fields.specs.declared.fault.FieldFault.TheVariants.{CodeTooLarge}

abbrev pub layer_number : Layer → ℕ
layer_number Field = 1
layer_number Card = 2
layer_number Design = 3
layer_number Link = 4

abbrev pub field_number : FieldFault → ℕ
field_number CodeTooLarge = 5

abbrev pub field_layer : FieldFault → Layer
field_layer CodeTooLarge = Field

abbrev pub field_place : FieldFault → ℕ
field_place CodeTooLarge = 0

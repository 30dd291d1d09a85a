-- Number, layer and place of the refusals of a design. The clauses of `fault` cite it; it assumes nothing.
use Rattle.std.specs.Prelude.{ℕ}
use Rattle.fields.specs.Faults.{field_number, field_layer, field_place}
use Rattle.fields.specs.declared.fault.Layer.{Layer}
use Rattle.fields.specs.declared.fault.Layer.TheVariants.{Design}
use Rattle.design.specs.declared.fault.DesignFault.{DesignFault}
use Rattle.design.specs.declared.fault.DesignFault.TheVariants.{TableLength, GeneratorCount, NoSuchGenerator, PowerTooHigh, AllZero, FirstColumn, CheckColumn, ColumnDegrees, LeadingVector, Field}

abbrev pub design_number : DesignFault → ℕ
design_number TableLength = 1
design_number GeneratorCount = 2
design_number NoSuchGenerator = 3
design_number PowerTooHigh = 4
design_number AllZero = 6
design_number FirstColumn = 7
design_number (CheckColumn j) = 8
design_number ColumnDegrees = 9
design_number LeadingVector = 10
design_number (Field f) = field_number f

-- a code's fault stays the field's
abbrev pub design_layer : DesignFault → Layer
design_layer TableLength = Design
design_layer GeneratorCount = Design
design_layer NoSuchGenerator = Design
design_layer PowerTooHigh = Design
design_layer AllZero = Design
design_layer FirstColumn = Design
design_layer (CheckColumn j) = Design
design_layer ColumnDegrees = Design
design_layer LeadingVector = Design
design_layer (Field f) = field_layer f

abbrev pub design_place : DesignFault → ℕ
design_place TableLength = 0
design_place GeneratorCount = 0
design_place NoSuchGenerator = 0
design_place PowerTooHigh = 0
design_place AllZero = 0
design_place FirstColumn = 0
design_place (CheckColumn j) = j
design_place ColumnDegrees = 0
design_place LeadingVector = 0
design_place (Field f) = field_place f

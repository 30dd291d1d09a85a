-- Number, layer and place of the refusals of the link. The clauses of `fault` cite it; it assumes nothing.
use Rattle.std.specs.Prelude.{ℕ}
use Rattle.fields.specs.declared.fault.Layer.{Layer}
use Rattle.fields.specs.declared.fault.Layer.TheVariants.{Link}
use Rattle.design.specs.Faults.{design_number, design_layer, design_place}
use Rattle.link.specs.declared.fault.LinkFault.{LinkFault}
use Rattle.link.specs.declared.fault.LinkFault.TheVariants.{Design, Divisor, Length}

-- a design's fault stays the design's
abbrev pub link_number : LinkFault → ℕ
link_number (Design f) = design_number f
link_number Divisor = 11
link_number Length = 12

abbrev pub link_layer : LinkFault → Layer
link_layer (Design f) = design_layer f
link_layer Divisor = Link
link_layer Length = Link

abbrev pub link_place : LinkFault → ℕ
link_place (Design f) = design_place f
link_place Divisor = 0
link_place Length = 0

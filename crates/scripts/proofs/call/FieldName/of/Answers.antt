use Rattle.std.proofs.Common.{refl, lit<, List, [], ◌∷◌}
use Rattle.std.specs.List.{Contains}
use Rattle.scripts.specs.declared.call.FieldName.{FieldName}
use Rattle.scripts.specs.declared.call.FieldName.TheVariants.{Tones, Nibbles, Bytes, TonePairs}
use Rattle.scripts.proofs.call.FieldName.of.Goals as goal

abbrev all : List FieldName
all = Tones ∷ Nibbles ∷ Bytes ∷ TonePairs ∷ []

every : (f : FieldName) → Contains all f
every Tones = (0, lit< tt, refl)
every Nibbles = (1, lit< tt, refl)
every Bytes = (2, lit< tt, refl)
every TonePairs = (3, lit< tt, refl)

pub spelled_by-requires : goal.spelled_by-requires
spelled_by-requires c = every

use Rattle.std.proofs.Common.{refl, lit<, List, [], ◌∷◌}
use Rattle.std.specs.List.{Contains}
use Rattle.scripts.specs.declared.call.Keyword.{Keyword}
use Rattle.scripts.specs.declared.call.Keyword.TheVariants.{Field, Begin, Put, Frame, Reopen, Column, Encode, Check, Invert, Card, Read, Offer, Show}
use Rattle.scripts.proofs.call.Keyword.of.Goals as goal

abbrev all : List Keyword
all = Field ∷ Begin ∷ Put ∷ Frame ∷ Reopen ∷ Column ∷ Encode ∷ Check ∷ Invert ∷ Card ∷ Read ∷ Offer ∷ Show ∷ []

every : (k : Keyword) → Contains all k
every Field = (0, lit< tt, refl)
every Begin = (1, lit< tt, refl)
every Put = (2, lit< tt, refl)
every Frame = (3, lit< tt, refl)
every Reopen = (4, lit< tt, refl)
every Column = (5, lit< tt, refl)
every Encode = (6, lit< tt, refl)
every Check = (7, lit< tt, refl)
every Invert = (8, lit< tt, refl)
every Card = (9, lit< tt, refl)
every Read = (10, lit< tt, refl)
every Offer = (11, lit< tt, refl)
every Show = (12, lit< tt, refl)

pub spelled_by-requires : goal.spelled_by-requires
spelled_by-requires c = every

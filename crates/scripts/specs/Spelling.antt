-- How keywords and fields are spelled. The clauses of `call` cite it; it assumes nothing.
use Rattle.std.specs.Prelude.{ℕ, List, codes}
use Rattle.scripts.specs.declared.call.FieldName.{FieldName}
use Rattle.scripts.specs.declared.call.FieldName.TheVariants.{Tones, Nibbles, Bytes, TonePairs}
use Rattle.scripts.specs.declared.call.Keyword.{Keyword}
use Rattle.scripts.specs.declared.call.Keyword.TheVariants.{Field, Begin, Put, Frame, Reopen, Column, Encode, Check, Invert, Card, Read, Offer, Show}

abbrev pub named : FieldName → List ℕ
named Tones = codes "tones"
named Nibbles = codes "nibbles"
named Bytes = codes "bytes"
named TonePairs = codes "tone-pairs"

abbrev pub spelled : Keyword → List ℕ
spelled Field = codes "field"
spelled Begin = codes "begin"
spelled Put = codes "put"
spelled Frame = codes "frame"
spelled Reopen = codes "reopen"
spelled Column = codes "column"
spelled Encode = codes "encode"
spelled Check = codes "check"
spelled Invert = codes "invert"
spelled Card = codes "card"
spelled Read = codes "read"
spelled Offer = codes "offer"
spelled Show = codes "show"

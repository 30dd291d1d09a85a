use Rattle.std.proofs.Common.{refl}
use Rattle.scripts.specs.declared.call.Keyword.TheVariants as key
use Rattle.scripts.specs.Words.{words}
use Rattle.scripts.proofs.Following.{means_at}
use Rattle.scripts.proofs.arguments.arguments.Goals as goal

pub returns-in_ok-numbers-in-Encode : goal.returns-in_ok-numbers-in-Encode
returns-in_ok-numbers-in-Encode c = means_at _ key.Encode (words c.args.text.now) _ c.in-Encode.is (_, c.in_ok-numbers-in-Encode.ensures, refl)

pub returns-in_ok-numbers-in-Check : goal.returns-in_ok-numbers-in-Check
returns-in_ok-numbers-in-Check c = means_at _ key.Check (words c.args.text.now) _ c.in-Check.is (_, c.in_ok-numbers-in-Check.ensures, refl)

pub returns-in_ok-bytes-in-Read : goal.returns-in_ok-bytes-in-Read
returns-in_ok-bytes-in-Read c = means_at _ key.Read (words c.args.text.now) _ c.in-Read.is (_, c.in_ok-bytes-in-Read.ensures, refl)

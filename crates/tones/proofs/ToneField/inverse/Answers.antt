use mathlib.Core.Path.{◌∙◌, ap}
use Prim.Native.Nat.{◌*◌}
use lib.ListN.{get_or}
use Rattle.tones.specs.Tones.{number_of, tone_of, inverses}
use Rattle.tones.specs.TonesLemmas.{inverse_tone}
use Rattle.tones.proofs.ToneField.inverse.Goals as goal

pub returns-in_default : goal.returns-in_default
returns-in_default c =
    ap (λ r. tone_of (number_of c.args.self * number_of r))
    (c.residue.ensures.value ∙ ap tone_of (c.inverse_number.ensures ∙ ap (λ k. get_or inverses k 0) c.from.ensures.0))
    ∙ inverse_tone c.args.self c.in_default.not-T0

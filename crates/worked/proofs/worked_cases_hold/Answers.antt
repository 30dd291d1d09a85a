use Rattle.std.proofs.Common.{◌≡◌, zero, suc, ◌+◌, ◌*◌, false, ◌&&◌, ◌==◌, nat_le, List, [], ◌∷◌, ◌++◌, Some, sym, refl, subst, not-suc-le-zero, le_of_suc-le-suc}
use Rattle.std.proofs.lemmas.Bool.{eq-eqb}
use Rattle.algebra.specs.Lists.{Design, listed, each, AllFrames}
use Rattle.algebra.specs.Series.{Below}
use Rattle.design.specs.declared.fault.DesignFault.TheVariants.{TableLength}
use Rattle.fields.specs.Questions.{asks, first_no}
use Rattle.link.specs.declared.fault.LinkFault.TheVariants.{Design as Fault, Divisor, Length}
use Rattle.tones.specs.Tones.{tone_ops, tone_of}
use Rattle.tones.specs.TonesLemmas.{tone_field}
use Rattle.towers.specs.Worked.{Example, worked, byte_ops, AllHold as AllProducts}
use Rattle.towers.proofs.Worked.{all_hold}
use Rattle.worked.specs.Cases.{Case, KeptOff, AllHold, other_cases}
use Rattle.worked.specs.Cases.Case.{tone_design, byte_design, products}
use Rattle.worked.specs.Designs.{tone_designs, shared_design, byte_of, byte_designs}
use Rattle.worked.proofs.Frames.{tone_frames, byte_frames, message_encoded}
use Rattle.worked.proofs.worked_cases_hold.Goals as goal

-- the conjunction over a list that two lists make
both : (xs ys : List Case) → AllHold xs → AllHold ys → AllHold (xs ++ ys)
both [] ys f g = g
both (x ∷ xs) ys f g = (f.0, both xs ys f.1 g)

tones_hold : (ws : List Design) → AllFrames tone_ops tone_of ws → AllHold (each tone_design ws)
tones_hold [] f = tt
tones_hold (w ∷ ws) f = ((f.0, tt), tones_hold ws f.1)

bytes_hold : (ws : List Design) → AllFrames byte_ops byte_of ws → AllHold (each byte_design ws)
bytes_hold [] f = tt
bytes_hold (w ∷ ws) f = ((f.0, tt), bytes_hold ws f.1)

products_hold : (es : List Example) → AllProducts es → AllHold (each products es)
products_hold [] f = tt
products_hold (e ∷ es) f = (f.0, products_hold es f.1)

-- from s^2 on, s has zeros
ends : Below tone_ops 2 (listed tone_ops (each tone_of shared_design.divisor))
ends zero h = absurd (not-suc-le-zero h)
ends (suc zero) h = absurd (not-suc-le-zero (le_of_suc-le-suc h))
ends (suc (suc k)) h = refl

-- the table has its length, and 1 is not 0
turned_away : KeptOff shared_design
turned_away = record {
  divisor_degree = 1;
  is_degree = record { top = λ e. tone_field.zero_not_one (sym e); below = ends };
  refused = λ exact symbols block. subst (λ b. first_no (asks b (Fault TableLength) ∷ asks false Divisor ∷ asks (nat_le 1 symbols && nat_le symbols 4096 && block == 2 * (symbols + 1)) Length ∷ []) ≡ Some Divisor) (sym (eq-eqb exact exact refl)) refl;
}

others_hold : AllHold other_cases
others_hold = (refl, (message_encoded, (((tone_frames.1.1.1.0, tt), turned_away, refl), tt)))

pub returns : goal.returns
returns c =
    both (each tone_design tone_designs) (each byte_design byte_designs ++ each products worked ++ other_cases) (tones_hold tone_designs tone_frames)
    (both (each byte_design byte_designs) (each products worked ++ other_cases) (bytes_hold byte_designs byte_frames) (both (each products worked) other_cases (products_hold worked all_hold) others_hold))

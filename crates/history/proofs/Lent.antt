-- Each call of a run from the contract of the call. A table that a request owns is lent as a list: `l` is what it held, `l'` what it holds.
use Rattle.std.proofs.Common.{◌≡◌, ℕ, Bool, false, List, length, IfOk, IfErr, Some, Ok, Err, vec_items, Result, MatchResult, sym, refl, subst, subst₂}
use Rattle.algebra.specs.Rings.{RingOps}
use Rattle.design.specs.declared.draft.Draft.{Draft}
use Rattle.design.specs.declared.framed.Framed.{Framed}
use Rattle.design.specs.declared.fault.DesignFault.{DesignFault}
use Rattle.design.specs.declared.fault.HandedBack.{HandedBack}
use Rattle.design.specs.Frames.{Frames, FrameRefused, reopen_questions}
use Rattle.design.specs.Offers.{Offers, OfferRefused}
use Rattle.fields.specs.Questions.{first_no}
use Rattle.link.specs.declared.fault.LinkFault.{LinkFault}
use Rattle.history.specs.declared.request.Design.{Design}
use Rattle.history.specs.declared.request.Design.TheVariants as standing
use Rattle.history.specs.declared.request.Request.{Request}
use Rattle.history.specs.declared.request.Request.TheVariants as asked
use Rattle.history.specs.declared.request.Answer.{Answer}
use Rattle.history.specs.declared.request.Answer.TheVariants as answered
use Rattle.history.specs.Steps.{Held, held, admits, Step, EncodeCall, CheckCall, InvertCall, frames, frame_refused, offers, offer_refused, reopen_refused, encodes, checks, inverts}

-- a draft turns away what is neither put nor frame nor offer
pub turned_from_draft : {F : Type 0} (d : Draft) (q : Request F) → ((i power code : ℕ) → q ≡ asked.Put i power code → ⊥) → ((w : _) → q ≡ asked.Frame w → ⊥)
    → ((p w : _) → q ≡ asked.Offer p w → ⊥) → admits (standing.Draft d) q ≡ false
turned_from_draft d (asked.Put i power code) p f h = absurd (p i power code refl)
turned_from_draft d (asked.Frame w) p f h = absurd (f w refl)
turned_from_draft d (asked.Offer l w) p f h = absurd (h l w refl)
turned_from_draft d asked.Reopen p f h = refl
turned_from_draft d (asked.Encode m b) p f h = refl
turned_from_draft d (asked.Check b) p f h = refl
turned_from_draft d (asked.Invert b m) p f h = refl

-- a framed design turns away what is neither reopen nor a call on the link
pub turned_from_framed : {F : Type 0} (x : Framed) (q : Request F) → (q ≡ asked.Reopen → ⊥) → ((m b : _) → q ≡ asked.Encode m b → ⊥) → ((b : _) → q ≡ asked.Check b → ⊥)
    → ((b m : _) → q ≡ asked.Invert b m → ⊥) → admits (standing.Framed x) q ≡ false
turned_from_framed x (asked.Put i power code) o e c v = refl
turned_from_framed x (asked.Frame w) o e c v = refl
turned_from_framed x (asked.Offer l w) o e c v = refl
turned_from_framed x asked.Reopen o e c v = absurd (o refl)
turned_from_framed x (asked.Encode m b) o e c v = absurd (e m b refl)
turned_from_framed x (asked.Check b) o e c v = absurd (c b refl)
turned_from_framed x (asked.Invert b m) o e c v = absurd (v b m refl)

-- what frame or offer leaves, and its answer: the framed design, or the draft with the fault
abbrev pub Settled : Result Framed (HandedBack Draft) → Design → Result (Unit {0}) DesignFault → Type 0
Settled made d r = MatchResult made (λ x. (d ≡ standing.Framed x) × (r ≡ Ok tt)) (λ e. (d ≡ standing.Draft e.design) × (r ≡ Err e.fault))

module _ {F R : Type 0} (o : RingOps R) (member : F → R) (code_of : F → ℕ) (order : ℕ) where
  pub asked_as : (q q' : Request F) (s : Held F) (a : Answer F) (t : Held F) → q' ≡ q → Step o member code_of order q s a t → Step o member code_of order q' s a t
  asked_as q q' s a t is step = subst (λ (z : Request F). Step o member code_of order z s a t) (sym is) step

  pub answered_as : (q q' : Request F) (s : Held F) (a a' : Answer F) (t : Held F) → q' ≡ q → a' ≡ a → Step o member code_of order q s a t → Step o member code_of order q' s a' t
  answered_as q q' s a a' t is same step = subst₂ (λ (z : Request F) (b : Answer F). Step o member code_of order z s b t) (sym is) (sym same) step

  settled_as : (q : Request F) (s : Held F) (answer : Result (Unit {0}) DesignFault → Answer F) (d d' : Design) (r r' : Result (Unit {0}) DesignFault) (g f : List F) → d' ≡ d → r' ≡ r
      → Step o member code_of order q s (answer r) (held d g f) → Step o member code_of order q s (answer r') (held d' g f)
  settled_as q s answer d d' r r' g f is same step = subst₂ (λ (z : Design) (b : Result (Unit {0}) DesignFault). Step o member code_of order q s (answer b) (held z g f)) (sym is) (sym same) step

  pub standing_as : (q : Request F) (d d' : Design) (g f : List F) (a : Answer F) (t : Held F) → d' ≡ d → Step o member code_of order q (held d g f) a t
      → Step o member code_of order q (held d' g f) a t
  standing_as q d d' g f a t is step = subst (λ (z : Design). Step o member code_of order q (held z g f) a t) (sym is) step

  frames_lent : (d : Draft) (x : Framed) (w w' : _) (l l' g f f' : List F) → l ≡ vec_items w → vec_items w' ≡ l'
      → Frames o member d.n g f l f' l' x.n x.degree x.divisor x.columns
      → Step o member code_of order (asked.Frame w) (held (standing.Draft d) g f) (answered.Frame (Ok tt) w') (held (standing.Framed x) g f')
  frames_lent d x w w' l l' g f f' was is call =
      frames (subst₂ (λ (a b : List F). Frames o member d.n g f a f' b x.n x.degree x.divisor x.columns) was (sym is) call)

  refused_lent : (d d' : Draft) (e : DesignFault) (w w' : _) (l l' g f f' : List F) → l ≡ vec_items w → vec_items w' ≡ l'
      → d' ≡ d → f' ≡ f → FrameRefused o member d.n g f l l' e
      → Step o member code_of order (asked.Frame w) (held (standing.Draft d) g f) (answered.Frame (Err e) w') (held (standing.Draft d') g f')
  refused_lent d d' e w w' l l' g f f' was is same kept call =
      subst₂ (λ (y : Draft) (z : List F). Step o member code_of order (asked.Frame w) (held (standing.Draft d) g f) (answered.Frame (Err e) w') (held (standing.Draft y) g z)) (sym same) (sym kept)
      (frame_refused (subst₂ (λ (a b : List F). FrameRefused o member d.n g f a b e) was (sym is) call))

  pub frames_settled : (d : Draft) (made : Result Framed (HandedBack Draft)) (d' : Design) (r : Result (Unit {0}) DesignFault) (w w' : _) (l l' g f f' : List F) → l ≡ vec_items w → vec_items w' ≡ l'
      → Settled made d' r → IfOk made (λ x. Frames o member d.n g f l f' l' x.n x.degree x.divisor x.columns) → IfErr made (λ e. FrameRefused o member d.n g f l l' e.fault × (e.design ≡ d) × (f' ≡ f))
      → Step o member code_of order (asked.Frame w) (held (standing.Draft d) g f) (answered.Frame r w') (held d' g f')
  frames_settled d (Ok x) d' r w w' l l' g f f' was is settled granted refused =
      settled_as _ _ (λ b. answered.Frame b w') _ _ _ _ _ _ settled.0 settled.1 (frames_lent d x w w' l l' g f f' was is granted)
  frames_settled d (Err e) d' r w w' l l' g f f' was is settled granted refused =
      settled_as _ _ (λ b. answered.Frame b w') _ _ _ _ _ _ settled.0 settled.1 (refused_lent d e.design e.fault w w' l l' g f f' was is refused.1 refused.2 refused.0)

  offers_lent : (d : Draft) (x : Framed) (p w w' : _) (lp l l' g f f' : List F) → lp ≡ vec_items p → l ≡ vec_items w → vec_items w' ≡ l'
      → Offers o member d.n g lp f l f' l' x.n x.degree x.divisor x.columns
      → Step o member code_of order (asked.Offer p w) (held (standing.Draft d) g f) (answered.Offer (Ok tt) p w') (held (standing.Framed x) g f')
  offers_lent d x p w w' lp l l' g f f' brought was is call =
      offers (subst₂ (λ (a z : List F). Offers o member d.n g a f (vec_items w) f' z x.n x.degree x.divisor x.columns) brought (sym is)
      (subst (λ (z : List F). Offers o member d.n g lp f z f' l' x.n x.degree x.divisor x.columns) was call))

  offer_refused_lent : (d d' : Draft) (e : DesignFault) (p w w' : _) (lp l l' g f f' : List F) → lp ≡ vec_items p → l ≡ vec_items w → vec_items w' ≡ l'
      → d' ≡ d → f' ≡ f → OfferRefused o member d.n g lp f l l' e
      → Step o member code_of order (asked.Offer p w) (held (standing.Draft d) g f) (answered.Offer (Err e) p w') (held (standing.Draft d') g f')
  offer_refused_lent d d' e p w w' lp l l' g f f' brought was is same kept call =
      subst₂ (λ (y : Draft) (z : List F). Step o member code_of order (asked.Offer p w) (held (standing.Draft d) g f) (answered.Offer (Err e) p w') (held (standing.Draft y) g z)) (sym same) (sym kept)
      (offer_refused (subst₂ (λ (a z : List F). OfferRefused o member d.n g a f (vec_items w) z e) brought (sym is)
      (subst (λ (z : List F). OfferRefused o member d.n g lp f z l' e) was call)))

  pub offers_settled : (d : Draft) (made : Result Framed (HandedBack Draft)) (d' : Design) (r : Result (Unit {0}) DesignFault) (p w w' : _) (lp l l' g f f' : List F) → lp ≡ vec_items p → l ≡ vec_items w → vec_items w' ≡ l'
      → Settled made d' r → IfOk made (λ x. Offers o member d.n g lp f l f' l' x.n x.degree x.divisor x.columns) → IfErr made (λ e. OfferRefused o member d.n g lp f l l' e.fault × (e.design ≡ d) × (f' ≡ f))
      → Step o member code_of order (asked.Offer p w) (held (standing.Draft d) g f) (answered.Offer r p w') (held d' g f')
  offers_settled d (Ok x) d' r p w w' lp l l' g f f' brought was is settled granted refused =
      settled_as _ _ (λ b. answered.Offer b p w') _ _ _ _ _ _ settled.0 settled.1 (offers_lent d x p w w' lp l l' g f f' brought was is granted)
  offers_settled d (Err e) d' r p w w' lp l l' g f f' brought was is settled granted refused =
      settled_as _ _ (λ b. answered.Offer b p w') _ _ _ _ _ _ settled.0 settled.1 (offer_refused_lent d e.design e.fault p w w' lp l l' g f f' brought was is refused.1 refused.2 refused.0)

  pub reopen_refused_by : (x x' : Framed) (e : DesignFault) (g f f' : List F) → Some e ≡ first_no (reopen_questions (length f)) → x' ≡ x → f' ≡ f
      → Step o member code_of order asked.Reopen (held (standing.Framed x) g f) (answered.Reopen (Err e)) (held (standing.Framed x') g f')
  reopen_refused_by x x' e g f f' by same kept =
      subst₂ (λ (y : Framed) (z : List F). Step o member code_of order asked.Reopen (held (standing.Framed x) g f) (answered.Reopen (Err e)) (held (standing.Framed y) g z)) (sym same) (sym kept)
      (reopen_refused (sym by))

  pub encodes_lent : (x : Framed) (r : Result (Unit {0}) LinkFault) (m b b' : _) (lm l l' g f : List F) → lm ≡ vec_items m → l ≡ vec_items b → vec_items b' ≡ l'
      → EncodeCall o member x g lm l r l'
      → Step o member code_of order (asked.Encode m b) (held (standing.Framed x) g f) (answered.Encode r m b') (held (standing.Framed x) g f)
  encodes_lent x r m b b' lm l l' g f message was is call =
      encodes (subst₂ (λ (a : List F) (z : List F). EncodeCall o member x g a (vec_items b) r z) message (sym is)
      (subst (λ (z : List F). EncodeCall o member x g lm z r l') was call))

  pub checks_lent : (x : Framed) (r : Result Bool LinkFault) (b : _) (l g f : List F) → l ≡ vec_items b → CheckCall o member x f l r
      → Step o member code_of order (asked.Check b) (held (standing.Framed x) g f) (answered.Check r b) (held (standing.Framed x) g f)
  checks_lent x r b l g f was call = checks (subst (λ (z : List F). CheckCall o member x f z r) was call)

  pub inverts_lent : (x : Framed) (r : Result (Unit {0}) LinkFault) (b m m' : _) (lb l l' g f : List F) → lb ≡ vec_items b → l ≡ vec_items m → vec_items m' ≡ l'
      → InvertCall o member x f lb l r l'
      → Step o member code_of order (asked.Invert b m) (held (standing.Framed x) g f) (answered.Invert r b m') (held (standing.Framed x) g f)
  inverts_lent x r b m m' lb l l' g f block was is call =
      inverts (subst₂ (λ (a : List F) (z : List F). InvertCall o member x f a (vec_items m) r z) block (sym is)
      (subst (λ (z : List F). InvertCall o member x f lb z r l') was call))

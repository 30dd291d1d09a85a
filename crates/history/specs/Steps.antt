-- One call of a run: which answer it gives, and what it leaves. Each case states what the contract of the call of that name states.
-- The clauses of `perform` cite it; it assumes nothing.
use Rattle.std.specs.Prelude.{◌≡◌, ℕ, ◌-◌, Bool, true, false, List, length, IfOk, Some, None, Ok, Err, vec_items, Result, MatchResult, OnOk}
use Rattle.std.specs.Result.{result_err}
use Rattle.algebra.specs.Link.{Clean, Encodes}
use Rattle.algebra.specs.Rings.{RingOps}
use Rattle.fields.specs.Questions.{first_no}
use Rattle.tables.specs.Places.{Cleared}
use Rattle.frames.specs.Rows.{generator_in}
use Rattle.framing.specs.Framing.{column_in}
use Rattle.design.specs.declared.draft.Draft.{Draft}
use Rattle.design.specs.declared.framed.Framed.{Framed}
use Rattle.design.specs.declared.fault.DesignFault.{DesignFault}
use Rattle.design.specs.Drafts.{Puts}
use Rattle.design.specs.Frames.{Frames, FrameRefused, reopen_questions}
use Rattle.design.specs.Offers.{Offers, OfferRefused}
use Rattle.design.specs.Standing.{StandsFramed}
use Rattle.link.specs.declared.fault.LinkFault.{LinkFault}
use Rattle.link.specs.Blocks.{message_series, stream, Tells, Encoded, Inverted}
use Rattle.link.specs.Guarantees.{EncodesMessage, TellsEncoded, BringsHome, OneSymbolChangesFew}
use Rattle.link.specs.Questions.{link_questions, symbols_in}
use Rattle.history.specs.declared.request.Design.{Design}
use Rattle.history.specs.declared.request.Design.TheVariants as standing
use Rattle.history.specs.declared.request.Request.{Request}
use Rattle.history.specs.declared.request.Request.TheVariants as asked
use Rattle.history.specs.declared.request.Answer.{Answer}
use Rattle.history.specs.declared.request.Answer.TheVariants as answered

-- a design with its two tables
pub record Held (F : Type 0) : Type 0 where
  pub design : Design
  pub generators : List F
  pub frame : List F

abbrev pub held : {F : Type 0} → Design → List F → List F → Held F
held design generators frame = record { design = design; generators = generators; frame = frame }

-- which calls a draft admits, and which a framed design
abbrev pub admits : {F : Type 0} → Design → Request F → Bool
admits (standing.Draft d) (asked.Put i power code) = true
admits (standing.Draft d) (asked.Frame work) = true
admits (standing.Draft d) (asked.Offer offered work) = true
admits (standing.Draft d) asked.Reopen = false
admits (standing.Draft d) (asked.Encode message block) = false
admits (standing.Draft d) (asked.Check block) = false
admits (standing.Draft d) (asked.Invert block message) = false
admits (standing.Framed x) (asked.Put i power code) = false
admits (standing.Framed x) (asked.Frame work) = false
admits (standing.Framed x) (asked.Offer offered work) = false
admits (standing.Framed x) asked.Reopen = true
admits (standing.Framed x) (asked.Encode message block) = true
admits (standing.Framed x) (asked.Check block) = true
admits (standing.Framed x) (asked.Invert block message) = true

module _ {F R : Type 0} (o : RingOps R) (member : F → R) where
  -- encode: the first no is the refusal, and leaves the block as it was; else the block encodes the message
  pub record EncodeCall (x : Framed) (generators message block : List F) (r : Result (Unit {0}) LinkFault) (after : List F) : Type 0 where
    pub answer : result_err r ≡ first_no (link_questions 136 (length generators) x.n x.degree x.divisor (length message) (length block))
    pub written : MatchResult r (λ _. Encoded o member x.n x.degree generators message after) (λ _. after ≡ block)
    pub encodes : IfOk r (λ _. EncodesMessage o member x.n x.degree generators message after)

  -- check: the first no is the refusal; else whether the block is clean
  pub record CheckCall (x : Framed) (frame block : List F) (r : Result Bool LinkFault) : Type 0 where
    pub answer : result_err r ≡ first_no (link_questions 1105 (length frame) x.n x.degree x.divisor (symbols_in x.n x.degree (length block)) (length block))
    pub clean : IfOk r (Tells (Clean o (x.n - 1) (column_in o member frame) (stream o member x.n block)))
    pub encoded : IfOk r (TellsEncoded o member x.n x.degree (symbols_in x.n x.degree (length block)) frame block)

  -- invert: the first no is the refusal, and leaves the message as it was; else the message is what inverting the block gives
  pub record InvertCall (x : Framed) (frame block message : List F) (r : Result (Unit {0}) LinkFault) (after : List F) : Type 0 where
    pub answer : result_err r ≡ first_no (link_questions 1105 (length frame) x.n x.degree x.divisor (length message) (length block))
    pub written : MatchResult r (λ _. Inverted o member x.n frame block after) (λ _. after ≡ message)
    pub home : IfOk r (λ _. BringsHome o member x.n x.degree frame block after)
    pub changes : IfOk r (λ _. OneSymbolChangesFew o member x.n frame block after)

  -- One call on a design with its tables.
  pub data Step (code_of : F → ℕ) (order : ℕ) : Request F → Held F → Answer F → Held F → Type 0 where
    puts : {d : Draft} {i power code : ℕ} {r : Result (Unit {0}) DesignFault} {g g' f : List F}
        → Puts code_of order d.n i power code g r g'
        → Step code_of order (asked.Put i power code) (held (standing.Draft d) g f) (answered.Put r) (held (standing.Draft d) g' f)
    frames : {d : Draft} {x : Framed} {w w' : _} {g f f' : List F}
        → Frames o member d.n g f (vec_items w) f' (vec_items w') x.n x.degree x.divisor x.columns
        → Step code_of order (asked.Frame w) (held (standing.Draft d) g f) (answered.Frame (Ok tt) w') (held (standing.Framed x) g f')
    frame_refused : {d : Draft} {e : DesignFault} {w w' : _} {g f : List F}
        → FrameRefused o member d.n g f (vec_items w) (vec_items w') e
        → Step code_of order (asked.Frame w) (held (standing.Draft d) g f) (answered.Frame (Err e) w') (held (standing.Draft d) g f)
    offers : {d : Draft} {x : Framed} {p w w' : _} {g f f' : List F}
        → Offers o member d.n g (vec_items p) f (vec_items w) f' (vec_items w') x.n x.degree x.divisor x.columns
        → Step code_of order (asked.Offer p w) (held (standing.Draft d) g f) (answered.Offer (Ok tt) p w') (held (standing.Framed x) g f')
    offer_refused : {d : Draft} {e : DesignFault} {p w w' : _} {g f : List F}
        → OfferRefused o member d.n g (vec_items p) f (vec_items w) (vec_items w') e
        → Step code_of order (asked.Offer p w) (held (standing.Draft d) g f) (answered.Offer (Err e) p w') (held (standing.Draft d) g f)
    reopens : {x : Framed} {d : Draft} {g f f' : List F}
        → first_no (reopen_questions (length f)) ≡ None → d.n ≡ x.n → Cleared o member f'
        → Step code_of order asked.Reopen (held (standing.Framed x) g f) (answered.Reopen (Ok tt)) (held (standing.Draft d) g f')
    reopen_refused : {x : Framed} {e : DesignFault} {g f : List F}
        → first_no (reopen_questions (length f)) ≡ Some e
        → Step code_of order asked.Reopen (held (standing.Framed x) g f) (answered.Reopen (Err e)) (held (standing.Framed x) g f)
    encodes : {x : Framed} {r : Result (Unit {0}) LinkFault} {m b b' : _} {g f : List F}
        → EncodeCall x g (vec_items m) (vec_items b) r (vec_items b')
        → Step code_of order (asked.Encode m b) (held (standing.Framed x) g f) (answered.Encode r m b') (held (standing.Framed x) g f)
    checks : {x : Framed} {r : Result Bool LinkFault} {b : _} {g f : List F}
        → CheckCall x f (vec_items b) r
        → Step code_of order (asked.Check b) (held (standing.Framed x) g f) (answered.Check r b) (held (standing.Framed x) g f)
    inverts : {x : Framed} {r : Result (Unit {0}) LinkFault} {b m m' : _} {g f : List F}
        → InvertCall x f (vec_items b) (vec_items m) r (vec_items m')
        → Step code_of order (asked.Invert b m) (held (standing.Framed x) g f) (answered.Invert r b m') (held (standing.Framed x) g f)
    turned_away : {q : Request F} {s : Held F} → admits s.design q ≡ false → Step code_of order q s (answered.NotAdmitted q) s

  -- where the design is framed, its tables hold what a framed design promises
  abbrev pub Stands : Design → (generators frame : List F) → Type 0
  Stands (standing.Draft d) g f = Unit {0}
  Stands (standing.Framed x) g f = StandsFramed o member x.n g f x.degree x.divisor x.columns

  -- the block encodes that message of L symbols by the generators
  abbrev pub Sent : Framed → (generators : List F) → (L : ℕ) (message : ℕ → R) (block : List F) → Type 0
  Sent x g L message block = Encodes o x.n (generator_in o member g) L message (stream o member x.n block)

  -- What a framed design promises of a granted call on the link: encode sends the message; check says yes exactly where some message was
  -- sent; invert gives the message that was sent, and one changed symbol of the block changes at most (degree of column 0) + 1 symbols
  -- of it.
  abbrev pub Promised : Framed → (generators frame : List F) → Answer F → Type 0
  Promised x g f (answered.Put r) = Unit {0}
  Promised x g f (answered.Frame r work) = Unit {0}
  Promised x g f (answered.Offer r offered work) = Unit {0}
  Promised x g f (answered.Reopen r) = Unit {0}
  Promised x g f (answered.Encode r m b) =
      OnOk r (Sent x g (length (vec_items m)) (message_series o member (vec_items m)) (vec_items b))
  Promised x g f (answered.Check r b) =
      IfOk r (Tells ((message : ℕ → R) × Sent x g (symbols_in x.n x.degree (length (vec_items b))) message (vec_items b)))
  Promised x g f (answered.Invert r b m) =
      MatchResult r
      (λ _. ((message : ℕ → R) → Sent x g (length (vec_items m)) message (vec_items b) → message_series o member (vec_items m) ≡ message)
      × OneSymbolChangesFew o member x.n f (vec_items b) (vec_items m))
      (λ _. Unit {0})
  Promised x g f (answered.NotAdmitted q) = Unit {0}

  abbrev pub PromisedOf : Design → (generators frame : List F) → Answer F → Type 0
  PromisedOf (standing.Draft d) g f a = Unit {0}
  PromisedOf (standing.Framed x) g f a = Promised x g f a

  -- One call of a run whose design, where it is framed, keeps its promises: before and after the call, and in its answer.
  pub record SafeStep (code_of : F → ℕ) (order : ℕ) (q : Request F) (s : Held F) (a : Answer F) (t : Held F) : Type 0 where
    pub before : Stands s.design s.generators s.frame
    pub step : Step code_of order q s a t
    pub after : Stands t.design t.generators t.frame
    pub promised : PromisedOf s.design s.generators s.frame a

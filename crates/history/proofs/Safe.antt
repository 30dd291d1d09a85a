-- A run whose design, where it is framed, keeps its promises, goes on so. Assumes nothing.
use Rattle.std.proofs.Common.{◌≡◌, ℕ, zero, suc, ◌-◌, ◌<◌, ◌≤◌, Bool, true, false, eqb, ◌⊎◌, List, ◌∷◌, length, IfOk, None, Ok, Err, Result, sym, refl, ap, ◌∙◌, subst, inl, inr, true≢false, arith, MatchResult}
use mathlib.Core.Path.{fun_ext}
use Rattle.std.proofs.lemmas.Bool.Decides.{eqb_tells}
use Rattle.algebra.specs.Divisors.{Monic, DividedRow, VectorDegree}
use Rattle.algebra.specs.Optimal.{DegreeOptimal}
use Rattle.algebra.specs.Rings.{RingOps, FieldLaws}
use Rattle.algebra.specs.Series.{series, Degree}
use Rattle.algebra.proofs.Series as S
use Rattle.fields.specs.Questions.{Question, first_no, asks}
use Rattle.frames.specs.Rows.{generator_in}
use Rattle.framing.specs.Framing.{column_in, divisor_in}
use Rattle.design.specs.declared.framed.Framed.{Framed}
use Rattle.design.specs.Frames.{Frames}
use Rattle.design.specs.Offers.{Offers}
use Rattle.design.specs.Standing.{StandsFramed}
use Rattle.link.specs.declared.fault.LinkFault.{LinkFault}
use Rattle.link.specs.Blocks.{message_series, Tells}
use Rattle.link.specs.Guarantees.{OptimalFrame, OneSymbolChangesFew}
use Rattle.link.specs.Questions.{link_questions, symbols_in}
use Rattle.history.specs.declared.request.Design.{Design}
use Rattle.history.specs.declared.request.Design.TheVariants as standing
use Rattle.history.specs.declared.request.Request.{Request}
use Rattle.history.specs.declared.request.Answer.{Answer}
use Rattle.history.specs.declared.request.Answer.TheVariants as answered
use Rattle.history.specs.Runs.{Performs, Performs.done, Performs.next}
use Rattle.history.specs.Steps.{Held, held, Step, Stands, Sent, PromisedOf, SafeStep, EncodeCall, CheckCall, InvertCall}
use Rattle.history.specs.Steps as steps

-- questions that were all passed were passed one by one
second_passed : {E : Type 0} (a b : Bool) (x y : E) (qs : List (Question E)) → None ≡ first_no (asks a x ∷ asks b y ∷ qs) → b ≡ true
second_passed true true x y qs passed = refl
second_passed true false x y qs passed = cc
second_passed false b x y qs passed = cc

-- a call that the link grants is on a design whose divisor has degree 0
granted_divisor : (exact table n d e L long : ℕ) → None ≡ first_no (link_questions exact table n d e L long) → e ≡ 0
granted_divisor exact table n d e L long passed = go (eqb_tells e 0) where
  go : ((eqb e 0 ≡ true) × (e ≡ 0)) ⊎ ((eqb e 0 ≡ false) × (e ≡ 0 → ⊥)) → e ≡ 0
  go (inl both) = both.1
  go (inr neither) = absurd (true≢false (sym (second_passed _ _ _ _ _ passed) ∙ neither.0))

module _ {F R : Type 0} (o : RingOps R) (member : F → R) (laws : FieldLaws o) where
  -- a monic polynomial of degree 0 is 1
  one_of : (g : ℕ → R) → Monic o g → Degree o g 0 → g ≡ (series o).one
  one_of g monic degree = fun_ext coefficient where
    first : (k : ℕ) → g k ≡ o.one → g 0 ≡ o.one
    first zero top = top
    first (suc k) top = absurd (laws.zero_not_one (sym (degree.below (suc k) (omega arith)) ∙ top))

    coefficient : (k : ℕ) → g k ≡ (series o).one k
    coefficient zero = first monic.degree monic.leading
    coefficient (suc k) = degree.below (suc k) (omega arith)

  -- a row divided by 1 is the row
  same_row : (n : ℕ) (a : ℕ → ℕ → R) (g : ℕ → R) (r : ℕ → ℕ → R) → g ≡ (series o).one → DividedRow o n a g r → (i : ℕ) → i < n → r i ≡ a i
  same_row n a g r one divided i l =
      sym ((S.series_laws o laws.ring).product_one (r i)) ∙ (S.series_laws o laws.ring).product_comm (r i) (series o).one
      ∙ ap (λ h. (series o).product h (r i)) (sym one) ∙ divided.is i l

  same_degree : (n : ℕ) (a r : ℕ → ℕ → R) (d : ℕ) → ((i : ℕ) → i < n → r i ≡ a i) → VectorDegree o n r d → VectorDegree o n a d
  same_degree n a r d same degree =
      record {
        bounded = λ i l k above. sym (ap (λ h. h k) (same i l)) ∙ degree.bounded i l k above;
        component = degree.component;
        within = degree.within;
        top = λ none. degree.top (ap (λ h. h d) (same degree.component degree.within) ∙ none);
      }

  -- a framed design with divisor 1 has what the statements on blocks ask for
  optimal_frame : (x : Framed) (g f : List F) → StandsFramed o member x.n g f x.degree x.divisor x.columns → x.divisor ≡ 0
      → OptimalFrame o member x.n x.degree (generator_in o member g) f
  optimal_frame x g f stands none =
      let one = one_of (divisor_in o member f) stands.optimal.divisor.monic (subst (λ (e : ℕ). Degree o (divisor_in o member f) e) none stands.divisor_degree) in
      record {
        degree = same_degree x.n (generator_in o member g) stands.row x.degree (same_row x.n (generator_in o member g) (divisor_in o member f) stands.row one stands.divided) stands.row_degree;
        columns = subst (λ (h : ℕ → R). DegreeOptimal o (x.n - 1) (generator_in o member g) h (column_in o member f)) one stands.optimal;
      }

  encode_promised : (x : Framed) (g f m b b' : List F) (r : Result (Unit {0}) LinkFault) → StandsFramed o member x.n g f x.degree x.divisor x.columns
      → EncodeCall o member x g m b r b' → IfOk r (λ _. Sent o member x g (length m) (message_series o member m) b')
  encode_promised x g f m b b' (Ok u) stands call =
      call.encodes (optimal_frame x g f stands (granted_divisor 136 (length g) x.n x.degree x.divisor (length m) (length b) call.answer)).degree.bounded
  encode_promised x g f m b b' (Err e) stands call = tt

  check_promised : (x : Framed) (g f b : List F) (r : Result Bool LinkFault) → StandsFramed o member x.n g f x.degree x.divisor x.columns
      → CheckCall o member x f b r
      → IfOk r (Tells ((message : ℕ → R) × Sent o member x g (symbols_in x.n x.degree (length b)) message b))
  check_promised x g f b (Ok clean) stands call =
      call.encoded (generator_in o member g)
      (optimal_frame x g f stands (granted_divisor 1105 (length f) x.n x.degree x.divisor (symbols_in x.n x.degree (length b)) (length b) call.answer))
  check_promised x g f b (Err e) stands call = tt

  invert_promised : (x : Framed) (g f b m m' : List F) (r : Result (Unit {0}) LinkFault) → StandsFramed o member x.n g f x.degree x.divisor x.columns
      → InvertCall o member x f b m r m'
      → MatchResult r
      (λ _. ((message : ℕ → R) → Sent o member x g (length m') message b → message_series o member m' ≡ message) × OneSymbolChangesFew o member x.n f b m')
      (λ _. Unit {0})
  invert_promised x g f b m m' (Ok u) stands call =
      let none = granted_divisor 1105 (length f) x.n x.degree x.divisor (length m) (length b) call.answer in
      (λ message sent. call.home (generator_in o member g) message (optimal_frame x g f stands none) sent, call.changes)
  invert_promised x g f b m m' (Err e) stands call = tt

  -- what frame promises is what a framed design promises
  stands_framed : (n : ℕ) (g f w f' w' : List F) (count degree divisor columns : ℕ) → 2 ≤ n → Frames o member n g f w f' w' count degree divisor columns
      → StandsFramed o member count g f' degree divisor columns
  stands_framed n g f w f' w' count degree divisor columns low granted =
      let frame = granted.holds.is_frame in
      let whole : suc (n - 1) ≡ n = omega arith in
      subst (λ (m : ℕ). StandsFramed o member m g f' degree divisor columns) (sym granted.same_count)
      (record {
        optimal = granted.optimal;
        row = frame.row;
        divided = subst (λ (m : ℕ). DividedRow o m (generator_in o member g) (divisor_in o member f') frame.row) whole frame.divided;
        row_degree = subst (λ (m : ℕ). VectorDegree o m frame.row degree) whole frame.degree;
        divisor_degree = granted.holds.divisor_degree;
        column_degrees = granted.holds.column_degrees;
      })

  -- what offer promises is what a framed design promises
  stands_offered : (n : ℕ) (g p f w f' w' : List F) (count degree divisor columns : ℕ) → Offers o member n g p f w f' w' count degree divisor columns
      → StandsFramed o member count g f' degree divisor columns
  stands_offered n g p f w f' w' count degree divisor columns granted =
      subst (λ (m : ℕ). StandsFramed o member m g f' degree divisor columns) (sym granted.same_count) granted.stands

  -- a request that is turned away promises nothing
  turned_promised : (d : Design) (g f : List F) (q : Request F) → PromisedOf o member d g f (answered.NotAdmitted q)
  turned_promised (standing.Draft d) g f q = tt
  turned_promised (standing.Framed x) g f q = tt

  module _ (code_of : F → ℕ) (order : ℕ) where
    safe : (q : Request F) (s : Held F) (a : Answer F) (t : Held F) → Stands o member s.design s.generators s.frame → Step o member code_of order q s a t
        → SafeStep o member code_of order q s a t
    safe q s a t before (steps.puts call) = record { before = before; step = steps.puts call; after = tt; promised = tt }
    safe q s a t before (steps.frames {d} call) =
        record { before = before; step = steps.frames call; after = stands_framed _ _ _ _ _ _ _ _ _ _ d.low call; promised = tt }
    safe q s a t before (steps.frame_refused call) = record { before = before; step = steps.frame_refused call; after = tt; promised = tt }
    safe q s a t before (steps.offers {x = x} call) =
        record { before = before; step = steps.offers call; after = stands_offered _ _ _ _ _ _ _ _ _ _ _ call; promised = tt }
    safe q s a t before (steps.offer_refused call) = record { before = before; step = steps.offer_refused call; after = tt; promised = tt }
    safe q s a t before (steps.reopens asked same cleared) = record { before = before; step = steps.reopens asked same cleared; after = tt; promised = tt }
    safe q s a t before (steps.reopen_refused by) = record { before = before; step = steps.reopen_refused by; after = before; promised = tt }
    safe q s a t before (steps.encodes call) =
        record { before = before; step = steps.encodes call; after = before; promised = encode_promised _ _ _ _ _ _ _ before call }
    safe q s a t before (steps.checks call) = record { before = before; step = steps.checks call; after = before; promised = check_promised _ _ _ _ _ before call }
    safe q s a t before (steps.inverts call) =
        record { before = before; step = steps.inverts call; after = before; promised = invert_promised _ _ _ _ _ _ _ before call }
    safe q s a t before (steps.turned_away by) = record { before = before; step = steps.turned_away by; after = before; promised = turned_promised s.design s.generators s.frame q }

    pub safe_run : (qs : List (Request F)) (s : Held F) (rs : List (Answer F)) (t : Held F) → Stands o member s.design s.generators s.frame
        → Performs (Step o member code_of order) qs s rs t → Performs (SafeStep o member code_of order) qs s rs t
    safe_run qs s rs t before done = done
    safe_run qs s rs t before (next {q = q} {qs = qs'} {r = r} {rs = rs'} {t = mid} one more) =
        let so = safe q s r mid before one in next so (safe_run qs' mid rs' t so.after more)

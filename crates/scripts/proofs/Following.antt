-- What follows a keyword, number by number.
use Rattle.std.proofs.Common.{◌≡◌, ℕ, List, [], ◌∷◌, Ok, Err, Result, sym, refl, subst, MatchResult}
use Rattle.std.specs.Result.{IsErrAnd}
use Rattle.std.proofs.lemmas.Result.{MatchResult-weaker}
use Rattle.scripts.specs.declared.arguments.Unread.{Unread}
use Rattle.scripts.specs.declared.arguments.Unread.TheVariants.{NoFit, NoMemory}
use Rattle.scripts.specs.declared.call.Call.{Call}
use Rattle.scripts.specs.declared.call.Call.TheVariants as call
use Rattle.scripts.specs.declared.call.Keyword.{Keyword}
use Rattle.scripts.specs.declared.call.Keyword.TheVariants as key
use Rattle.scripts.specs.Meaning.{Numbers, StartsWith, Fails, Taken, Means}

pub fails_weaker : (e : Unread) (P Q : Type 0) → (Q → P) → Fails e P → Fails e Q
fails_weaker NoFit P Q f h = λ q. h (f q)
fails_weaker NoMemory P Q f h = tt

pub fails_never : (e : Unread) → Fails e ⊥
fails_never NoFit = λ h. h
fails_never NoMemory = tt

-- a number at the front of numbers
pub numbers_head : (ws : List (List ℕ)) (n : ℕ) (ns : List ℕ) → Numbers ws (n ∷ ns) → (n : ℕ) × (rest : List (List ℕ)) × StartsWith ws n rest
numbers_head [] n ns h = absurd h
numbers_head (w ∷ ws) n ns h = (n, ws, (h.0, refl))

pub starts_numbers : (ws rest : List (List ℕ)) (n : ℕ) (ns : List ℕ) → StartsWith ws n rest → Numbers rest ns → Numbers ws (n ∷ ns)
starts_numbers [] rest n ns s h = absurd s
starts_numbers (w ∷ ws) rest n ns s h = (s.0, subst (λ (l : List (List ℕ)). Numbers l ns) (sym s.1) h)

pub starts_tail : (ws rest : List (List ℕ)) (n m : ℕ) (ns : List ℕ) → StartsWith ws n rest → Numbers ws (m ∷ ns) → Numbers rest ns
starts_tail [] rest n m ns s h = absurd s
starts_tail (w ∷ ws) rest n m ns s h = subst (λ (l : List (List ℕ)). Numbers l ns) s.1 h.1

none_numbers : (ws : List (List ℕ)) → Numbers ws [] → ws ≡ []
none_numbers [] h = refl
none_numbers (w ∷ ws) h = absurd h

numbers_none : (ws : List (List ℕ)) → ws ≡ [] → Numbers ws []
numbers_none ws e = subst (λ (l : List (List ℕ)). Numbers l []) (sym e) tt

-- nothing follows a call
abbrev Bare : List (List ℕ) → Call → Result Call Unread → Type 0
Bare ws call r = MatchResult r (λ c. (ws ≡ []) × (c ≡ call)) (λ e. Fails e (ws ≡ []))

pub begin_taken : (ws rest : List (List ℕ)) (n : ℕ) (r : Result Call Unread) → StartsWith ws n rest → Bare rest (call.Begin n) r → Taken key.Begin ws r
begin_taken ws rest n r s b =
    MatchResult-weaker r b (λ c h. (n, starts_numbers ws rest n [] s (numbers_none rest h.0), h.1))
    (λ e f. fails_weaker e (rest ≡ []) ((c : Call) × Means key.Begin ws c) (λ m. none_numbers rest (starts_tail ws rest n m.1.0 [] s m.1.1)) f)

pub column_taken : (ws us rest : List (List ℕ)) (i j : ℕ) (r : Result Call Unread) → StartsWith ws i us → StartsWith us j rest → Bare rest (call.Column i j) r → Taken key.Column ws r
column_taken ws us rest i j r s t b =
    MatchResult-weaker r b (λ c h. (i, j, starts_numbers ws us i (j ∷ []) s (starts_numbers us rest j [] t (numbers_none rest h.0)), h.1))
    (λ e f. fails_weaker e (rest ≡ []) ((c : Call) × Means key.Column ws c) (λ m. none_numbers rest (starts_tail us rest j m.1.1 [] t (starts_tail ws us i m.1.0 (m.1.1 ∷ []) s m.1.2))) f)

pub put_taken : (ws us vs rest : List (List ℕ)) (i power code : ℕ) (r : Result Call Unread) → StartsWith ws i us → StartsWith us power vs → StartsWith vs code rest → Bare rest (call.Put i power code) r → Taken key.Put ws r
put_taken ws us vs rest i power code r s t u b =
    MatchResult-weaker r b
    (λ c h. (i, power, code, starts_numbers ws us i (power ∷ code ∷ []) s (starts_numbers us vs power (code ∷ []) t (starts_numbers vs rest code [] u (numbers_none rest h.0))), h.1))
    (λ e f. fails_weaker e (rest ≡ []) ((c : Call) × Means key.Put ws c)
    (λ m. none_numbers rest (starts_tail vs rest code m.1.2 [] u (starts_tail us vs power m.1.1 (m.1.2 ∷ []) t (starts_tail ws us i m.1.0 (m.1.1 ∷ m.1.2 ∷ []) s m.1.3)))) f)

-- the exit of a `?`: nothing fits, where nothing fitted the call before
pub refused : {A : Type 0} (R : A → Type 0) (Q : Type 0) (r : Result A Unread) (y : Unread) (P : Type 0) → IsErrAnd r (λ x. x ≡ y) → Fails y P → ((P → ⊥) → Q → ⊥) → MatchResult r R (λ e. Fails e Q)
refused R Q (Err NoFit) y P is f back = back (subst (λ (e : Unread). Fails e P) (sym is) f)
refused R Q (Err NoMemory) y P is f back = tt
refused R Q (Ok x) y P is f back = absurd is

-- the same of a call
pub call_refused : (k : Keyword) (ws : List (List ℕ)) (r : Result Call Unread) (y : Unread) (P : Type 0) → IsErrAnd r (λ x. x ≡ y) → Fails y P → ((c : Call) → Means k ws c → P) → Taken k ws r
call_refused k ws r y P is f back = refused (Means k ws) ((c : Call) × Means k ws c) r y P is f (λ never m. never (back m.0 m.1))

-- what the same keyword means
pub means_at : (k m : Keyword) (ws : List (List ℕ)) (c : Call) → k ≡ m → Means m ws c → Means k ws c
means_at k m ws c e h = subst (λ (k : Keyword). Means k ws c) (sym e) h

-- A loop that reads the items of a list one by one.
use Rattle.std.proofs.Common.{◌≡◌, suc, List, [], ◌∷◌, ◌++◌, length, sym, refl, ap, ◌∙◌, subst}
use Rattle.std.proofs.lemmas.List.{append-nil, append_assoc}
use Rattle.scripts.specs.Meaning.{Each}

module _ {X Y : Type 0} (R : X → Y → Type 0) where
  pub each_push : (xs : List X) (ys : List Y) (x : X) (y : Y) → Each R xs ys → R x y → Each R (xs ++ x ∷ []) (ys ++ y ∷ [])
  each_push [] [] x y e r = (r, tt)
  each_push [] (b ∷ ys) x y e r = absurd e
  each_push (a ∷ xs) [] x y e r = absurd e
  each_push (a ∷ xs) (b ∷ ys) x y e r = (e.0, each_push xs ys x y e.1 r)

  pub each_stuck : (front : List X) (x : X) (rest : List X) → ((y : Y) → R x y → ⊥) → (ys : List Y) → Each R (front ++ x ∷ rest) ys → ⊥
  each_stuck [] x rest never [] e = e
  each_stuck [] x rest never (y ∷ ys) e = never y e.0
  each_stuck (a ∷ front) x rest never [] e = e
  each_stuck (a ∷ front) x rest never (y ∷ ys) e = each_stuck front x rest never ys e.1

  -- ys are what the front of the whole stands for, and left is what is left of it
  pub record Sofar (whole left : List X) (ys : List Y) : Type 0 where
    pub front : List X
    pub split : front ++ left ≡ whole
    pub each : Each R front ys

  pub sofar_more : (whole left : List X) (ys : List Y) (x : X) (rest : List X) (y : Y) → Sofar whole left ys → left ≡ x ∷ rest → R x y → Sofar whole rest (ys ++ y ∷ [])
  sofar_more whole left ys x rest y s e r = record {
    front = s.front ++ x ∷ [];
    split = append_assoc s.front (x ∷ []) rest ∙ ap (λ l. s.front ++ l) (sym e) ∙ s.split;
    each = each_push s.front ys x y s.each r;
  }

  pub sofar_stuck : (whole left : List X) (ys : List Y) (x : X) (rest : List X) → Sofar whole left ys → left ≡ x ∷ rest → ((y : Y) → R x y → ⊥) → (zs : List Y) → Each R whole zs → ⊥
  sofar_stuck whole left ys x rest s e never zs h =
      each_stuck s.front x rest never zs (subst (λ (l : List X). Each R l zs) (sym s.split ∙ ap (λ l. s.front ++ l) e) h)

  pub sofar_all : (whole left : List X) (ys : List Y) → Sofar whole left ys → left ≡ [] → Each R whole ys
  sofar_all whole left ys s e = subst (λ (l : List X). Each R l ys) (sym (append-nil s.front) ∙ ap (λ l. s.front ++ l) (sym e) ∙ s.split) s.each

  pub each_length : (xs : List X) (ys : List Y) → Each R xs ys → length xs ≡ length ys
  each_length [] [] e = refl
  each_length [] (y ∷ ys) e = absurd e
  each_length (x ∷ xs) [] e = absurd e
  each_length (x ∷ xs) (y ∷ ys) e = ap suc (each_length xs ys e.1)

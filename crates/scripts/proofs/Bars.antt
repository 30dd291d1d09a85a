-- The columns of an offer, read word by word.
use Rattle.std.proofs.Common.{◌≡◌, ℕ, ◌<◌, true, false, List, [], ◌∷◌, ◌++◌, length, vec_items, Vec, sym, refl, ap, ◌∙◌, subst, arith}
use Rattle.std.proofs.lemmas.List.{append-nil, append_assoc, nil_from_length}
use Rattle.std.proofs.lemmas.Bool.{cond-true, cond-false}
use Rattle.std.specs.declared.alloc.Global.{Global}
use Rattle.scripts.specs.Meaning.{Each, Polynomial, Components, bar}
use Rattle.scripts.specs.Words.{onto, pieces}
use Rattle.scripts.proofs.Pieces.{joins, joins_none}
use Rattle.scripts.proofs.Each.{each_push, each_stuck, each_length, Sofar}

abbrev Words : Type 0
Words = List (List ℕ)

abbrev pub Component : List ℕ → Vec ℕ Global → Type 0
Component w p = Polynomial w (vec_items p)

abbrev pub Column : Words → Vec (Vec ℕ Global) Global → Type 0
Column us c = Components us (vec_items c)

joins_onto : (us : Words) (w : List ℕ) (ps : List Words) → joins us (onto w ps) ≡ joins (us ++ w ∷ []) ps
joins_onto us w [] = refl
joins_onto us w (p ∷ ps) = ap (λ l. l ∷ ps) (sym (append_assoc us (w ∷ []) p))

pub pieces_bar : (left : Words) (w : List ℕ) (rest : Words) → left ≡ w ∷ rest → bar w ≡ true → pieces bar left ≡ [] ∷ pieces bar rest
pieces_bar left w rest e b = ap (pieces bar) e ∙ cond-true (bar w) ([] ∷ pieces bar rest) (onto w (pieces bar rest)) b

pieces_word : (left : Words) (w : List ℕ) (rest : Words) → left ≡ w ∷ rest → bar w ≡ false → pieces bar left ≡ onto w (pieces bar rest)
pieces_word left w rest e b = ap (pieces bar) e ∙ cond-false (bar w) ([] ∷ pieces bar rest) (onto w (pieces bar rest)) b

-- the columns before, and the components of the one that is read
pub record Reading (whole left : Words) (cs : List (Vec (Vec ℕ Global) Global)) (ps : List (Vec ℕ Global)) : Type 0 where
  pub fronts : List Words
  pub us : Words
  pub split : fronts ++ joins us (pieces bar left) ≡ pieces bar whole
  pub finished : Each Column fronts cs
  pub current : Each Component us ps

pub reading_none : (whole : Words) → Reading whole whole [] []
reading_none whole = record { fronts = []; us = []; split = joins_none bar whole; finished = tt; current = tt }

pub reading_word : (whole left : Words) (cs : List (Vec (Vec ℕ Global) Global)) (ps : List (Vec ℕ Global)) (w : List ℕ) (rest : Words) (p : Vec ℕ Global) → Reading whole left cs ps → left ≡ w ∷ rest → bar w ≡ false → Component w p → Reading whole rest cs (ps ++ p ∷ [])
reading_word whole left cs ps w rest p r e b h = record {
  fronts = r.fronts;
  us = r.us ++ w ∷ [];
  split = ap (λ l. r.fronts ++ l) (sym (joins_onto r.us w (pieces bar rest)) ∙ ap (joins r.us) (sym (pieces_word left w rest e b))) ∙ r.split;
  finished = r.finished;
  current = each_push Component r.us ps w p r.current h;
}

-- a column ends
pub reading_close : (whole left : Words) (cs : List (Vec (Vec ℕ Global) Global)) (c : Vec (Vec ℕ Global) Global) (more : List Words) → Reading whole left cs (vec_items c) → pieces bar left ≡ [] ∷ more → 0 < length (vec_items c) → Sofar Column (pieces bar whole) more (cs ++ c ∷ [])
reading_close whole left cs c more r e some = record {
  front = r.fronts ++ r.us ∷ [];
  split = append_assoc r.fronts (r.us ∷ []) more ∙ ap (λ u. r.fronts ++ u ∷ more) (sym (append-nil r.us)) ∙ ap (λ l. r.fronts ++ joins r.us l) (sym e) ∙ r.split;
  each = each_push Column r.fronts cs r.us c r.finished (omega (arith, each_length Component r.us (vec_items c) r.current), r.current);
}

pub reading_next : (whole rest : Words) (cs : List (Vec (Vec ℕ Global) Global)) → Sofar Column (pieces bar whole) (pieces bar rest) cs → Reading whole rest cs []
reading_next whole rest cs s = record { fronts = s.front; us = []; split = ap (λ l. s.front ++ l) (joins_none bar rest) ∙ s.split; finished = s.each; current = tt }

-- no column fits
module _ (whole left : Words) (cs : List (Vec (Vec ℕ Global) Global)) (ps : List (Vec ℕ Global)) (r : Reading whole left cs ps) where
  refuted : (us : Words) (more : List Words) → joins r.us (pieces bar left) ≡ us ∷ more → ((c : Vec (Vec ℕ Global) Global) → Column us c → ⊥) → (zs : List (Vec (Vec ℕ Global) Global)) → Each Column (pieces bar whole) zs → ⊥
  refuted us more e never zs h =
      each_stuck Column r.fronts us more never zs (subst (λ (l : List Words). Each Column l zs) (sym r.split ∙ ap (λ l. r.fronts ++ l) e) h)

  pub empty_refuted : (more : List Words) → pieces bar left ≡ [] ∷ more → length ps ≡ 0 → (zs : List (Vec (Vec ℕ Global) Global)) → Each Column (pieces bar whole) zs → ⊥
  empty_refuted more e none =
      let long = each_length Component r.us ps r.current in
      let nil : r.us ≡ [] = nil_from_length r.us (omega arith) in
      refuted [] more (ap (joins r.us) e ∙ ap (λ u. (u ++ []) ∷ more) nil) (λ c h. let z = h.0 in omega arith)

  onto_first : (w : List ℕ) (qs : List Words) → (p : Words) × (more : List Words) × (onto w qs ≡ (w ∷ p) ∷ more)
  onto_first w [] = ([], [], refl)
  onto_first w (q ∷ qs) = (q, qs, refl)

  pub word_refuted : (w : List ℕ) (rest : Words) → left ≡ w ∷ rest → bar w ≡ false → ((ns : List ℕ) → Polynomial w ns → ⊥) → (zs : List (Vec (Vec ℕ Global) Global)) → Each Column (pieces bar whole) zs → ⊥
  word_refuted w rest e b never =
      let o = onto_first w (pieces bar rest) in
      refuted (r.us ++ w ∷ o.0) o.1 (ap (joins r.us) (pieces_word left w rest e b ∙ o.2)) (λ c h. each_stuck Component r.us w o.0 (λ p. never (vec_items p)) (vec_items c) h.1)

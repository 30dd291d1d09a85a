-- A text cut at its first mark.
use Rattle.std.proofs.Common.{Bool, cond, ◌||◌, ◌++◌, add-zero, ◌≡◌, ℕ, zero, suc, ◌+◌, ◌<◌, ◌≤◌, ◌⊎◌, true, false, List, [], ◌∷◌, length, get_or, take, drop, Some, None, Option, refl, sym, ap, ◌∙◌, arith, add-one, length-drop, Bor, MatchOption}
use Rattle.std.specs.List.{slice_range}
use Rattle.std.proofs.lemmas.List.{append-nil, get_or-drop, length-take-le, drop-drop, drop_all, take_all}
use Rattle.std.proofs.lemmas.Bool.{cond-true, cond-false, cond_both, or_from, or_parts, eqb-true, false_from_ne_true, false≢true}
use Rattle.scripts.specs.declared.words.Mark.{Mark}
use Rattle.scripts.specs.declared.words.Mark.TheVariants.{Blank, Bar, Break}
use Rattle.scripts.specs.Words.{marks, onto, pieces, first_of, filled, spaced, words}

pieces_whole : (m : Mark) (bs : List ℕ) → ((k : ℕ) → k < length bs → marks m (get_or bs k 0) ≡ false) → pieces (marks m) bs ≡ bs ∷ []
pieces_whole m [] h = refl
pieces_whole m (b ∷ bs) h =
    cond-false (marks m b) ([] ∷ pieces (marks m) bs) (onto b (pieces (marks m) bs)) (h 0 (omega arith))
    ∙ ap (onto b) (pieces_whole m bs (λ k l. h (suc k) (omega arith)))

pieces_cut : (m : Mark) (n : ℕ) (bs : List ℕ) → n < length bs → ((k : ℕ) → k < n → marks m (get_or bs k 0) ≡ false) → marks m (get_or bs n 0) ≡ true → pieces (marks m) bs ≡ take n bs ∷ pieces (marks m) (drop (suc n) bs)
pieces_cut m n [] l h e = absurd (omega arith)
pieces_cut m zero (b ∷ bs) l h e = cond-true (marks m b) ([] ∷ pieces (marks m) bs) (onto b (pieces (marks m) bs)) e
pieces_cut m (suc n) (b ∷ bs) l h e =
    cond-false (marks m b) ([] ∷ pieces (marks m) bs) (onto b (pieces (marks m) bs)) (h 0 (omega arith))
    ∙ ap (onto b) (pieces_cut m n bs (omega arith) (λ k l. h (suc k) (omega arith)) e)

filled_more : (p : List ℕ) (ps : List (List ℕ)) → 0 < length p → filled (p ∷ ps) ≡ p ∷ filled ps
filled_more [] ps h = absurd (omega arith)
filled_more (b ∷ p) ps h = refl

-- what `cut_at` says, whether or not there is a mark
piece_first : (m : Mark) (text p : List ℕ) (o : Option (Bor (List ℕ))) → MatchOption o (pieces (marks m) text ≡ p ∷ []) (λ x. pieces (marks m) text ≡ p ∷ pieces (marks m) x.now) → (more : List (List ℕ)) × (pieces (marks m) text ≡ p ∷ more)
piece_first m text p None h = ([], h)
piece_first m text p (Some x) h = (pieces (marks m) x.now, h)

slice_range_rest : (xs : List ℕ) → slice_range xs 1 (length xs) ≡ drop 1 xs
slice_range_rest xs = take_all _ _ (omega (arith, length-drop 1 xs))

-- what a text is that is cut after n bytes, the first of which that is a mark is the nth
pub cut_pieces : (m : Mark) (n : ℕ) (text front back : List ℕ) (rest : Option (Bor (List ℕ))) → n ≤ length text → ((k : ℕ) → k < n → marks m (get_or text k 0) ≡ false) → (n < length text → marks m (get_or text n 0) ≡ true) → front ≡ take n text → back ≡ drop n text → MatchOption rest ((length back < 1) ⊎ (length back < length back)) (λ x. (1 ≤ length back) × (length back ≤ length back) × (x.now ≡ slice_range back 1 (length back)) × (length x.now + 1 ≡ length back)) → MatchOption rest (pieces (marks m) text ≡ front ∷ []) (λ x. pieces (marks m) text ≡ front ∷ pieces (marks m) x.now)
cut_pieces m n text front back None inside none here e f h =
    let end : n ≡ length text = omega (arith, h, ap length f, length-drop n text) in
    pieces_whole m text (λ k l. none k (omega arith)) ∙ ap (λ p. p ∷ []) (sym (e ∙ take_all n text (omega arith)))
cut_pieces m n text front back (Some x) inside none here e f h =
    let before : n < length text = omega (arith, h, ap length f, length-drop n text) in
    let rest : x.now ≡ drop (suc n) text = h.2 ∙ slice_range_rest back ∙ ap (λ l. drop 1 l) f ∙ drop-drop 1 n text ∙ ap (λ k. drop k text) (add-one n) in
    rw (e, rest) (pieces_cut m n text before none (here before))

pub first_piece : (m : Mark) (text p : List ℕ) (o : Option (Bor (List ℕ))) → MatchOption o (pieces (marks m) text ≡ p ∷ []) (λ x. pieces (marks m) text ≡ p ∷ pieces (marks m) x.now) → first_of (pieces (marks m) text) ≡ p
first_piece m text p o h = ap first_of (piece_first m text p o h).1

-- items in front of the first piece
abbrev pub joins : {X : Type 0} → List X → List (List X) → List (List X)
joins us [] = us ∷ []
joins us (p ∷ ps) = (us ++ p) ∷ ps

joins_nothing : {X : Type 0} (x : X) (ps : List (List X)) → joins [] (onto x ps) ≡ onto x ps
joins_nothing x [] = refl
joins_nothing x (p ∷ ps) = refl

pub joins_none : {X : Type 0} (t : X → Bool) (xs : List X) → joins [] (pieces t xs) ≡ pieces t xs
joins_none t [] = refl
joins_none t (x ∷ xs) = cond_both (t x) ([] ∷ pieces t xs) (onto x (pieces t xs)) (λ ps. joins [] ps ≡ ps) (λ e. refl) (λ e. joins_nothing x (pieces t xs))

onto_joins : (b : ℕ) (us : List ℕ) (ps : List (List ℕ)) → onto b (joins us ps) ≡ joins (b ∷ us) ps
onto_joins b us [] = refl
onto_joins b us (p ∷ ps) = refl

-- the pieces of a text between its blanks, with a blank on either side of each bar
abbrev parts : List ℕ → List (List ℕ)
parts bs = pieces (marks Blank) (spaced bs)

parts_bar : (b : ℕ) (bs : List ℕ) → marks Bar b ≡ true → parts (b ∷ bs) ≡ [] ∷ (124 ∷ []) ∷ parts bs
parts_bar b bs e = ap (pieces (marks Blank)) (cond-true (marks Bar b) (32 ∷ 124 ∷ 32 ∷ spaced bs) (b ∷ spaced bs) e)

parts_other : (b : ℕ) (bs : List ℕ) → marks Bar b ≡ false → parts (b ∷ bs) ≡ cond (marks Blank b) ([] ∷ parts bs) (onto b (parts bs))
parts_other b bs e = ap (pieces (marks Blank)) (cond-false (marks Bar b) (32 ∷ 124 ∷ 32 ∷ spaced bs) (b ∷ spaced bs) e)

parts_blank : (b : ℕ) (bs : List ℕ) → marks Bar b ≡ false → marks Blank b ≡ true → parts (b ∷ bs) ≡ [] ∷ parts bs
parts_blank b bs e f = parts_other b bs e ∙ cond-true (marks Blank b) ([] ∷ parts bs) (onto b (parts bs)) f

parts_onto : (b : ℕ) (bs : List ℕ) → marks Bar b ≡ false → marks Blank b ≡ false → parts (b ∷ bs) ≡ onto b (parts bs)
parts_onto b bs e f = parts_other b bs e ∙ cond-false (marks Blank b) ([] ∷ parts bs) (onto b (parts bs)) f

blank_no_bar : (b : ℕ) → marks Blank b ≡ true → marks Bar b ≡ false
blank_no_bar b e = false_from_ne_true (marks Bar b) (λ t. false≢true (sym (ap (marks Blank) (eqb-true b 124 t)) ∙ e))

-- what is no blank and no bar ends no word
no_break : (b : ℕ) → marks Break b ≡ false → (marks Bar b ≡ false) × (marks Blank b ≡ false)
no_break b e = or_parts (marks Bar b) (marks Blank b) e

-- n bytes in front that end no word
parts_front : (n : ℕ) (bs : List ℕ) → n ≤ length bs → ((k : ℕ) → k < n → marks Break (get_or bs k 0) ≡ false) → parts bs ≡ joins (take n bs) (parts (drop n bs))
parts_front zero bs l none = sym (joins_none (marks Blank) (spaced bs))
parts_front (suc n) [] l none = absurd (omega arith)
parts_front (suc n) (b ∷ bs) l none =
    let other = no_break b (none 0 (omega arith)) in
    parts_onto b bs other.0 other.1
    ∙ ap (onto b) (parts_front n bs (omega arith) (λ k h. none (suc k) (omega arith)))
    ∙ onto_joins b (take n bs) (parts (drop n bs))

or_right : (a b : Bool) → (a || b) ≡ true → a ≡ false → b ≡ true
or_right a b h e = sym (ap (λ x. x || b) e) ∙ h

-- a text that is empty, or begins with what ends a word, has nothing in front of it
parts_end : (bs : List ℕ) → (0 < length bs → marks Break (get_or bs 0 0) ≡ true) → (ps : List (List ℕ)) × (parts bs ≡ [] ∷ ps)
parts_end [] ends = ([], refl)
parts_end (b ∷ bs) ends =
    cond_both (marks Bar b) (32 ∷ 124 ∷ 32 ∷ spaced bs) (b ∷ spaced bs) (λ l. (ps : List (List ℕ)) × (pieces (marks Blank) l ≡ [] ∷ ps))
    (λ e. ((124 ∷ []) ∷ parts bs, refl))
    (λ e. (parts bs, cond-true (marks Blank b) ([] ∷ parts bs) (onto b (parts bs)) (or_right (marks Bar b) (marks Blank b) (ends (omega arith)) e)))

-- blanks in front of a text
pub words_after : (n : ℕ) (text : List ℕ) → n ≤ length text → ((k : ℕ) → k < n → marks Blank (get_or text k 0) ≡ true) → words text ≡ words (drop n text)
words_after zero text h all = refl
words_after (suc n) [] h all = absurd (omega arith)
words_after (suc n) (b ∷ bs) h all =
    let blank = all 0 (omega arith) in
    ap filled (parts_blank b bs (blank_no_bar b blank) blank) ∙ words_after n bs (omega arith) (λ k l. all (suc k) (omega arith))

pub words_none : (text : List ℕ) → ((k : ℕ) → k < length text → marks Blank (get_or text k 0) ≡ true) → words text ≡ []
words_none text all = words_after (length text) text (omega arith) all ∙ ap words (drop_all (length text) text (omega arith))

-- a bar is a word
pub words_bar : (text : List ℕ) → 0 < length text → marks Bar (get_or text 0 0) ≡ true → words text ≡ take 1 text ∷ words (drop 1 text)
words_bar [] some e = absurd (omega arith)
words_bar (b ∷ bs) some e =
    ap filled (parts_bar b bs e) ∙ ap (λ c. (c ∷ []) ∷ words bs) (sym (eqb-true b 124 e))

-- n bytes in front, up to what ends a word, are a word
pub words_front : (n : ℕ) (text : List ℕ) → 0 < n → n ≤ length text → ((k : ℕ) → k < n → marks Break (get_or text k 0) ≡ false) → (n < length text → marks Break (get_or text n 0) ≡ true) → words text ≡ take n text ∷ words (drop n text)
words_front n text some l none ends =
    let left = drop n text in
    let at : get_or left 0 0 ≡ get_or text n 0 = get_or-drop n text 0 0 ∙ ap (λ k. get_or text k 0) (add-zero n) in
    let end : (ps : List (List ℕ)) × (parts left ≡ [] ∷ ps) = parts_end left (λ h. ap (marks Break) at ∙ ends (omega (arith, length-drop n text, h))) in
    ap filled (parts_front n text l none ∙ ap (joins (take n text)) end.1 ∙ ap (λ p. p ∷ end.0) (append-nil (take n text)))
    ∙ filled_more (take n text) end.0 (omega (arith, length-take-le n text l)) ∙ ap (λ ws. take n text ∷ ws) (sym (ap filled end.1))

-- a byte in front that is no blank and no bar is no end of a word
pub words_some : (text : List ℕ) (n : ℕ) → marks Blank (get_or text 0 0) ≡ false → marks Bar (get_or text 0 0) ≡ false → 0 < length text → (n < length text → marks Break (get_or text n 0) ≡ true) → 0 < n
words_some text zero blank bar some ends = absurd (false≢true (sym (or_from (marks Bar (get_or text 0 0)) (marks Blank (get_or text 0 0)) bar blank) ∙ ends some))
words_some text (suc n) blank bar some ends = omega arith

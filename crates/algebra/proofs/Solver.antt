-- A solver for equations of commutative rings, by reflection. For members a, b of a ring o with laws L,
--   solve o L (a ∷ b ∷ []) (var 0 ⊞ neg (var 1) ⊞ var 1) (var 0) refl  proves  a + (- b) + b ≡ a:
-- var i stands for the i-th entry of the list, 𝟎 and 𝟏 for zero and one; refl shows that both sides have one normal form.
-- Products bind closer than sums; a difference is x ⊞ neg y. What is no sum, product or negative goes into the list as a whole.
use mathlib.Core.Path.{◌≡◌, refl, sym, ap, ap₂, ◌∙◌}
use mathlib.Core.Bool.{Bool, true, false}
use mathlib.Core.List.{List, [], ◌∷◌}
use Prim.Native.Nat.{ℕ, zero, suc}
use Rattle.algebra.specs.Rings.{RingOps, RingLaws}
use Rattle.algebra.proofs.Sums as Sums

infixl 60 ◌⊞◌
infixl 70 ◌⊠◌
-- what the solver reads
pub data Expr : Type 0 where
  var : ℕ → Expr
  𝟎 𝟏 : Expr
  ◌⊞◌ ◌⊠◌ : Expr → Expr → Expr
  neg : Expr → Expr

-- a product of variables, in rising order
abbrev Monomial : Type 0
Monomial = List ℕ

-- plus (true) or minus (false) a monomial
pub data Term : Type 0 where
  signed : Bool → Monomial → Term

-- which of two stands first
pub data Order : Type 0 where
  less same more : Order

abbrev compare : ℕ → ℕ → Order
compare zero zero = same
compare zero (suc w) = less
compare (suc v) zero = more
compare (suc v) (suc w) = compare v w

abbrev sort_var : Order → ℕ → ℕ → Monomial → Monomial → Monomial
sort_var less v w ws rest = v ∷ w ∷ ws
sort_var same v w ws rest = v ∷ w ∷ ws
sort_var more v w ws rest = w ∷ rest

abbrev insert_var : ℕ → Monomial → Monomial
insert_var v [] = v ∷ []
insert_var v (w ∷ ws) = sort_var (compare v w) v w ws (insert_var v ws)

abbrev join : Monomial → Monomial → Monomial
join [] n = n
join (v ∷ m) n = insert_var v (join m n)

abbrev after : Order → Order → Order
after less r = less
after same r = r
after more r = more

abbrev order : Monomial → Monomial → Order
order [] [] = same
order [] (w ∷ n) = less
order (v ∷ m) [] = more
order (v ∷ m) (w ∷ n) = after (compare v w) (order m n)

-- terms of one monomial stand side by side and have one sign
abbrev cancel : Bool → Bool → Monomial → Monomial → List Term → List Term
cancel true true m n ts = signed true m ∷ signed true n ∷ ts
cancel true false m n ts = ts
cancel false true m n ts = ts
cancel false false m n ts = signed false m ∷ signed false n ∷ ts

abbrev sort_term : Order → Bool → Monomial → Bool → Monomial → List Term → List Term → List Term
sort_term less b m c n ts rest = signed b m ∷ signed c n ∷ ts
sort_term same b m c n ts rest = cancel b c m n ts
sort_term more b m c n ts rest = signed c n ∷ rest

abbrev insert : Bool → Monomial → List Term → List Term
insert b m [] = signed b m ∷ []
insert b m (signed c n ∷ ts) = sort_term (order m n) b m c n ts (insert b m ts)

abbrev add : List Term → List Term → List Term
add [] us = us
add (signed b m ∷ ts) us = insert b m (add ts us)

abbrev flip : Bool → Bool
flip true = false
flip false = true

abbrev sign : Bool → Bool → Bool
sign true c = c
sign false c = flip c

abbrev negate : List Term → List Term
negate [] = []
negate (signed b m ∷ ts) = signed (flip b) m ∷ negate ts

abbrev multiply_term : Bool → Monomial → List Term → List Term
multiply_term b m [] = []
multiply_term b m (signed c n ∷ us) = insert (sign b c) (join m n) (multiply_term b m us)

abbrev multiply : List Term → List Term → List Term
multiply [] us = []
multiply (signed b m ∷ ts) us = add (multiply_term b m us) (multiply ts us)

abbrev normal : Expr → List Term
normal (var i) = signed true (i ∷ []) ∷ []
normal 𝟎 = []
normal 𝟏 = signed true [] ∷ []
normal (a ⊞ b) = add (normal a) (normal b)
normal (a ⊠ b) = multiply (normal a) (normal b)
normal (neg a) = negate (normal a)

abbrev IsSame : Order → Type 0
IsSame less = ⊥
IsSame same = Unit {0}
IsSame more = ⊥

compare_same : (v w : ℕ) → IsSame (compare v w) → v ≡ w
compare_same zero zero h = refl
compare_same zero (suc w) h = absurd h
compare_same (suc v) zero h = absurd h
compare_same (suc v) (suc w) h = ap suc (compare_same v w h)

after_same : (p q : Order) → IsSame (after p q) → IsSame p × IsSame q
after_same less q h = absurd h
after_same same q h = (tt, h)
after_same more q h = absurd h

order_same : (m n : Monomial) → IsSame (order m n) → m ≡ n
order_same [] [] h = refl
order_same [] (w ∷ n) h = absurd h
order_same (v ∷ m) [] h = absurd h
order_same (v ∷ m) (w ∷ n) h =
    let both = after_same (compare v w) (order m n) h in
    ap₂ ◌∷◌ (compare_same v w both.0) (order_same m n both.1)

module _ {R : Type 0} (o : RingOps R) (L : RingLaws o) (values : List R) where
  open o use {zero as O, one as I, sum as ◌+◌, negative as -◌, product as ◌·◌}

  infixl 60 ◌+◌
  infixl 70 ◌·◌
  infix 80 -◌
  -- the value of a variable
  abbrev pub entry : List R → ℕ → R
  entry [] i = O
  entry (x ∷ xs) zero = x
  entry (x ∷ xs) (suc i) = entry xs i

  abbrev pub value : Expr → R
  value (var i) = entry values i
  value 𝟎 = O
  value 𝟏 = I
  value (a ⊞ b) = value a + value b
  value (a ⊠ b) = value a · value b
  value (neg a) = - value a

  abbrev of_monomial : Monomial → R
  of_monomial [] = I
  of_monomial (v ∷ m) = entry values v · of_monomial m

  abbrev of_sign : Bool → R → R
  of_sign true x = x
  of_sign false x = - x

  abbrev of_terms : List Term → R
  of_terms [] = O
  of_terms (signed b m ∷ ts) = of_sign b (of_monomial m) + of_terms ts

  sort_var_sound : (r : Order) (v w : ℕ) (ws rest : Monomial) → of_monomial rest ≡ entry values v · of_monomial ws
      → of_monomial (sort_var r v w ws rest) ≡ entry values v · (entry values w · of_monomial ws)
  sort_var_sound less v w ws rest e = refl
  sort_var_sound same v w ws rest e = refl
  sort_var_sound more v w ws rest e = ap (λ t. entry values w · t) e ∙ Sums.product_left_comm o L (entry values w) (entry values v) (of_monomial ws)

  insert_var_sound : (v : ℕ) (m : Monomial) → of_monomial (insert_var v m) ≡ entry values v · of_monomial m
  insert_var_sound v [] = refl
  insert_var_sound v (w ∷ ws) = sort_var_sound (compare v w) v w ws (insert_var v ws) (insert_var_sound v ws)

  join_sound : (m n : Monomial) → of_monomial (join m n) ≡ of_monomial m · of_monomial n
  join_sound [] n = sym (Sums.one_product o L (of_monomial n))
  join_sound (v ∷ m) n = insert_var_sound v (join m n) ∙ ap (λ t. entry values v · t) (join_sound m n) ∙ sym (L.product_assoc (entry values v) (of_monomial m) (of_monomial n))

  drop_opposite : (x y z : R) → x + y ≡ O → z ≡ x + (y + z)
  drop_opposite x y z e = sym (Sums.zero_sum o L z) ∙ ap (λ t. t + z) (sym e) ∙ L.sum_assoc x y z

  cancel_sound : (b c : Bool) (m n : Monomial) (ts : List Term) → m ≡ n
      → of_terms (cancel b c m n ts) ≡ of_sign b (of_monomial m) + (of_sign c (of_monomial n) + of_terms ts)
  cancel_sound true true m n ts e = refl
  cancel_sound true false m n ts e = drop_opposite (of_monomial m) (- of_monomial n) (of_terms ts) (ap (λ (t : Monomial). of_monomial t + (- of_monomial n)) e ∙ L.sum_negative (of_monomial n))
  cancel_sound false true m n ts e = drop_opposite (- of_monomial m) (of_monomial n) (of_terms ts) (ap (λ (t : Monomial). (- of_monomial t) + of_monomial n) e ∙ L.sum_comm (- of_monomial n) (of_monomial n) ∙ L.sum_negative (of_monomial n))
  cancel_sound false false m n ts e = refl

  sort_term_sound : (r : Order) (b : Bool) (m : Monomial) (c : Bool) (n : Monomial) (ts rest : List Term)
      → (IsSame r → m ≡ n) → of_terms rest ≡ of_sign b (of_monomial m) + of_terms ts
      → of_terms (sort_term r b m c n ts rest) ≡ of_sign b (of_monomial m) + (of_sign c (of_monomial n) + of_terms ts)
  sort_term_sound less b m c n ts rest s e = refl
  sort_term_sound same b m c n ts rest s e = cancel_sound b c m n ts (s tt)
  sort_term_sound more b m c n ts rest s e = ap (λ t. of_sign c (of_monomial n) + t) e ∙ Sums.sum_left_comm o L (of_sign c (of_monomial n)) (of_sign b (of_monomial m)) (of_terms ts)

  insert_sound : (b : Bool) (m : Monomial) (ts : List Term) → of_terms (insert b m ts) ≡ of_sign b (of_monomial m) + of_terms ts
  insert_sound b m [] = refl
  insert_sound b m (signed c n ∷ ts) = sort_term_sound (order m n) b m c n ts (insert b m ts) (order_same m n) (insert_sound b m ts)

  add_sound : (ts us : List Term) → of_terms (add ts us) ≡ of_terms ts + of_terms us
  add_sound [] us = sym (Sums.zero_sum o L (of_terms us))
  add_sound (signed b m ∷ ts) us = insert_sound b m (add ts us) ∙ ap (λ t. of_sign b (of_monomial m) + t) (add_sound ts us) ∙ sym (L.sum_assoc (of_sign b (of_monomial m)) (of_terms ts) (of_terms us))

  flip_sound : (b : Bool) (x : R) → of_sign (flip b) x ≡ - of_sign b x
  flip_sound true x = refl
  flip_sound false x = sym (Sums.negative_negative o L x)

  negate_sound : (ts : List Term) → of_terms (negate ts) ≡ - of_terms ts
  negate_sound [] = sym (Sums.negative_zero o L)
  negate_sound (signed b m ∷ ts) = ap₂ ◌+◌ (flip_sound b (of_monomial m)) (negate_sound ts) ∙ sym (Sums.negative_sum o L (of_sign b (of_monomial m)) (of_terms ts))

  sign_sound : (b c : Bool) (x y : R) → of_sign (sign b c) (x · y) ≡ of_sign b x · of_sign c y
  sign_sound true true x y = refl
  sign_sound true false x y = sym (Sums.product_negative o L x y)
  sign_sound false true x y = sym (Sums.negative_product o L x y)
  sign_sound false false x y = sym (Sums.negative_negative o L (x · y)) ∙ ap -◌ (sym (Sums.negative_product o L x y)) ∙ sym (Sums.product_negative o L (- x) y)

  multiply_term_sound : (b : Bool) (m : Monomial) (us : List Term) → of_terms (multiply_term b m us) ≡ of_sign b (of_monomial m) · of_terms us
  multiply_term_sound b m [] = sym (Sums.product_zero o L (of_sign b (of_monomial m)))
  multiply_term_sound b m (signed c n ∷ us) =
      insert_sound (sign b c) (join m n) (multiply_term b m us)
      ∙ ap₂ ◌+◌ (ap (of_sign (sign b c)) (join_sound m n) ∙ sign_sound b c (of_monomial m) (of_monomial n)) (multiply_term_sound b m us)
      ∙ sym (L.product_sum (of_sign b (of_monomial m)) (of_sign c (of_monomial n)) (of_terms us))

  multiply_sound : (ts us : List Term) → of_terms (multiply ts us) ≡ of_terms ts · of_terms us
  multiply_sound [] us = sym (Sums.zero_product o L (of_terms us))
  multiply_sound (signed b m ∷ ts) us =
      add_sound (multiply_term b m us) (multiply ts us)
      ∙ ap₂ ◌+◌ (multiply_term_sound b m us) (multiply_sound ts us)
      ∙ sym (Sums.sum_product o L (of_sign b (of_monomial m)) (of_terms ts) (of_terms us))

  normal_sound : (a : Expr) → of_terms (normal a) ≡ value a
  normal_sound (var i) = L.sum_zero (entry values i · I) ∙ L.product_one (entry values i)
  normal_sound 𝟎 = refl
  normal_sound 𝟏 = L.sum_zero I
  normal_sound (a ⊞ b) = add_sound (normal a) (normal b) ∙ ap₂ ◌+◌ (normal_sound a) (normal_sound b)
  normal_sound (a ⊠ b) = multiply_sound (normal a) (normal b) ∙ ap₂ ◌·◌ (normal_sound a) (normal_sound b)
  normal_sound (neg a) = negate_sound (normal a) ∙ ap -◌ (normal_sound a)

  -- expressions with one normal form have one value
  pub solve : (a b : Expr) → normal a ≡ normal b → value a ≡ value b
  solve a b e = sym (normal_sound a) ∙ ap of_terms e ∙ normal_sound b

module _ {R : Type 0} (o : RingOps R) (L : RingLaws o) where
  open o use {sum as ◌+◌, negative as -◌, product as ◌·◌}

  infixl 60 ◌+◌
  infixl 70 ◌·◌
  infix 80 -◌
  square_of_difference : (a b : R) → (a + (- b)) · (a + (- b)) ≡ a · a + b · b + (- (a · b + b · a))
  square_of_difference a b = solve o L (a ∷ b ∷ []) ((var 0 ⊞ neg (var 1)) ⊠ (var 0 ⊞ neg (var 1))) (var 0 ⊠ var 0 ⊞ var 1 ⊠ var 1 ⊞ neg (var 0 ⊠ var 1 ⊞ var 1 ⊠ var 0)) refl

-- The card of a design, byte by byte. The clauses of `write` cite it; it assumes nothing.
use Rattle.std.specs.Prelude.{ℕ, zero, suc, ◌+◌, ◌/◌, ◌%◌, List, [], ◌∷◌, ◌++◌, length, take, drop}

-- one term of a generator
pub record Term : Type 0 where
  pub power : ℕ
  pub code : ℕ

-- the nonzero terms of a polynomial whose codes are given from power k on, in rising powers
abbrev pub terms : ℕ → List ℕ → List Term
terms k [] = []
terms k (zero ∷ cs) = terms (suc k) cs
terms k (suc c ∷ cs) = record { power = k; code = suc c } ∷ terms (suc k) cs

-- the terms of each of the first n polynomials of a table of codes
abbrev pub generators : ℕ → List ℕ → List (List Term)
generators zero cs = []
generators (suc n) cs = terms 0 (take 17 cs) ∷ generators n (drop 17 cs)

-- what points to terms that are numbered from r on: the number of the first, zero where there is none
abbrev pub link : ℕ → List Term → ℕ
link r [] = 0
link r (t ∷ ts) = r

-- a term's record: its power, its code, low byte first, and the link to the terms after it
abbrev pub term_record : Term → ℕ → List ℕ
term_record t next = t.power ∷ t.code % 256 ∷ t.code / 256 ∷ next ∷ []

-- the records of one generator, numbered from r on
abbrev pub records : ℕ → List Term → List ℕ
records r [] = []
records r (t ∷ ts) = term_record t (link (suc r) ts) ++ records (suc r) ts

-- the heads of the generators, and their records, numbered from r on
abbrev pub heads : ℕ → List (List Term) → List ℕ
heads r [] = []
heads r (ts ∷ gs) = link r ts ∷ heads (r + length ts) gs

abbrev pub chains : ℕ → List (List Term) → List ℕ
chains r [] = []
chains r (ts ∷ gs) = records r ts ++ chains (r + length ts) gs

-- how many terms there are in all
abbrev pub term_count : List (List Term) → ℕ
term_count [] = 0
term_count (ts ∷ gs) = length ts + term_count gs

-- the card: kind, n, m, the n heads, the m records
abbrev pub card : ℕ → List (List Term) → List ℕ
card kind gs = kind ∷ length gs ∷ term_count gs ∷ (heads 1 gs ++ chains 1 gs)

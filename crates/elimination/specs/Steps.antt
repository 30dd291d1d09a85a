-- Elimination on vectors: one step, the steps one after the other, and what taking a column does. The clauses of every function of the
-- crate cite it. Vectors are functions of the row.
use Rattle.std.specs.Prelude.{◌≡◌, ℕ, zero, suc, ◌+◌, ◌*◌, ◌<◌, ◌≤◌, Bool, true, false, List, slice_index}
use Rattle.algebra.specs.Rings.{RingOps}
use Rattle.algebra.specs.Series.{total}
use Rattle.algebra.specs.Independence.{All, Spanned}
use Rattle.tables.specs.Places.{at}

-- x at place k, f elsewhere
abbrev pub write : {A : Type 0} → ℕ → A → (ℕ → A) → ℕ → A
write zero x f zero = x
write zero x f (suc r) = f (suc r)
write (suc k) x f zero = f 0
write (suc k) x f (suc r) = write k x (λ i. f (suc i)) r

-- the first n entries of v, and zeros behind them
abbrev pub front : {M : Type 0} → RingOps M → ℕ → (ℕ → M) → ℕ → M
front o zero v r = o.zero
front o (suc n) v zero = v 0
front o (suc n) v (suc r) = front o n (λ i. v (suc i)) r

-- one at row t, zero elsewhere
abbrev pub unit_vector : {M : Type 0} → RingOps M → ℕ → ℕ → M
unit_vector o t = write t o.one (λ r. o.zero)

-- Step t with pivot row p on a vector u: entries t and p are exchanged, entry t is multiplied by e p, and e r times the product is taken
-- from every other entry r.
abbrev pub step : {M : Type 0} → RingOps M → (ℕ → M) → ℕ → ℕ → (ℕ → M) → ℕ → M
step o e t p u = write t (o.product (e p) (u p)) (write p (u t) (λ r. o.sum (u r) (o.product (e r) (o.negative (o.product (e p) (u p))))))

-- the vector u after steps 0 .. t - 1, of which step j has the numbers e j and the pivot row p j
abbrev pub reduced : {M : Type 0} → RingOps M → (ℕ → ℕ → M) → (ℕ → ℕ) → ℕ → (ℕ → M) → ℕ → M
reduced o e p zero u = u
reduced o e p (suc t) u = step o (e t) t (p t) (reduced o e p t u)

-- step t on vectors of so many rows: its pivot row is row t or a later one, and e p is the inverse of the pivot
pub record IsStep {M : Type 0} (o : RingOps M) (rows t : ℕ) (e : ℕ → M) (p : ℕ) : Type 0 where
  pub low : t ≤ p
  pub within : p < rows
  pub pivot : M
  pub inverse : o.product pivot (e p) ≡ o.one

-- steps 0 .. rank - 1
abbrev pub AreSteps : {M : Type 0} → RingOps M → ℕ → ℕ → (ℕ → ℕ → M) → (ℕ → ℕ) → Type 0
AreSteps o rows rank e p = (t : ℕ) → t < rank → IsStep o rows t (e t) (p t)

-- the steps turn V 0 .. V (rank - 1) into the unit vectors
abbrev pub Reduces : {M : Type 0} → RingOps M → ℕ → ℕ → (ℕ → ℕ → M) → (ℕ → ℕ) → (ℕ → ℕ → M) → Type 0
Reduces o rows rank e p V = (t : ℕ) → t < rank → reduced o e p rank (front o rows (V t)) ≡ unit_vector o t

-- the first entry of u from row t on that is not zero stands at row p, and i is its inverse
pub record IsPivot {M : Type 0} (o : RingOps M) (rows t : ℕ) (u : ℕ → M) (p : ℕ) (i : M) : Type 0 where
  pub low : t ≤ p
  pub within : p < rows
  pub inverse : o.product (u p) i ≡ o.one
  pub zeros : (r : ℕ) → t ≤ r → r < p → u r ≡ o.zero

-- column t of a table in which each column has so many rows; in the table of steps, the numbers of step t
abbrev pub column_at : {F M : Type 0} → RingOps M → (F → M) → ℕ → List F → ℕ → ℕ → M
column_at o member rows table t = front o rows (λ r. at o member table (rows * t + r))

-- entry t of a list of numbers, zero past its end
abbrev pub entry_at : List ℕ → ℕ → ℕ
entry_at numbers t = slice_index numbers t

-- how many steps there are after a column, by whether it is pivotal
abbrev pub rank_after : ℕ → Bool → ℕ
rank_after rank true = suc rank
rank_after rank false = rank

-- the pivot columns after a column c, by whether it is pivotal
abbrev pub pivots_after : {M : Type 0} → ℕ → (ℕ → ℕ → M) → (ℕ → M) → Bool → ℕ → ℕ → M
pivots_after rank V c true = write rank c V
pivots_after rank V c false = V

-- c is the sum of the pivot columns V 0 .. V (rank - 1) times the entries of the reduced column E, which is zero from row rank on
pub record IsSum {M : Type 0} (o : RingOps M) (rows rank : ℕ) (V : ℕ → ℕ → M) (c E : ℕ → M) : Type 0 where
  pub is : (r : ℕ) → r < rows → c r ≡ total o rank (λ t. o.product (E t) (V t r))
  pub zeros : (r : ℕ) → rank ≤ r → E r ≡ o.zero

-- a column c after the pivot columns V 0 .. V (rank - 1) is pivotal when it is no sum of multiples of these
abbrev pub Judged : {M : Type 0} → RingOps M → ℕ → ℕ → (ℕ → ℕ → M) → (ℕ → M) → (ℕ → M) → Bool → Type 0
Judged o rows rank V c E true = Spanned o All rank rows V c → ⊥
Judged o rows rank V c E false = IsSum o rows rank V c E

-- A column c is taken after so many steps e, p, and E is what is left in its place; f, q are the steps afterwards, and the answer is
-- whether c is pivotal, for any columns V that the steps turned into the unit vectors.
pub record Takes {M : Type 0} (o : RingOps M) (rows rank : ℕ) (e : ℕ → ℕ → M) (p : ℕ → ℕ) (c : ℕ → M) (f : ℕ → ℕ → M) (q : ℕ → ℕ) (E : ℕ → M) (pivotal : Bool) : Type 0 where
  pub valid : AreSteps o rows (rank_after rank pivotal) f q
  pub bound : rank_after rank pivotal ≤ rows
  pub judged : (V : ℕ → ℕ → M) → Reduces o rows rank e p V → Judged o rows rank V c E pivotal
  pub reduces : (V : ℕ → ℕ → M) → Reduces o rows rank e p V → Reduces o rows (rank_after rank pivotal) f q (pivots_after rank V c pivotal)

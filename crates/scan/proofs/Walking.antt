-- From one place of a walk to the next: walked_start, walked_skip, walked_pivot and walked_basic; at its end, columns_written.
use mathlib.Core.Bool.{Bool, true, false}
use mathlib.Core.List.{List}
use mathlib.Core.Path.{◌≡◌, sym, ap, ◌∙◌}
use mathlib.Core.Logic.{inl, inr}
use Prim.Native.Nat.{ℕ, suc, ◌+◌, ◌-◌, ◌*◌, ◌%◌, ◌<◌, ◌≤◌}
use native.Mathlib.Nat.{not-suc-le-zero, le_refl, mod-lt, eq-or-lt_of_le, le_of_suc-le-suc}
use native.Mathlib.Numerals.{add-one}
use native.Mathlib.Omega.{arith}
use lib.ListN.{length, set, take}
use lib.Seq.{get_or-set_same, get_or-set_other}
use Rattle.algebra.specs.Rings.{RingOps, RingLaws, IsField}
use Rattle.algebra.specs.Series.{total, series}
use Rattle.algebra.specs.Divisors.{Combination, VectorDegree}
use Rattle.algebra.specs.Places.{place_list}
use Rattle.algebra.specs.Frames.{FrameColumns}
use Rattle.tables.specs.Places.{at}
use Rattle.elimination.specs.Steps.{write, column_at, entry_at, reduced, Takes, IsSum}
use Rattle.elimination.proofs.StepMaps.{write_same, write_other}
use Rattle.elimination.proofs.Tables.{front_ext}
use Rattle.elimination.proofs.Valid.{rank_few}
use Rattle.scan.specs.Columns.{AtPlaces, CheckAt, Rising, ZeroPast, mark_at}
use Rattle.frames.specs.Rows.{column_in, generator_in}
use Rattle.scan.specs.Walked.{Walked}
use Rattle.scan.specs.Walks.{WalkedTo}
use Rattle.scan.specs.declared.walk.Walk.{Walk}
use Rattle.scan.proofs.Degrees.{the_degree}
use Rattle.scan.proofs.FrameTables.{within_all, written_start, written_pivot, written_basic, read_off_written, rest_written}
use Rattle.scan.proofs.Fronts.{rising_front, places_front, check_front}
use Rattle.scan.proofs.Scans as Scans

module _ {F : Type 0} {f : _} (walk : Walk F f) (field : IsField f.ops) where
  abbrev M : Type 0
  M = f.Member

  abbrev o : RingOps M
  o = f.ops

  abbrev member : F → M
  member = f.member

  abbrev L : RingLaws o
  L = field.laws.ring

  abbrev n : ℕ
  n = walk.row.n

  abbrev d : ℕ
  d = walk.row.d

  abbrev r : ℕ → ℕ → M
  r = generator_in o member walk.row.entries.now

  abbrev rows : ℕ
  rows = walk.steps.rows

  abbrev rank : ℕ
  rank = walk.steps.rank

  abbrev b : ℕ
  b = walk.basics

  abbrev steps : List F
  steps = walk.steps.factors.now

  abbrev pivots : List ℕ
  pivots = walk.steps.pivots.now

  abbrev places : List ℕ
  places = walk.places

  abbrev found : List Bool
  found = walk.found

  positive : 0 < n
  positive = walk.row.sized.0

  small : n ≤ 8
  small = walk.row.sized.1.0

  low : d ≤ 16
  low = walk.row.sized.1.1

  wide : rows ≡ suc (d + d)
  wide = walk.wide

  v : VectorDegree o n r d
  v = the_degree o field r d n walk.row.degree

  -- there is room for the pivotal places
  pub places_room : length places ≡ 33 → rank ≤ length places
  places_room long = omega (arith, wide, low, rank_few o rows rank (column_at o member rows steps) (entry_at pivots) walk.steps.valid)

  pub walked_start : (frame : List F) → rank ≡ 0 → b ≡ 0 → ((i : ℕ) → i < 8 → mark_at found i ≡ false) → ((k : ℕ) → k < 1088 → at o member frame k ≡ o.zero) → WalkedTo 0 walk frame
  walked_start frame no_step no_basic none zero = rw (no_step, no_basic) record {
    B = λ j. 0;
    E = λ j t. o.zero;
    scanned = Scans.start o field d r n positive v (entry_at places) (λ j. 0) (λ j t. o.zero) (mark_at found) (λ i l. none i (omega arith));
    are = λ t l. absurd (not-suc-le-zero l);
    reduces = λ t l. absurd (not-suc-le-zero l);
    written = written_start o L member n d (entry_at places) (λ j. 0) (λ j t. o.zero) frame zero;
  }

  module _ (q : ℕ) (frame : List F) (w : WalkedTo q walk frame) where
    abbrev P : ℕ → ℕ
    P = entry_at places

    abbrev V : ℕ → ℕ → M
    V t = place_list o n r (P t)

    walked_places : q ≤ n * suc d → Rising n rank P
    walked_places l = record { within = λ t a. within_all n d (P t) low (let x = w.scanned.pivots_walked t a in omega arith); rising = w.scanned.pivots_rising }

    -- the pivotal places, as the list that is lent
    pub rising_places : length places ≡ 33 → q ≤ n * suc d → Rising n (length (take rank places)) (entry_at (take rank places))
    rising_places long l = rising_front rank places (places_room long) n (walked_places l)

    pub walked_skip : mark_at found (q % n) ≡ true → WalkedTo (suc q) walk frame
    walked_skip known = record {
      B = w.B;
      E = w.E;
      scanned = Scans.skip o field d r n positive v q rank P b w.B w.E (mark_at found) w.scanned known;
      are = w.are;
      reduces = w.reduces;
      written = w.written;
    }

    -- after the list at q was taken
    module _ (next : List F) (nexts : List ℕ) (c R : ℕ → M) (written : (k : ℕ) → k < suc (d + d) → c k ≡ place_list o n r q k) where
      list : (k : ℕ) → k < rows → c k ≡ place_list o n r q k
      list k l = written k (omega (arith, wide))

      pub walked_pivot : length places ≡ 33 → Takes o rows rank (column_at o member rows steps) (entry_at pivots) c (column_at o member rows next) (entry_at nexts) R true
          → Walked o member n d rows r (suc q) (suc rank) b next nexts (set places rank q) found frame
      walked_pivot long takes = record {
        B = w.B;
        E = w.E;
        scanned = Scans.pivot o field d r n positive v q rank P b w.B w.E (mark_at found) w.scanned Q same here new;
        are = takes.valid;
        reduces = λ t l. ap (reduced o (column_at o member rows next) (entry_at nexts) (suc rank)) (front_ext o rows (place_list o n r (Q t)) (write rank c V t) (same_list t l)) ∙ takes.reduces V w.reduces t l;
        written = written_pivot o L member n d r q rank P b w.B w.E (mark_at found) frame w.scanned w.written Q same here room;
      }
        where
          new : Scans.Made o field d r n rank P (place_list o n r q) → ⊥
          new x = takes.judged V w.reduces (record { factor = x.factor; inside = λ j l. tt; is = λ k l. list k l ∙ x.is k (omega arith) })

          room : rank < suc (d + d)
          room = Scans.pivot_room o field d r n positive v q rank P b w.B w.E (mark_at found) w.scanned new

          Q : ℕ → ℕ
          Q = entry_at (set places rank q)

          same : (t : ℕ) → t < rank → Q t ≡ P t
          same t l = get_or-set_other places rank t q 0 (λ e. omega arith)

          here : Q rank ≡ q
          here = let x = room in get_or-set_same places rank q 0 (omega arith)

          same_list : (t : ℕ) → t < suc rank → (k : ℕ) → k < rows → place_list o n r (Q t) k ≡ write rank c V t k
          same_list t l k a = elim (eq-or-lt_of_le (le_of_suc-le-suc l)) [
            | inl last ↦ ap (λ p. place_list o n r p k) (ap Q last ∙ here) ∙ sym (list k a) ∙ ap (λ (f : ℕ → M). f k) (sym (write_same rank c V)) ∙ ap (λ s. write rank c V s k) (sym last)
            | inr less ↦ ap (λ p. place_list o n r p k) (same t less) ∙ ap (λ (f : ℕ → M). f k) (sym (write_other rank c V t (λ e. omega arith)))
          ]

      -- the list at q is a sum of multiples of the lists at the pivotal places
      pub sum_made : IsSum o rows rank V c R → Scans.Made o field d r n rank P (place_list o n r q)
      sum_made sum = record { factor = R; inside = λ j l. tt; is = λ k l. sym (list k (omega arith)) ∙ sum.is k (omega arith) }

      pub check_room : mark_at found (q % n) ≡ false → q < n * suc d → Takes o rows rank (column_at o member rows steps) (entry_at pivots) c (column_at o member rows next) (entry_at nexts) R false → suc b < n
      check_room unknown inside takes = Scans.basic_room o field d r n positive v q rank P b w.B w.E (mark_at found) w.scanned inside unknown (sum_made (takes.judged V w.reduces))

      pub walked_basic : (after : List F) → length places ≡ 33 → length found ≡ 8 → mark_at found (q % n) ≡ false → q < n * suc d
          → Takes o rows rank (column_at o member rows steps) (entry_at pivots) c (column_at o member rows next) (entry_at nexts) R false
          → CheckAt o member n (b + 1) q (length (take rank places)) (entry_at (take rank places)) (λ t. o.negative (R t)) frame after
          → Walked o member n d rows r (suc q) rank (suc b) next nexts places (set found (q % n) true) after
      walked_basic after enough long unknown inside takes lent = record {
        B = C;
        E = D;
        scanned = Scans.basic o field d r n positive v q rank P b w.B w.E (mark_at found) w.scanned C D (mark_at (set found (q % n) true))
            same here (λ j t l a. multipliers j t l) (λ t l a. ap (λ (f : ℕ → M). f t) new ∙ sum.zeros t l)
            (λ i l ne. get_or-set_other found (q % n) i true false ne) (let x = mod-lt q positive in get_or-set_same found (q % n) true false (omega arith))
            inside unknown
            (λ k l. sym (list k (omega arith)) ∙ sum.is k (omega arith) ∙ ap (λ (f : ℕ → M). total o rank (λ t. o.product (f t) (V t k))) (sym new));
        are = takes.valid;
        reduces = takes.reduces V w.reduces;
        written = written_basic o L member n d r q rank P b w.B w.E (mark_at found) frame w.scanned w.written positive small low (let x = inside in omega arith) C D (λ t. o.negative (R t)) after
            same here multipliers (λ t l. ap (λ (f : ℕ → M). o.negative (f t)) (sym new)) (let x = check_room unknown inside takes in omega arith) inside check;
      }
        where
          check : CheckAt o member n (suc b) q rank P (λ t. o.negative (R t)) frame after
          check = rw add-one at (check_front rank places (places_room enough) o member n (b + 1) (λ t. o.negative (R t)) frame after q lent)

          sum : IsSum o rows rank V c R
          sum = takes.judged V w.reduces

          C : ℕ → ℕ
          C = write b q w.B

          D : ℕ → ℕ → M
          D = write b R w.E

          same : (j : ℕ) → j < b → C j ≡ w.B j
          same j l = write_other b q w.B j (λ e. omega arith)

          here : C b ≡ q
          here = write_same b q w.B

          new : D b ≡ R
          new = write_same b R w.E

          multipliers : (j t : ℕ) → j < b → D j t ≡ w.E j t
          multipliers j t l = ap (λ (f : ℕ → M). f t) (write_other b R w.E j (λ e. omega arith))

  -- at the end of the walk, the unit list was taken and column 0 written
  module _ (frame : List F) (w : WalkedTo (n * suc d) walk frame) (coprime : Combination o n r (series o).one) (next : List F) (nexts : List ℕ) (c R : ℕ → M) (unit : (k : ℕ) → c k ≡ (series o).one k) where
    unit_sum : (pivotal : Bool) → Takes o rows rank (column_at o member rows steps) (entry_at pivots) c (column_at o member rows next) (entry_at nexts) R pivotal → IsSum o rows rank (λ t. place_list o n r (entry_at places t)) c R
    unit_sum true takes =
        let x = Scans.unit_made o field d r n positive v rank (entry_at places) b w.B w.E (mark_at found) w.scanned coprime in
        absurd (takes.judged (λ t. place_list o n r (entry_at places t)) w.reduces (record { factor = x.factor; inside = λ j l. tt; is = λ k l. unit k ∙ x.is k (omega arith) }))
    unit_sum false takes = takes.judged (λ t. place_list o n r (entry_at places t)) w.reduces

    pub columns_written : (pivotal : Bool) → Takes o rows rank (column_at o member rows steps) (entry_at pivots) c (column_at o member rows next) (entry_at nexts) R pivotal
        → (after : List F) → length places ≡ 33 → AtPlaces o member n 0 (length (take rank places)) (entry_at (take rank places)) R frame after
        → ((B : ℕ → ℕ) × FrameColumns o (n - 1) d r B (column_in o member after)) × ZeroPast o member n after
    columns_written pivotal takes after long lent =
        let first = places_front rank places (places_room long) o member n 0 R frame after lent in
        let sum = unit_sum pivotal takes in
        let all = Scans.all_found o field d r n positive v rank (entry_at places) b w.B w.E (mark_at found) w.scanned in (
          (
            w.B,
            Scans.frame_columns o field d r n positive v rank (entry_at places) b w.B w.E (mark_at found) w.scanned R (column_in o member after)
                (λ k l. sym (unit k) ∙ sum.is k (omega arith))
                (read_off_written o L member n d r (n * suc d) rank (entry_at places) b w.B w.E (mark_at found) frame w.scanned w.written positive small low (le_refl (n * suc d)) R after first),
          ),
          λ j i k g h l ne. rest_written o L member n d r (n * suc d) rank (entry_at places) b w.B w.E (mark_at found) frame w.scanned w.written positive small low (le_refl (n * suc d)) R after first j i k g h l
              (λ x y. ne (omega arith) y),
        )

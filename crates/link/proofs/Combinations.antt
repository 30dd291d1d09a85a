-- The sum over the components of a column, one turn of a fold at a time. Main results: summed_first, summed_after,
-- summed_within and summed_all.
use Rattle.std.proofs.Common.{◌≡◌, ℕ, ◌+◌, ◌-◌, ◌*◌, ◌<◌, ◌≤◌, List, [], ◌∷◌, length, take, drop, Option, Some, None, Bor, sym, ap, ap₂, ◌∙◌, subst, subst₂, arith}
use Rattle.std.specs.Iterator.{Yields}
use Rattle.std.specs.Iterator.Adapters.{enumerate_source, enumerate_count, enumerate_steps}
use Rattle.std.specs.List.{FoldsTo}
use Rattle.std.specs.Slice.Iter.{chunks_exact_rest, chunks_exact_size, chunks_exact_steps}
use Rattle.std.specs.declared.iter.Enumerate.{Enumerate}
use Rattle.std.specs.declared.slice.ChunksExact.{ChunksExact}
use Rattle.algebra.specs.Rings.{RingOps, RingLaws}
use Rattle.algebra.specs.Series.{dot, series}
use Rattle.framing.specs.Framing.{column_in}
use Rattle.tables.specs.Places.{at}
use Rattle.link.specs.Blocks.{stream}
use Rattle.link.specs.declared.products.Streams.{Streams}
use Rattle.link.proofs.Columns.{components_from, components_first, next_component, components_done}
use Rattle.link.proofs.Terms.{streams, streams_more, streams_all}

-- what each turn of a fold keeps holds after the turns
kept : {S A P : Type 0} (steps : S → Option A → S → Type 0) (R : P → A → P → Type 0) (I : S → P → Type 0) → ((s : S) (p : P) (x : A) (u : S) (q : P) → I s p → steps s (Some x) u → R p x q → I u q)
    → (xs : List A) (s t : S) (p q : P) → I s p → Yields steps s xs t → FoldsTo R p xs q → I t q
kept steps R I turn [] s t p q i y f = subst₂ I y f i
kept steps R I turn (x ∷ xs) s t p q i y f = kept steps R I turn xs _ t _ q (turn s p x _ _ i y.1 f.1) y.2 f.2

-- the fold's closure, and its sum so far
abbrev pub Fold : Type 0 → Type 0
Fold F = (Bor (Streams F) × Bor ℕ) × F

module _ {F R : Type 0} (o : RingOps R) (L : RingLaws o) (member : F → R) (frame : List F) (j : ℕ) (closure : Bor (Streams F) × Bor ℕ) (long : 136 * j + 17 * closure.0.now.n ≤ length frame) where
  abbrev block : Streams F
  block = closure.0.now

  abbrev t : ℕ
  t = closure.1.now

  abbrev xs : ℕ → ℕ → R
  xs = stream o member block.n block.symbols.now

  abbrev ys : ℕ → ℕ → R
  ys = column_in o member frame j

  -- a turn at stream i adds the coefficient of its product with a component, and leaves the closure as it was
  abbrev pub Adds : (Fold F → ℕ × Bor (List F) → Fold F → Type 0) → Type 0
  Adds turn = (sum : F) (x : ℕ × Bor (List F)) (q : Fold F) → turn (closure, sum) x q → (q.0 ≡ closure) × (member q.1 ≡ o.sum (member sum) ((series o).product (xs x.0) (at o member x.1.now) t))

  -- so many components are summed
  abbrev pub Summed : Enumerate (ChunksExact F) → Fold F → Type 0
  Summed s p =
      (p.0 ≡ closure) × (chunks_exact_size (enumerate_source s) ≡ 17) × (chunks_exact_rest (enumerate_source s) ≡ components_from o member frame block.n j (enumerate_count s))
      × (enumerate_count s ≤ block.n) × (member p.1 ≡ streams o xs ys t (enumerate_count s))

  pub summed_first : (s : Enumerate (ChunksExact F)) (p : Fold F) → p.0 ≡ closure → chunks_exact_size (enumerate_source s) ≡ 17 → enumerate_count s ≡ 0
      → chunks_exact_rest (enumerate_source s) ≡ take (17 * block.n) (take (length frame - 136 * j) (drop (136 * j) frame)) → member p.1 ≡ o.zero → Summed s p
  summed_first s p same size none rest zero =
      (same, size, components_first o member frame block.n j (enumerate_count s) _ none rest, omega arith, zero ∙ ap (streams o xs ys t) (sym none))

  pub summed_within : (s u : Enumerate (ChunksExact F)) (p : Fold F) (x : ℕ × Bor (List F)) → Summed s p → enumerate_steps chunks_exact_steps s (Some x) u → x.0 < block.n
  summed_within s u p x so step =
      let next = next_component o member frame block.n j long (enumerate_count s) x.1.now _ (sym so.2 ∙ step.0.1.0) (step.0.1.1 ∙ so.1) in
      omega (arith, next, step)

  summed_next : (turn : Fold F → ℕ × Bor (List F) → Fold F → Type 0) → Adds turn → (s : Enumerate (ChunksExact F)) (p : Fold F) (x : ℕ × Bor (List F)) (u : Enumerate (ChunksExact F)) (q : Fold F)
      → Summed s p → enumerate_steps chunks_exact_steps s (Some x) u → turn p x q → Summed u q
  summed_next turn adds s p x u q so step turned =
      let next = next_component o member frame block.n j long (enumerate_count s) x.1.now _ (sym so.2 ∙ step.0.1.0) (step.0.1.1 ∙ so.1) in
      let added = adds p.1 x q (subst (λ (z : Bor (Streams F) × Bor ℕ). turn (z, p.1) x q) so.0 turned) in (
        added.0,
        step.0.0 ∙ so.1,
        next.1 ∙ ap (components_from o member frame block.n j) (sym step.2),
        omega (arith, next, step),
        added.1
            ∙ streams_more o L xs ys t (enumerate_count s) (member p.1) ((series o).product (xs x.0) (at o member x.1.now) t) so.4
            (ap₂ (λ k (y : ℕ → R). (series o).product (xs k) y t) step.1 next.2)
            ∙ ap (streams o xs ys t) (sym step.2),
      )

  pub summed_after : (turn : Fold F → ℕ × Bor (List F) → Fold F → Type 0) → Adds turn → (items : List (ℕ × Bor (List F))) (s u : Enumerate (ChunksExact F)) (p q : Fold F)
      → Yields (enumerate_steps chunks_exact_steps) s items u → FoldsTo turn p items q → Summed s p → Summed u q
  summed_after turn adds items s u p q yields folds so = kept (enumerate_steps chunks_exact_steps) turn Summed (summed_next turn adds) items s u p q so yields folds

  pub summed_all : (s u : Enumerate (ChunksExact F)) (p : Fold F) → Summed s p → enumerate_steps chunks_exact_steps s None u → member p.1 ≡ dot (series o) block.n xs ys t
  summed_all s u p so step =
      so.4 ∙ streams_all o L xs ys t (enumerate_count s) block.n
      (components_done o member frame block.n j long (enumerate_count s) so.3 (let rest = ap length so.2 in omega (arith, step, so.1, rest)))

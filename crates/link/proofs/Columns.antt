-- A column of a frame, one component at a time. Main results: components_first, next_component and components_done.
use Rattle.std.proofs.Common.{◌≡◌, ℕ, ◌+◌, ◌-◌, ◌*◌, ◌<◌, ◌≤◌, List, ◌++◌, length, take, drop, sym, ap, ◌∙◌, arith}
use Rattle.std.proofs.lemmas.List.{length-take, length-append, length-drop, drop-drop, drop-take, drop_at, take-take, take_all, take_at}
use Rattle.algebra.specs.Rings.{RingOps}
use Rattle.framing.specs.Framing.{column_in}
use Rattle.tables.specs.Places.{at}
use Rattle.tables.proofs.Slices.{part_is}

module _ {F R : Type 0} (o : RingOps R) (member : F → R) (frame : List F) (n j : ℕ) where
  -- the components of column j from component i on
  abbrev pub components_from : ℕ → List F
  components_from i = drop (17 * i) (take (17 * n) (drop (136 * j) frame))

  pub components_first : (i : ℕ) (rest : List F) → i ≡ 0 → rest ≡ take (17 * n) (take (length frame - 136 * j) (drop (136 * j) frame)) → rest ≡ components_from i
  components_first i rest none is =
      is ∙ ap (take (17 * n)) (take_all (length frame - 136 * j) (drop (136 * j) frame) (omega (arith, length-drop (136 * j) frame)))
      ∙ ap (λ k. drop k (take (17 * n) (drop (136 * j) frame))) (let e : 0 ≡ 17 * i = omega arith in e)

  module _ (long : 136 * j + 17 * n ≤ length frame) where
    how_long : (i : ℕ) → length (components_from i) ≡ 17 * n - 17 * i
    how_long i =
        let a = length-drop (17 * i) (take (17 * n) (drop (136 * j) frame)) in
        let b = length-take (17 * n) (drop (136 * j) frame) in
        let c = length-drop (136 * j) frame in
        omega (arith, a, b, c)

    pub next_component : (i : ℕ) (component rest : List F) → components_from i ≡ component ++ rest → length component ≡ 17
        → (i < n) × (rest ≡ components_from (i + 1)) × (at o member component ≡ column_in o member frame j i)
    next_component i component rest is wide = (
      more,
      sym (drop_at component rest 17 wide) ∙ ap (drop 17) (sym is) ∙ drop-drop 17 (17 * i) (take (17 * n) (drop (136 * j) frame))
          ∙ ap (λ k. drop k (take (17 * n) (drop (136 * j) frame))) (let e : 17 * i + 17 ≡ 17 * (i + 1) = omega arith in e),
      ap (at o member)
          (sym (take_at component rest 17 wide) ∙ ap (take 17) (sym is ∙ ap (λ k. drop (17 * i) (take k (drop (136 * j) frame))) (let e : 17 * n ≡ 17 * i + (17 * n - 17 * i) = omega (arith, more) in e) ∙ drop-take (17 * i) (17 * n - 17 * i) (drop (136 * j) frame))
          ∙ take-take 17 (17 * n - 17 * i) (drop (17 * i) (drop (136 * j) frame)) (omega (arith, more))
          ∙ ap (take 17) (drop-drop (17 * i) (136 * j) frame))
          ∙ part_is o member frame (136 * j + 17 * i) 17,
    )
      where
        more : i < n
        more = let a = how_long i in let b : length (components_from i) ≡ length component + length rest = ap length is ∙ length-append component rest in omega (arith, a, b, wide)

    pub components_done : (i : ℕ) → i ≤ n → length (components_from i) < 17 → i ≡ n
    components_done i h few = let a = how_long i in omega (arith, a)

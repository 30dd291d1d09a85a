-- The sum of a coefficient of a product, one turn of the loop at a time: the coefficients from low powers up meet the symbols from late
-- times down. Main results: met_first, met_next and met_all.
use Rattle.std.proofs.Common.{◌≡◌, ℕ, ◌+◌, ◌-◌, ◌*◌, ◌<◌, ◌≤◌, min, List, length, take, drop, sym, ap, ◌∙◌, arith}
use native.Mathlib.Decide.{dec_lt}
use Rattle.std.proofs.lemmas.List.{length-take, length-drop, drop_all, take_all}
use Rattle.algebra.specs.Rings.{RingOps, RingLaws}
use Rattle.algebra.specs.Series.{series}
use Rattle.tables.specs.Places.{at}
use Rattle.tables.proofs.Places.{at_past}
use Rattle.link.specs.Blocks.{stream}
use Rattle.tables.proofs.Slices.{at_drop, at_take}
use Rattle.link.proofs.Streams.{place_within, stream_past}
use Rattle.link.proofs.Terms.{terms, terms_none, terms_more, terms_all}

-- what follows the first gap elements
pub after_gap : {X : Type 0} (xs : List X) (gap m : ℕ) → m ≡ min (length xs) gap → take (length xs - m) (drop m xs) ≡ drop gap xs
after_gap xs gap m e =
    take_all (length xs - m) (drop m xs) (omega (arith, length-drop m xs))
    ∙ elim (dec_lt gap (length xs)) [
      | yes h ↦ ap (λ k. drop k xs) (let d : m ≡ gap = omega arith in d)
      | no h ↦ drop_all m xs (omega arith) ∙ sym (drop_all gap xs (omega arith))
    ]

module _ {F R : Type 0} (o : RingOps R) (member : F → R) (n times i t last : ℕ) (block polynomial : List F) where
  -- so many coefficients have met their symbols
  abbrev pub Met : ℕ → R → Type 0
  Met k sum = sum ≡ terms o (stream o member n block i) (at o member polynomial) t (t - last + k)

  module _ (L : RingLaws o) (long : length block ≡ n * times) (is_last : last ≡ min t (times - 1)) (some : 1 ≤ times) where
    pub met_first : (sum : R) → sum ≡ o.zero → Met 0 sum
    met_first sum z = z ∙ sym (terms_none o L (stream o member n block i) (at o member polynomial) t (t - last + 0) (λ j h. stream_past o member n times block i (t - j) long (omega arith)))

    module _ (above met : List F) (width : ℕ) (is_above : above ≡ drop (t - last) polynomial) (is_width : width ≡ min (length above) (last + 1)) (is_met : met ≡ take width above) where
      how_many : length met ≡ min (length polynomial - (t - last)) (last + 1)
      how_many =
          let a : length met ≡ min width (length above) = ap length is_met ∙ length-take width above in
          let b : length above ≡ length polynomial - (t - last) = ap length is_above ∙ length-drop (t - last) polynomial in
          omega (arith, a, b)

      -- the symbol that coefficient k meets lies in the block
      pub symbol_within : (k : ℕ) → k < length met → i < n → n * (last - k) + i < length block
      symbol_within k h l = let many = how_many in place_within n times i (last - k) (length block) long l (omega (arith, many))

      pub met_next : (k : ℕ) (sum next : R) → k < length met → Met k sum → next ≡ o.sum sum (o.product (at o member met k) (stream o member n block i (last - k))) → Met (k + 1) next
      met_next k sum next h before grown =
          grown ∙ terms_more o L (stream o member n block i) (at o member polynomial) t (t - last + k) sum (stream o member n block i (last - k)) (at o member met k) before
          (ap (λ (xs : List F). at o member xs k) (is_met ∙ ap (take width) is_above)
          ∙ at_take o member width (drop (t - last) polynomial) k (let a : length met ≡ min width (length above) = ap length is_met ∙ length-take width above in omega (arith, a))
          ∙ at_drop o member (t - last) polynomial k)
          (ap (stream o member n block i) (let many = how_many in let e : last - k ≡ t - (t - last + k) = omega (arith, many) in e))
          ∙ ap (terms o (stream o member n block i) (at o member polynomial) t) (let e : t - last + k + 1 ≡ t - last + (k + 1) = omega arith in e)

      pub met_all : (k : ℕ) (sum : R) → k ≡ length met → Met k sum → sum ≡ (series o).product (stream o member n block i) (at o member polynomial) t
      met_all k sum e so_far =
          let many = how_many in
          so_far ∙ terms_all o L (stream o member n block i) (at o member polynomial) t (t - last + k) (omega (arith, many)) (λ j l h. at_past o member polynomial j (omega (arith, many)))

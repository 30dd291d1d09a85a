-- The last of the parts that `chunks_exact(136)` gives of a list. Main results: some_chunk, last_chunk,
-- chunk_place.
use Rattle.std.proofs.Common.{◌≡◌, ℕ, ◌+◌, ◌-◌, ◌*◌, ◌%◌, ◌<◌, ◌≤◌, List, ◌++◌, length, length-append, length-take, length-take-le, take, drop, sym, ap, ◌∙◌, append_assoc, arith}
use Rattle.std.proofs.Math.Seq.{take-add}
use Rattle.std.specs.List.{between}
use Rattle.std.proofs.lemmas.List.{take_at, drop_at, drop-take, drop-drop, take_all}

module _ {A : Type 0} (xs rest : List A) (m : ℕ) (is : rest ≡ take (136 * m) xs) (room : 136 * m ≤ length xs) where
  long : length rest ≡ 136 * m
  long = ap length is ∙ length-take-le (136 * m) xs room

  module _ (next part after : List A) (split : rest ≡ (next ++ part) ++ after) (size : length part ≡ 136) where
    lengths : length rest ≡ length next + 136 + length after
    lengths = ap length split ∙ length-append (next ++ part) after ∙ ap (λ k. k + length after) (length-append next part ∙ ap (λ k. length next + k) size)

    -- there is a part to come
    pub some_chunk : 0 < m
    some_chunk = omega (arith, long, lengths)

    -- the part that comes off the back, and what is left
    pub last_chunk : length after ≡ length rest % 136 → (next ≡ take (136 * (m - 1)) xs) × (part ≡ take 136 (drop (136 * (m - 1)) xs))
    last_chunk behind =
        let k = 136 * (m - 1) in
        let before : length next ≡ k = omega (arith, long, lengths) in
        let whole : 136 * m ≡ k + 136 = omega (arith, some_chunk) in
        let both : next ++ (part ++ after) ≡ take (k + 136) xs = sym (append_assoc next part after) ∙ sym split ∙ is ∙ ap (λ j. take j xs) whole in
        let front : length (take k xs) ≡ k = length-take-le k xs (omega arith) in (
          sym (take_at next (part ++ after) k before) ∙ ap (take k) (both ∙ take-add k 136 xs) ∙ take_at (take k xs) (take 136 (drop k xs)) k front,
          sym (take_at part after 136 size)
              ∙ ap (take 136) (sym (drop_at next (part ++ after) k before) ∙ ap (drop k) both ∙ drop-take k 136 xs)
              ∙ take_all 136 (take 136 (drop k xs)) (omega (arith, length-take 136 (drop k xs))),
        )

-- a part of what stands from 136 * j on, in the whole list
pub chunk_place : {A : Type 0} (xs : List A) (j i k : ℕ) → k ≡ j + i → take 136 (drop (136 * i) (drop (136 * j) xs)) ≡ between (136 * k) (136 * k + 136) xs
chunk_place xs j i k e =
    ap (take 136) (drop-drop (136 * i) (136 * j) xs ∙ ap (λ b. drop b xs) (let p : 136 * j + 136 * i ≡ 136 * k = omega arith in p))
    ∙ ap (λ w. take w (drop (136 * k) xs)) (let w : 136 ≡ 136 * k + 136 - 136 * k = omega arith in w)

-- Places of streams in a block. Main results: place_within, place_past and stream_past (which places are in the block), time_written
-- (a block that is written one time after the other).
use Rattle.std.proofs.Common.{◌≡◌, ℕ, suc, ◌+◌, ◌-◌, ◌*◌, ◌/◌, ◌<◌, ◌≤◌, List, length, take, drop, sym, refl, ap, ◌∙◌, add-one, mul-le-mul_left, mul-suc, arith}
use mathlib.Core.Path.{fun_ext}
use native.Mathlib.Decide.{dec_lt}
use native.Mathlib.Nat.{mul-div_cancel_left}
use borrow.Rule.Slice.PartMut.{put_mid}
use Rattle.std.proofs.lemmas.List.{length-take, length-drop}
use Rattle.algebra.specs.Rings.{RingOps}
use Rattle.algebra.specs.Series.{dot, series}
use Rattle.tables.specs.Places.{at}
use Rattle.tables.proofs.Places.{at_past}
use Rattle.link.specs.Blocks.{stream, message_series}
use Rattle.link.proofs.Places.{at_put_mid, at_before}

-- a time below the number of times lies in the block
pub place_within : (n times i t long : ℕ) → long ≡ n * times → i < n → t < times → n * t + i < long
place_within n times i t long e h l = let m = mul-le-mul_left n l in omega (arith, m, mul-suc n t)

-- and so do all its symbols
pub time_within : (n times t long : ℕ) → long ≡ n * times → t < times → n * t + n ≤ long
time_within n times t long e l = let m = mul-le-mul_left n l in omega (arith, m, mul-suc n t)

-- a later one lies past it
pub place_past : (n times i t long : ℕ) → long ≡ n * times → times ≤ t → long ≤ n * t + i
place_past n times i t long e l = let m = mul-le-mul_left n l in omega (arith, m)

pub stream_past : {F R : Type 0} (o : RingOps R) (member : F → R) (n times : ℕ) (block : List F) (i t : ℕ) → length block ≡ n * times → times ≤ t → stream o member n block i t ≡ o.zero
stream_past o member n times block i t e l = at_past o member block (n * t + i) (place_past n times i t (length block) e l)

-- a message is the one stream of a block of one
pub message_stream : {F R : Type 0} (o : RingOps R) (member : F → R) (message : List F) → stream o member 1 message 0 ≡ message_series o member message
message_stream o member message = fun_ext (λ t. ap (at o member message) (let e : 1 * t + 0 ≡ t = omega arith in e))

-- the sum over n streams is that over (n - 1) + 1
pub dot_streams : {F R : Type 0} (o : RingOps R) (member : F → R) (count n : ℕ) (block : List F) (u : ℕ → ℕ → R) (k : ℕ) → count ≡ n → 2 ≤ n
    → dot (series o) count (stream o member count block) u k ≡ dot (series o) (suc (n - 1)) (stream o member n block) u k
dot_streams o member count n block u k e h =
    ap (λ x. dot (series o) x (stream o member x block) u k) e
    ∙ ap (λ x. dot (series o) x (stream o member n block) u k) (let s : n ≡ suc (n - 1) = omega arith in s)

-- the length of a message is found from that of its block
pub symbols_found : (long n d symbols : ℕ) → 2 ≤ n → long ≡ n * (symbols + d) → long / n - d ≡ symbols
symbols_found long n d symbols low e =
    let q : long / n ≡ symbols + d = ap (λ x. x / n) e ∙ mul-div_cancel_left (symbols + d) {n = n} (omega arith) in
    omega arith

-- the symbols of one time are a part of the block, as long as there are streams
pub time_long : {F : Type 0} (n times t : ℕ) (block : List F) → length block ≡ n * times → t < times → length (take (n * (t + 1) - n * t) (drop (n * t) block)) ≡ n
time_long n times t block e l =
    let next : n * (t + 1) ≡ n * t + n = ap (λ k. n * k) (add-one t) ∙ mul-suc n t in
    omega (arith, next, time_within n times t (length block) e l, length-take (n * (t + 1) - n * t) (drop (n * t) block), length-drop (n * t) block)

-- once they are written, the block is right for one time more
pub time_written : {F R : Type 0} (o : RingOps R) (member : F → R) (n times t width : ℕ) (block symbols : List F) (right : ℕ → ℕ → R) → length block ≡ n * times → t < times → length symbols ≡ n
    → ((i : ℕ) → i < n → at o member symbols i ≡ right i t) → ((i k : ℕ) → i < n → k < t → stream o member n block i k ≡ right i k)
    → (i k : ℕ) → i < n → k < t + 1 → stream o member n (put_mid (n * t) width block symbols) i k ≡ right i k
time_written o member n times t width block symbols right e l long here before i k h m =
    let room : n * t ≤ length block = let w = time_within n times t (length block) e l in omega (arith, w) in
    elim (dec_lt k t) [
      | yes b ↦ at_before o member (n * t) width block symbols (n * k + i) room (place_within n t i k (n * t) refl h b) ∙ before i k h b
      | no b ↦
          let now : k ≡ t = omega arith in
          ap (λ x. at o member (put_mid (n * t) width block symbols) (n * x + i)) now
          ∙ at_put_mid o member (n * t) width block symbols i room (omega arith)
          ∙ here i h
          ∙ ap (right i) (sym now)
    ]

use Rattle.std.proofs.Common.{◌≡◌}
use Rattle.nibbles.specs.NibblesLemmas.{nibble_numbering}
use Rattle.tones.specs.TonesLemmas.{tone_numbering}
use Rattle.towers.proofs.Worked.{byte_numbering, tone_pair_numbering, all_hold, one_product, answered}
use Rattle.towers.proofs.worked_products.Goals as goal

pub returns : goal.returns
returns c =
    let h = all_hold in
    let first : c.unwrap.result ≡ 1 = one_product tone_numbering 5 25 _ _ (answered _ _ _ _ c.unwrap.ensures c.product_of_codes.ensures) h.0 in
    let second : c.unwrap-2.result ≡ 3 = one_product nibble_numbering 8 2 _ _ (answered _ _ _ _ c.unwrap-2.ensures c.product_of_codes-2.ensures) h.1.0 in
    let third : c.unwrap-3.result ≡ 1 = one_product nibble_numbering 2 9 _ _ (answered _ _ _ _ c.unwrap-3.ensures c.product_of_codes-3.ensures) h.1.1.0 in
    let fourth : c.unwrap-4.result ≡ 24 = one_product byte_numbering 16 16 _ _ (answered _ _ _ _ c.unwrap-4.ensures c.product_of_codes-4.ensures) h.1.1.1.0 in
    let fifth : c.unwrap-5.result ≡ 1 = one_product byte_numbering 16 255 _ _ (answered _ _ _ _ c.unwrap-5.ensures c.product_of_codes-5.ensures) h.1.1.1.1.0 in
    let sixth : c.unwrap-6.result ≡ 30 = one_product tone_pair_numbering 31 31 _ _ (answered _ _ _ _ c.unwrap-6.ensures c.product_of_codes-6.ensures) h.1.1.1.1.1.0 in
    let seventh : c.unwrap-7.result ≡ 1 = one_product tone_pair_numbering 32 481 _ _ (answered _ _ _ _ c.unwrap-7.ensures c.product_of_codes-7.ensures) h.1.1.1.1.1.1.0 in
    record { value = cc (first, second, third, fourth, fifth, sixth, seventh); theorem = h }

use Rattle.std.proofs.Common.{sym, ap, ◌∙◌, ◌+◌, ◌/◌, ◌%◌, ◌^◌, ◌<◌, get_or, length, arith, ℕ}
use Rattle.std.specs.Int.Bits.{bit_or}
use Rattle.bit_array.proofs.Elements.{element_of_across_words, low_mask}
use Rattle.history_orders.proofs.Shifts.{shifted_twice}
use Rattle.history_orders.proofs.number_scan.two_word_element.Goals as goal

pub returns : goal.returns
returns c =
    let words = c.args.words.now in
    let at = c.args.at in
    let low = get_or words (at / 64) 0 / 2 ^ (at % 64) in
    let second = get_or words (at / 64 + 1) 0 in
    let inside : at / 64 + 1 < length words = omega (arith, c.requires.two) in
    let below : at % 64 < 64 = omega arith in
    low_mask _ c.args.width c.requires.narrow
    ∙ ap (λ (high : ℕ). bit_or low high % 2 ^ c.args.width) (shifted_twice second (at % 64) below)
    ∙ sym (element_of_across_words words at c.args.width c.type_inv.words inside c.requires.narrow)

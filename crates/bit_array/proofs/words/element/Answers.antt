use Rattle.std.proofs.Common.{sym, rules, ◌≡◌, ◌∙◌, arith}
use Rattle.bit_array.proofs.Elements.{element_of_no_width, element_of_one_word, element_of_across_words}
use Rattle.bit_array.proofs.words.element.Goals as goal

pub returns-then-width-eq0 : goal.returns-then-width-eq0
returns-then-width-eq0 c =
    let none : c.args.width ≡ 0 = search rules in
    rw none (sym (element_of_no_width c.args.words.now c.args.at))

pub returns-then-shift-width-le64 : goal.returns-then-shift-width-le64
returns-then-shift-width-le64 c =
    c.low_bits.ensures
    ∙ sym (element_of_one_word c.args.words.now c.args.at c.args.width c.type_inv.words (omega arith) c.if-shift-width-le64.true)

pub returns : goal.returns
returns c =
    c.low_bits-2.ensures
    ∙ sym (element_of_across_words c.args.words.now c.args.at c.args.width c.type_inv.words (omega arith) c.requires.width)

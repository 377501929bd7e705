use Rattle.std.proofs.Common.{sym, ◌∙◌}
use Rattle.bit_array.proofs.Blocks.{element_in_word}
use Rattle.bit_array.proofs.words.in_word.Goals as goal

pub returns-clause-is : goal.returns-clause-is
returns-clause-is c =
    c.low_bits.ensures ∙ sym (element_in_word c.args.words.now c.args.place c.args.shift c.args.width c.type_inv.words c.requires.inside c.requires.some c.requires.width)

pub returns-clause-fits : goal.returns-clause-fits
returns-clause-fits c = (c.type_inv.words c.args.place).fits

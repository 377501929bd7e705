use Rattle.std.proofs.Common.{◌<◌, ◌^◌, subst, sym}
use Rattle.bit_array.proofs.Elements.{element_of-lt}
use Rattle.bit_array.proofs.copy.copy_piece.Goals as goal

pub put_block-requires-clause-small : goal.put_block-requires-clause-small
put_block-requires-clause-small c = subst (λ e. e < 2 ^ c.args.len) (sym c.element.ensures) (element_of-lt c.args.from.now c.args.at c.args.len)

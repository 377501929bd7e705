use Rattle.bit_array.proofs.Elements.{low_mask}
use Rattle.bit_array.proofs.words.low_bits.Goals as goal

pub returns : goal.returns
returns c = low_mask c.args.word c.args.width c.requires.width

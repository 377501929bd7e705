use Rattle.bit_array.proofs.Blocks.{block_is, block_apart}
use Rattle.bit_array.proofs.words.set_element.Goals as goal

pub returns-clause-is : goal.returns-clause-is
returns-clause-is c = block_is c.args.words.now c.put_block.new.words c.args.at c.args.width c.args.value c.requires.small c.put_block.ensures

pub returns-clause-others : goal.returns-clause-others
returns-clause-others c = block_apart c.args.words.now c.put_block.new.words c.args.at c.args.width c.args.value c.requires.small c.put_block.ensures

use Rattle.bit_array.specs.Element.{element_of}
use Rattle.bit_array.proofs.Elements.{element_of-lt}
use Rattle.bit_array.proofs.Blocks.{block_is, block_apart}
use Rattle.bit_array.proofs.Runs.{same_within}
use Rattle.bit_array.proofs.copy.copy_bits.Goals as goal

pub returns-clause-each : goal.returns-clause-each
returns-clause-each c =
    let from = c.args.from.now in
    let value = element_of from c.args.at c.args.len in
    same_within from c.copy_block.new.to c.args.at c.args.place c.args.len
    (block_is c.args.to.now c.copy_block.new.to c.args.place c.args.len value (element_of-lt from c.args.at c.args.len) c.copy_block.ensures)

pub returns-clause-others : goal.returns-clause-others
returns-clause-others c =
    let from = c.args.from.now in
    block_apart c.args.to.now c.copy_block.new.to c.args.place c.args.len (element_of from c.args.at c.args.len) (element_of-lt from c.args.at c.args.len) c.copy_block.ensures

use Rattle.std.proofs.Common.{◌∙◌, arith}
use Rattle.std.proofs.lemmas.List.{length-set}
use Rattle.blob_writing.proofs.WordsLaid.{laid_more, laid_all, block_put}
use Rattle.blob_writing.proofs.items.push_block.Goals as goal

pub loop-index-preserved : goal.loop-index-preserved
loop-index-preserved c =
    let laid = laid_more c.loop-index.bytes c.args.words.now c.loop-index.index (omega (arith, c.loop-index.invariant.0, c.requires)) (omega arith) c.loop-index.invariant.1 in
    (length-set c.loop-index.bytes c.loop-index.index c.to_be_bytes.result ∙ c.loop-index.invariant.0, rw c.to_be_bytes.ensures laid)

pub returns-clause-ok : goal.returns-clause-ok
returns-clause-ok c =
    block_put c.extend_from_slice.result c.args.out.now.items _ _ _ c.extend_from_slice.ensures.items
    (c.as_flattened.ensures.value ∙ laid_all c.loop-index.bytes c.args.words.now c.loop-index.index (omega arith) (omega arith) c.loop-index.invariant.1)

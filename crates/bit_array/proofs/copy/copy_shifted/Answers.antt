use Rattle.std.proofs.Common.{◌+◌, ◌-◌, ◌*◌, ◌/◌, ◌%◌, ◌^◌, bit_or, slice_index_or, arith}
use Rattle.bit_array.proofs.Runs.{none_copied, two_words, word_grown}
use Rattle.bit_array.proofs.copy.copy_shifted.Goals as goal

pub loop-index-init : goal.loop-index-init
loop-index-init c = none_copied c.args.from.now c.args.to.now (64 * c.args.base + c.args.shift) (64 * c.args.first)

pub loop-index-preserved : goal.loop-index-preserved
loop-index-preserved c =
    let from = c.args.from.now in
    let place = c.args.base + c.loop-index.index in
    let shift = c.args.shift in
    word_grown from c.args.to.now c.loop-index.to c.put_word.new.words (64 * c.args.base + shift) c.args.first c.loop-index.index
    (bit_or (slice_index_or from place 0 / 2 ^ shift) (slice_index_or from (place + 1) 0 * 2 ^ (64 - shift) % 2 ^ 64))
    c.loop-index.invariant c.put_word.ensures (two_words from place shift (64 * c.args.base + shift + 64 * c.loop-index.index) c.type_inv.from (omega arith) c.requires.below (omega arith))

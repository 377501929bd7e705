use Rattle.std.proofs.Common.{slice_index_or, ◌-◌, ◌+◌, ◌*◌, ◌%◌, ◌^◌}
use Rattle.bit_array.proofs.Blocks.{word_changed, block_in_word}
use Rattle.bit_array.proofs.words.put_in_word.Goals as goal

pub overflow_add-words : goal.overflow_add-words
overflow_add-words c =
    let word = slice_index_or c.args.words.now c.args.place 0 in
    let old = c.in_word-old.ensures in
    record { fits = (word_changed word c.args.shift c.args.width c.args.value c.in_word-old.result old.fits c.requires.width c.requires.small old.digits).fits }

pub returns : goal.returns
returns c =
    let words = c.args.words.now in
    let word = slice_index_or words c.args.place 0 in
    let shift = c.args.shift in
    let value = c.args.value in
    let old = c.in_word-old.result in
    let told = c.in_word-old.ensures in
    let changed = word_changed word shift c.args.width value old told.fits c.requires.width c.requires.small told.digits in
    block_in_word words c.args.place shift c.args.width value (word - old * 2 ^ shift % 2 ^ 64 + value * 2 ^ shift % 2 ^ 64) old c.requires.inside told.is changed.sum

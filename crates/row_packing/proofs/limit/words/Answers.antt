use Rattle.row_packing.proofs.Measuring.{words_are}
use Rattle.row_packing.proofs.limit.words.Goals as goal

pub returns : goal.returns
returns c rows counted =
    words_are c.args.shape.now c.args.chosen.now.max c.as_slice.result.now c.args.chosen.now.widths c.args.held.items c.fixed_words.result rows c.as_slice.ensures counted c.fixed_words.ensures

use Rattle.std.proofs.Common.{◌/◌, refl, arith}
use Rattle.list_codec.proofs.ListElements.{ordinals_up_to}
use Rattle.list_codec.proofs.faults.are_ordinals_by.Goals as goal

pub returns-then-reaches_to : goal.returns-then-reaches_to
returns-then-reaches_to c =
    let told = c.if-reaches_to.ensures refl in
    ordinals_up_to c.args.words.now c.args.width c.args.start c.loop-index.index c.args.end (c.loop-index.index / 64) c.args.reaches.now c.loop-index.invariant c.requires.reaches told.0 told.1 (omega arith)

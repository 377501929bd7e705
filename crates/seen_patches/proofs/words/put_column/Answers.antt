use Rattle.seen_patches.proofs.PutColumn.{put_more}
use Rattle.seen_patches.proofs.words.put_column.Goals as goal

pub loop-place-preserved : goal.loop-place-preserved
loop-place-preserved c =
    put_more c.args.from.now c.args.source c.args.to.now c.loop-place.to c.set_element.new.words c.args.target c.loop-place.place c.element_or_ones-value.result c.requires.target.inside
    c.loop-place.invariant c.set_element.ensures.is c.element_or_ones-value.ensures.is c.set_element.auto.words c.set_element.ensures.others

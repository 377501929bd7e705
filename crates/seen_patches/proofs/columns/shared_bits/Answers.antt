use Rattle.std.proofs.Common.{length, refl, arith}
use Rattle.std.proofs.lemmas.Option.{slice_get_read}
use Rattle.seen_patches.proofs.Naming.{shared_more}
use Rattle.seen_patches.proofs.columns.shared_bits.Goals as goal

pub loop-field-preserved : goal.loop-field-preserved
loop-field-preserved c =
    let item = slice_get_read c.args.mine.now (length c.args.mine.now) c.loop-field.field-index c.field-item.result refl (omega arith) c.field-item.is in
    shared_more c.args.mine.now c.args.theirs.now c.args.widths.now c.loop-field.field-index c.width_at-bits.result c.loop-field.bits c.field-item.result c.text.result.now c.find-place.result item
    c.width_at-bits.ensures c.find-place.ensures.is c.text.ensures c.requires.narrow c.loop-field.invariant

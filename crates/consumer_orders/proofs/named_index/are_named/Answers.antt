use Rattle.std.proofs.Common.{refl}
use Rattle.consumer_orders.proofs.Naming.{named_more}
use Rattle.consumer_orders.proofs.named_index.are_named.Goals as goal

pub loop-place-preserved : goal.loop-place-preserved
loop-place-preserved c =
    named_more c.args.model.now c.args.type_index c.args.texts.now c.args.paths.now c.loop-place.place c.index-texts-place.result c.index-paths-place.result c.loop-place-test.true c.if-texts-paths.false
    c.index-texts-place.is c.index-paths-place.is c.loop-place.invariant (c.if-not-is_named.ensures refl)

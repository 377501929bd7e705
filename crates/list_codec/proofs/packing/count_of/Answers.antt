use Rattle.std.proofs.Common.{arith}
use Rattle.list_codec.proofs.Places.{counted_more}
use Rattle.list_codec.proofs.packing.count_of.Goals as goal

pub overflow_add-count : goal.overflow_add-count
overflow_add-count g c =
    let more = counted_more (g.P.PlacedRows.places c.args.rows.now) c.loop-place.place c.loop-place.count _ c.elements_in.result.now c.in_ok-lent.ensures c.elements_in.ensures c.loop-place.invariant in
    record { fits = omega (arith, more, c.requires) }

pub loop-place-preserved : goal.loop-place-preserved
loop-place-preserved g c =
    counted_more (g.P.PlacedRows.places c.args.rows.now) c.loop-place.place c.loop-place.count _ c.elements_in.result.now c.in_ok-lent.ensures c.elements_in.ensures c.loop-place.invariant

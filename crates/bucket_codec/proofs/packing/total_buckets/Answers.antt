use Rattle.std.proofs.Common.{arith}
use Rattle.std.specs.Prelude.{option_copied}
use Rattle.bucket_codec.specs.Packed.{IsFew}
use Rattle.bucket_codec.proofs.Placed.{lent_has, lent_is, total_more, within_total}
use Rattle.bucket_codec.proofs.packing.total_buckets.Goals as goal

pub bucket_count-total-requires : goal.bucket_count-total-requires
bucket_count-total-requires g c =
    lent_has IsFew (g.P.PlacedRows.places c.args.rows.now) c.loop-place.place (option_copied c.row_of_place.result) _ c.requires.few c.in_ok-lent.ensures c.row_of_place.ensures

pub overflow_add-total : goal.overflow_add-total
overflow_add-total g c =
    let rows = g.P.PlacedRows.places c.args.rows.now in
    let row = option_copied c.row_of_place.result in
    let count = c.count-place-end.ensures in
    let is = lent_is rows c.loop-place.place row _ c.in_ok-lent.ensures c.row_of_place.ensures in
    record { fits = omega (arith, within_total rows c.loop-place.place c.loop-place.total row (omega arith) is c.loop-place.invariant, c.requires.small, c.bucket_count-total.ensures) }

pub loop-place-preserved : goal.loop-place-preserved
loop-place-preserved g c =
    total_more (g.P.PlacedRows.places c.args.rows.now) c.loop-place.place c.loop-place.total c.bucket_count-total.result (option_copied c.row_of_place.result) _ c.in_ok-lent.ensures c.row_of_place.ensures
    c.bucket_count-total.ensures c.loop-place.invariant

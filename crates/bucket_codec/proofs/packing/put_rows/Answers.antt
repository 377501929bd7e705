use Rattle.std.proofs.Common.{arith, ◌≡◌, ◌+◌, ◌*◌, length, subst}
use Rattle.std.specs.Prelude.{option_copied}
use Rattle.bucket_codec.specs.BucketPlace.{place_width, bucket_width}
use Rattle.bucket_codec.specs.Filled.{KeepsBack}
use Rattle.bucket_codec.specs.Packed.{bucket_total, buckets_of, IsWritable}
use Rattle.bucket_codec.proofs.Placed.{begun_more, begun_all, within_total, buckets_held, lent_is, lent_has}
use Rattle.bucket_codec.proofs.packing.put_rows.Goals as goal

pub put_row-end-requires-clause-row : goal.put_row-end-requires-clause-row
put_row-end-requires-clause-row g c =
    lent_has (IsWritable c.args.widths.now) (g.P.PlacedRows.places c.args.rows.now) c.loop-place.place (option_copied c.row_of_place-row.result) _ c.requires.each c.in_ok-lent.ensures c.row_of_place-row.ensures

pub put_row-end-requires-clause-pointer : goal.put_row-end-requires-clause-pointer
put_row-end-requires-clause-pointer g c =
    let rows = g.P.PlacedRows.places c.args.rows.now in
    let row = option_copied c.row_of_place-row.result in
    let count = c.count-place-end.ensures in
    let is = lent_is rows c.loop-place.place row _ c.in_ok-lent.ensures c.row_of_place-row.ensures in
    omega (arith, within_total rows c.loop-place.place c.loop-place.end row (omega arith) is c.loop-place.invariant.ends, c.requires.pointers)

pub put_row-end-requires-clause-inside : goal.put_row-end-requires-clause-inside
put_row-end-requires-clause-inside g c =
    let rows = g.P.PlacedRows.places c.args.rows.now in
    let row = option_copied c.row_of_place-row.result in
    let count = c.count-place-end.ensures in
    let is = lent_is rows c.loop-place.place row _ c.in_ok-lent.ensures c.row_of_place-row.ensures in
    let within = within_total rows c.loop-place.place c.loop-place.end row (omega arith) is c.loop-place.invariant.ends in
    buckets_held (bucket_total rows) (c.loop-place.end + buckets_of row) (bucket_width c.args.widths.now) _ within
    (omega (arith, c.requires.buckets, c.loop-place.invariant.wide))

pub loop-place-preserved : goal.loop-place-preserved
loop-place-preserved g c =
    let rows = g.P.PlacedRows.places c.args.rows.now in
    let row = option_copied c.row_of_place-row.result in
    let count = c.count-place-end.ensures in
    let is = lent_is rows c.loop-place.place row _ c.in_ok-lent.ensures c.row_of_place-row.ensures in
    begun_more c.args.widths.now rows c.args.first.now c.args.second.now c.loop-place.first c.loop-place.second c.put_row-end.new.first c.put_row-end.new.second c.loop-place.place
    c.loop-place.end c.put_row-end.result row (omega arith) is c.loop-place.invariant c.put_row-end.ensures.end c.put_row-end.ensures.pointer c.put_row-end.ensures.packed
    c.put_row-end.ensures.laid c.put_row-end.ensures.first c.put_row-end.ensures.second c.put_row-end.ensures.zeros c.put_row-end.ensures.first_back c.put_row-end.ensures.second_back

pub returns-clause-zeros : goal.returns-clause-zeros
returns-clause-zeros g c = λ bucket below.
    let rows = g.P.PlacedRows.places c.args.rows.now in
    let count = c.count-place-end.ensures in
    let all = begun_all c.args.widths.now rows _ _ c.loop-place.first c.loop-place.second c.loop-place.place c.loop-place.end (omega arith) c.loop-place.invariant in
    c.loop-place.invariant.zeros bucket (omega (arith, all))

pub returns-clause-first : goal.returns-clause-first
returns-clause-first g c =
    let rows = g.P.PlacedRows.places c.args.rows.now in
    let count = c.count-place-end.ensures in
    let past = c.loop-place-test.false in
    let within = c.loop-place.auto.place-end in
    let last : c.loop-place.place ≡ length rows = omega arith in
    subst (λ n. KeepsBack c.args.first.now c.loop-place.first (n * place_width c.args.widths.now)) last c.loop-place.invariant.back

pub returns-clause-second : goal.returns-clause-second
returns-clause-second g c =
    let rows = g.P.PlacedRows.places c.args.rows.now in
    let count = c.count-place-end.ensures in
    let all = begun_all c.args.widths.now rows _ _ c.loop-place.first c.loop-place.second c.loop-place.place c.loop-place.end (omega arith) c.loop-place.invariant in
    subst (λ n. KeepsBack c.args.second.now c.loop-place.second (n * bucket_width c.args.widths.now)) all c.loop-place.invariant.wide_back

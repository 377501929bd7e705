use Rattle.std.proofs.Common.{arith}
use Rattle.std.specs.Prelude.{option_copied}
use Rattle.object_codec.proofs.PlacesPacked.{packed_none, place_room, packed_more, packed_all, lent_is}
use Rattle.object_codec.proofs.packing.put_rows.Goals as goal

pub loop-place-init : goal.loop-place-init
loop-place-init g c =
    packed_none c.args.layout.schema.now.shape c.args.layout.widths.now (g.P.PlacedRows.places c.args.rows.now) c.args.first.now c.args.areas.now c.requires.can c.requires.zeros c.requires.none

pub put_laid-requires-clause-room : goal.put_laid-requires-clause-room
put_laid-requires-clause-room g c =
    let rows = g.P.PlacedRows.places c.args.rows.now in
    let row = option_copied c.row_of_place-row.result in
    let count = c.count-place-end.ensures in
    place_room c.args.layout.schema.now.shape c.args.layout.widths.now rows c.loop-place.first c.loop-place.areas c.loop-place.place row c.requires.can c.loop-place.invariant (omega arith)
    (lent_is rows c.loop-place.place row _ c.in_ok-lent.ensures c.row_of_place-row.ensures)

pub loop-place-preserved : goal.loop-place-preserved
loop-place-preserved g c =
    let rows = g.P.PlacedRows.places c.args.rows.now in
    let row = option_copied c.row_of_place-row.result in
    let count = c.count-place-end.ensures in
    packed_more c.args.layout.schema.now.shape c.args.layout.widths.now rows c.loop-place.first c.put_laid.new.first c.loop-place.areas c.put_laid.new.areas c.loop-place.place row
    c.loop-place.invariant (omega arith) (lent_is rows c.loop-place.place row _ c.in_ok-lent.ensures c.row_of_place-row.ensures) c.in_ok-put_laid.ensures c.put_laid.auto.first

pub returns : goal.returns
returns g c =
    let past = c.loop-place-test.false in
    let within = c.loop-place.auto.place-end in
    let count = c.count-place-end.ensures in
    packed_all c.args.layout.schema.now.shape c.args.layout.widths.now (g.P.PlacedRows.places c.args.rows.now) c.loop-place.first c.loop-place.areas c.loop-place.place c.requires.can c.loop-place.invariant (omega arith)

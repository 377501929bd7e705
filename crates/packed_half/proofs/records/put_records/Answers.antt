use Rattle.std.proofs.Common.{refl, arith}
use Rattle.std.specs.FinMap.{get}
use Rattle.packed_half.proofs.PlacedRecords.{records_begun, record_room, record_more, records_done}
use Rattle.packed_half.proofs.records.put_records.Goals as goal

pub loop-place-init : goal.loop-place-init
loop-place-init g c =
    records_begun c.args.schema.now.shape c.args.half.now (g.N.NewRows.rows c.args.new.now) c.requires.object c.requires.can c.args.half.now.widths c.args.first.now c.args.areas.now refl
    c.requires.first c.requires.none

pub put_place-requires-clause-room : goal.put_place-requires-clause-room
put_place-requires-clause-room g c =
    record_room c.args.schema.now.shape c.args.half.now (g.N.NewRows.rows c.args.new.now) c.requires.object c.requires.can c.args.half.now.widths c.loop-place.first c.loop-place.areas c.loop-place.place
    (get (g.N.NewRows.rows c.args.new.now) c.loop-place.place) refl c.loop-place.invariant (omega arith) refl

pub loop-place-preserved : goal.loop-place-preserved
loop-place-preserved g c =
    record_more c.args.schema.now.shape c.args.half.now (g.N.NewRows.rows c.args.new.now) c.requires.object c.requires.can c.args.half.now.widths c.loop-place.first c.put_place.new.first c.loop-place.areas
    c.put_place.new.areas c.loop-place.place (get (g.N.NewRows.rows c.args.new.now) c.loop-place.place) c.loop-place.invariant (omega arith) refl c.in_ok-put_place.ensures c.put_place.auto.first

pub returns : goal.returns
returns g c =
    let past = c.loop-place-test.false in
    let within = c.loop-place.auto.place-end in
    records_done c.args.schema.now.shape c.args.half.now (g.N.NewRows.rows c.args.new.now) c.requires.object c.requires.can c.args.half.now.widths c.loop-place.first c.loop-place.areas c.loop-place.place
    refl c.loop-place.invariant (omega arith)

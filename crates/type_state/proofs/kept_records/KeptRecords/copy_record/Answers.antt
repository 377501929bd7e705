use Rattle.std.proofs.Common.{arith, map}
use Rattle.object_codec.proofs.FieldWidths.{record_fits}
use Rattle.object_codec.specs.Bytes.{bytes_of}
use Rattle.type_state.proofs.KeptRecords.{record_holds, record_put, record_room}
use Rattle.type_state.proofs.kept_records.KeptRecords.copy_record.Goals as goal

pub overflow_cast-size_there : goal.overflow_cast-size_there
overflow_cast-size_there c =
    let kept = c.args.self in
    let holds = record_holds kept.shape.now c.args.schema.now.shape kept.half.now kept.words.now c.as_slice-widths_there.result.now kept.records.first.now (map bytes_of kept.records.areas.now) c.from-place.result c.args.ordinal
    c.requires.shape c.as_slice-widths_there.ensures c.requires.kept.first c.requires.kept.bytes c.from-place.ensures c.requires.kept.half c.requires.room.object c.requires.live c.ranges.ordinal.fits in
    omega (arith, c.total_width-size_there.ensures.total, record_fits _ _ _ _ _ holds)

pub overflow_cast-size : goal.overflow_cast-size
overflow_cast-size c = omega (arith, c.total_width-size.ensures.total, record_fits _ _ _ _ _ c.requires.room.holds)

pub copy_record-requires-clause-holds : goal.copy_record-requires-clause-holds
copy_record-requires-clause-holds c =
    let kept = c.args.self in
    record_holds kept.shape.now c.args.schema.now.shape kept.half.now kept.words.now c.as_slice-widths_there.result.now kept.records.first.now (map bytes_of kept.records.areas.now) c.from-place.result c.args.ordinal
    c.requires.shape c.as_slice-widths_there.ensures c.requires.kept.first c.requires.kept.bytes c.from-place.ensures c.requires.kept.half c.requires.room.object c.requires.live c.ranges.ordinal.fits

pub copy_record-requires-clause-room : goal.copy_record-requires-clause-room
copy_record-requires-clause-room c =
    let kept = c.args.self in
    record_room kept.shape.now c.args.schema.now.shape kept.half.now kept.words.now c.as_slice-widths_there.result.now kept.records.first.now (map bytes_of kept.records.areas.now) c.from-place.result c.args.ordinal
    c.requires.shape c.as_slice-widths_there.ensures c.requires.kept.first c.requires.kept.bytes c.from-place.ensures c.requires.kept.half c.requires.room.object c.requires.live c.ranges.ordinal.fits
    c.args.widths.now c.args.first.now c.args.areas.now c.requires.room

pub returns : goal.returns
returns c =
    let kept = c.args.self in
    record_put kept.shape.now c.args.schema.now.shape kept.half.now kept.words.now c.as_slice-widths_there.result.now kept.records.first.now (map bytes_of kept.records.areas.now) c.from-place.result c.args.ordinal
    c.requires.shape c.as_slice-widths_there.ensures c.requires.kept.first c.requires.kept.bytes c.from-place.ensures c.requires.kept.half c.requires.room.object c.requires.live c.ranges.ordinal.fits
    c.copy_record.result c.args.widths.now c.args.first.now c.copy_record.new.first c.args.areas.now c.copy_record.new.areas c.copy_record.ensures.put

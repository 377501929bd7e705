use Rattle.std.proofs.Common.{◌∙◌, List, ℕ, ap, map, sym}
use Rattle.std.specs.Prelude.{sum}
use Rattle.object_codec.specs.Bytes.{bytes_of}
use Rattle.type_state.proofs.KeptRecords.{put_at, record_holds, room_at}
use Rattle.type_state.proofs.kept_records.KeptRecords.copy_to.Goals as goal

pub copy_record-requires-clause-there_size : goal.copy_record-requires-clause-there_size
copy_record-requires-clause-there_size c = c.requires.size_there ∙ ap (λ (widths : List ℕ). sum widths) (sym c.as_slice.ensures)

pub copy_record-requires-clause-holds : goal.copy_record-requires-clause-holds
copy_record-requires-clause-holds c =
    let kept = c.args.self in
    record_holds kept.shape.now c.args.schema.now.shape kept.half.now kept.words.now c.as_slice.result.now kept.records.first.now (map bytes_of kept.records.areas.now) c.from.result c.args.ordinal
    c.requires.shape c.as_slice.ensures c.requires.kept.first c.requires.kept.bytes c.from.ensures c.requires.kept.half c.requires.room.object c.requires.live c.ranges.ordinal.fits

pub copy_record-requires-clause-room : goal.copy_record-requires-clause-room
copy_record-requires-clause-room c =
    let kept = c.args.self in
    room_at kept.shape.now c.args.schema.now.shape kept.half.now kept.words.now c.as_slice.result.now kept.records.first.now (map bytes_of kept.records.areas.now) c.from.result c.args.ordinal
    c.requires.shape c.as_slice.ensures c.requires.kept.first c.requires.kept.bytes c.from.ensures c.requires.kept.half c.requires.room.object c.requires.live c.ranges.ordinal.fits
    c.args.here.widths.now c.args.first.now c.args.areas.now c.args.here.place c.requires.room

pub returns : goal.returns
returns c =
    let kept = c.args.self in
    put_at kept.shape.now c.args.schema.now.shape kept.half.now kept.words.now c.as_slice.result.now kept.records.first.now (map bytes_of kept.records.areas.now) c.from.result c.args.ordinal
    c.requires.shape c.as_slice.ensures c.requires.kept.first c.requires.kept.bytes c.from.ensures c.requires.kept.half c.requires.room.object c.requires.live c.ranges.ordinal.fits
    c.copy_record.result c.args.here.widths.now c.args.first.now c.copy_record.new.first c.args.areas.now c.copy_record.new.areas c.args.here.place c.copy_record.ensures.put

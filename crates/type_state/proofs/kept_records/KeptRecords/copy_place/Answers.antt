use Rattle.std.proofs.Common.{ℕ, List, Option, map, ap, refl, sym, subst, ◌∙◌, arith}
use Rattle.std.specs.Prelude.{OnOk, sum}
use Rattle.row_model.specs.declared.row.Row.{Row}
use Rattle.object_codec.specs.Packing.{HasRoom, IsRowPut}
use Rattle.object_codec.specs.Bytes.{bytes_of}
use Rattle.type_state.proofs.Halves.{is_there, not_there}
use Rattle.type_state.proofs.KeptRecords.{record_holds, record_put, record_room}
use Rattle.type_state.proofs.kept_records.KeptRecords.copy_place.Goals as goal

pub overflow_cast-ordinal : goal.overflow_cast-ordinal
overflow_cast-ordinal c = omega (arith, c.requires.room.holds.below)

pub copy_record-requires-clause-there_size : goal.copy_record-requires-clause-there_size
copy_record-requires-clause-there_size c = c.requires.size_there ∙ ap (λ (widths : List ℕ). sum widths) (sym c.as_slice.ensures)

pub copy_record-requires-clause-holds : goal.copy_record-requires-clause-holds
copy_record-requires-clause-holds c =
    let kept = c.args.self in
    let place = c.args.here.place in
    record_holds kept.shape.now c.args.schema.now.shape kept.half.now kept.words.now c.as_slice.result.now kept.records.first.now (map bytes_of kept.records.areas.now) place place
    c.requires.shape c.as_slice.ensures c.requires.kept.first c.requires.kept.bytes refl c.requires.kept.half c.requires.room.object
    (is_there kept.shape.now kept.half.now kept.words.now place (c.contains.ensures.member.0 c.if-contains.true)) c.requires.room.holds.below

pub copy_record-requires-clause-room : goal.copy_record-requires-clause-room
copy_record-requires-clause-room c =
    let kept = c.args.self in
    let place = c.args.here.place in
    record_room kept.shape.now c.args.schema.now.shape kept.half.now kept.words.now c.as_slice.result.now kept.records.first.now (map bytes_of kept.records.areas.now) place place
    c.requires.shape c.as_slice.ensures c.requires.kept.first c.requires.kept.bytes refl c.requires.kept.half c.requires.room.object
    (is_there kept.shape.now kept.half.now kept.words.now place (c.contains.ensures.member.0 c.if-contains.true)) c.requires.room.holds.below
    c.args.here.widths.now c.args.first.now c.args.areas.now c.requires.room

pub returns-then-contains : goal.returns-then-contains
returns-then-contains c =
    let kept = c.args.self in
    let place = c.args.here.place in
    record_put kept.shape.now c.args.schema.now.shape kept.half.now kept.words.now c.as_slice.result.now kept.records.first.now (map bytes_of kept.records.areas.now) place place
    c.requires.shape c.as_slice.ensures c.requires.kept.first c.requires.kept.bytes refl c.requires.kept.half c.requires.room.object
    (is_there kept.shape.now kept.half.now kept.words.now place (c.contains.ensures.member.0 c.if-contains.true)) c.requires.room.holds.below
    c.copy_record.result c.args.here.widths.now c.args.first.now c.copy_record.new.first c.args.areas.now c.copy_record.new.areas c.copy_record.ensures.put

pub put_row-requires : goal.put_row-requires
put_row-requires c =
    let kept = c.args.self in
    let here = c.args.here in
    let none = not_there kept.shape.now kept.half.now kept.words.now here.place (λ at. let live = c.contains.ensures.member.1 at in let not = c.if-contains.false in absurd cc) in
    subst (λ (row : Option Row). HasRoom c.args.schema.now.shape here.widths.now c.args.first.now c.args.areas.now here.place row) none c.requires.room

pub returns : goal.returns
returns c =
    let kept = c.args.self in
    let here = c.args.here in
    let none = not_there kept.shape.now kept.half.now kept.words.now here.place (λ at. let live = c.contains.ensures.member.1 at in let not = c.if-contains.false in absurd cc) in
    subst (λ (row : Option Row). OnOk c.put_row.result (IsRowPut c.args.schema.now.shape here.widths.now c.args.first.now c.args.areas.now c.put_row.new.first c.put_row.new.areas here.place row)) (sym none) c.put_row.ensures

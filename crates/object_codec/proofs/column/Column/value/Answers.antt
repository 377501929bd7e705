use Rattle.std.proofs.Common.{refl, sym}
use Rattle.std.proofs.lemmas.List.FromFn.{length-map-range_with_len}
use Rattle.object_codec.specs.Bytes.{bytes_of}
use Rattle.object_codec.specs.Columns.{part_of}
use Rattle.object_codec.proofs.Shown.{part_shown, value_or_reason}
use Rattle.object_codec.proofs.column.Column.value.Goals as goal

pub returns-in-Ok : goal.returns-in-Ok
returns-in-Ok c = λ value spelled.
    (let column = c.args.self.now in
    let area = bytes_of column.area in
    part_shown column.kind.now (part_of column c.args.place) c.in-Ok.part c.shown.result value
    (c.in-Ok.ensures.tells c.args.place column.before area refl c.requires.record_holds (sym (length-map-range_with_len _ column.area.start column.area.len)))
    c.shown.ensures spelled)

pub returns-in-Err : goal.returns-in-Err
returns-in-Err c = λ value spelled.
    (let column = c.args.self.now in
    let area = bytes_of column.area in
    absurd
    (value_or_reason column.kind.now (part_of column c.args.place) value c.in-Err.field-0 spelled
    (c.in-Err.ensures.tells c.args.place column.before area refl c.requires.record_holds (sym (length-map-range_with_len _ column.area.start column.area.len)))))

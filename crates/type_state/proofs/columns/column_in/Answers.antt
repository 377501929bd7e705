use Rattle.std.proofs.Common.{rules, arith, ◌≡◌, ◌<◌, None, length}
use Rattle.type_state.proofs.HalfColumns.{column_given, packed_by_max, there_given, wide_given}
use Rattle.object_codec.specs.Bytes.{bytes_of}
use Rattle.type_state.proofs.columns.column_in.Goals as goal

pub bytes_of_field-area-requires-clause-there : goal.bytes_of_field-area-requires-clause-there
bytes_of_field-area-requires-clause-there c =
    let shape = c.args.rows.shape.now in
    let half = c.args.rows.half.now in
    let words = c.args.rows.words.now in
    let some : half.max ≡ None → ⊥ = search rules in
    let inside : c.args.field < length c.as_slice-fields.result.now = omega arith in
    there_given shape c.in-Object.field-0 c.in-Object.fields c.as_slice-fields.result.now half words half.widths c.in-Object.is c.as_slice-fields.ensures (λ _. half.widths) (packed_by_max shape half words c.requires some)
    c.args.field c.as_slice.result.now inside c.as_slice.ensures

pub column_of-requires-clause-wide : goal.column_of-requires-clause-wide
column_of-requires-clause-wide c =
    let shape = c.args.rows.shape.now in
    let half = c.args.rows.half.now in
    let words = c.args.rows.words.now in
    let some : half.max ≡ None → ⊥ = search rules in
    wide_given shape c.in-Object.field-0 c.in-Object.fields c.as_slice-fields.result.now half words c.as_slice-2.result.now c.in-Object.is c.as_slice-fields.ensures c.as_slice-2.ensures (packed_by_max shape half words c.requires some) some

pub returns : goal.returns
returns c =
    let shape = c.args.rows.shape.now in
    let half = c.args.rows.half.now in
    let words = c.args.rows.words.now in
    let some : half.max ≡ None → ⊥ = search rules in
    column_given shape c.in-Object.field-0 c.in-Object.fields c.as_slice-fields.result.now half words c.as_slice-2.result.now c.in-Object.is c.as_slice-fields.ensures c.as_slice-2.ensures (packed_by_max shape half words c.requires some)
    c.args.field c.column_of.result c.places.result.now c.bytes.result.now c.as_slice.result.now (bytes_of c.bytes_of_field-area.result) c.places.ensures c.bytes.ensures c.as_slice.ensures c.bytes_of_field-area.ensures c.column_of.ensures

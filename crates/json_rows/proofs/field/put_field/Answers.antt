use Rattle.std.proofs.Common.{sym, subst}
use Rattle.std.proofs.lemmas.Result.{on_ok_weaker}
use Rattle.object_codec.specs.Part.{SpellsValue}
use Rattle.row_model.specs.Table.{row_at}
use Rattle.object_codec.specs.declared.value_ref.ValueRef.{ValueRef}
use Rattle.object_codec.specs.Columns.{Shows, part_of}
use Rattle.column_rows.proofs.FieldValues.{column_value}
use Rattle.json_rows.proofs.PackedTexts.{text_put}
use Rattle.json_rows.proofs.field.put_field.Goals as goal

pub returns-in-Text-clause-put : goal.returns-in-Text-clause-put
returns-in-Text-clause-put g c =
    let table = g.R.Rows.table c.args.rows.now in
    let column = c.args.column.now in
    let has = column_value table c.args.type_index c.args.field c.args.ordinal column c.requires.column c.requires.live in
    let spells = subst (λ place. SpellsValue column.kind.now (part_of column place) has.0) (sym c.from.ensures) has.1.spells in
    let shows = subst (λ (shown : ValueRef). Shows shown has.0) c.in-Text.is (c.value.ensures has.0 spells) in
    on_ok_weaker c.put_plain_text.result (λ put. text_put (row_at table c.args.type_index c.args.ordinal) c.args.field c.in-Text.bytes has.0 c.args.out.now.items c.put_plain_text.new.out.items
    (c.is_plain_text.ensures c.if-is_plain_text.true) shows has.2 put) c.put_plain_text.ensures.put

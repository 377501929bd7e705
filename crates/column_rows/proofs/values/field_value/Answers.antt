use Rattle.std.proofs.Common.{Some, sym, ap, subst, ◌∙◌}
use Rattle.object_codec.specs.Part.{SpellsValue}
use Rattle.object_codec.specs.Columns.{part_of}
use Rattle.column_rows.proofs.FieldValues.{column_value}
use Rattle.column_rows.proofs.values.field_value.Goals as goal

pub returns-in_ok-shown_value-in-Some : goal.returns-in_ok-shown_value-in-Some
returns-in_ok-shown_value-in-Some g c =
    let column = c.in-Some.column in
    let has = column_value (g.R.Rows.table c.args.rows.now) c.args.type_index c.args.field c.args.ordinal column c.in-Some.ensures c.requires in
    let spells = subst (λ place. SpellsValue column.kind.now (part_of column place) has.0) (sym c.from.ensures) has.1.spells in
    ap Some (c.in_ok-shown_value-in-Some.ensures has.0 (c.value.ensures has.0 spells)) ∙ sym has.2

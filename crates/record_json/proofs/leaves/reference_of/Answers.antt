use Rattle.std.proofs.Common.{sym, subst, ap, ◌∙◌}
use Rattle.object_codec.specs.Part.{SpellsValue}
use Rattle.object_codec.specs.Columns.{part_of}
use Rattle.row_model.specs.Key.{ordinal_in}
use Rattle.column_rows.proofs.FieldValues.{column_value}
use Rattle.record_json.proofs.leaves.reference_of.Goals as goal

pub returns-in-Some : goal.returns-in-Some
returns-in-Some g c =
    let column = c.in-Some.column in
    let has = column_value (g.R.Rows.table c.args.rows.now) c.args.type_index c.args.field c.args.ordinal column c.in-Some.ensures c.requires in
    let spells = subst (λ place. SpellsValue column.kind.now (part_of column place) has.0) (sym c.from.ensures) has.1.spells in
    c.ordinal_of.ensures has.0 (c.value.ensures has.0 spells) ∙ ap ordinal_in (sym has.2)

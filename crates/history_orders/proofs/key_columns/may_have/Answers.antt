use Rattle.std.proofs.Common.{ap, sym, subst, ◌∙◌}
use Rattle.row_model.specs.Key.{unless_null}
use Rattle.object_codec.specs.Part.{SpellsValue}
use Rattle.object_codec.specs.Columns.{part_of}
use Rattle.column_rows.proofs.FieldValues.{column_value}
use Rattle.history_orders.proofs.key_columns.may_have.Goals as goal

pub returns : goal.returns
returns g c = λ live has.
    let column = c.args.column.now in
    let found = column_value (g.R.Rows.table c.args.rows.now) c.args.type_index c.args.field c.args.ordinal column c.requires.column_of live in
    let spells = subst (λ place. SpellsValue column.kind.now (part_of column place) found.0) (sym c.from.ensures) found.1.spells in
    c.may_be.ensures found.0 (c.value.ensures found.0 spells) (ap unless_null (sym found.2) ∙ has)

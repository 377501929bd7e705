use Rattle.std.proofs.Common.{subst, sym}
use Rattle.object_codec.specs.Part.{SpellsValue}
use Rattle.object_codec.specs.Columns.{part_of}
use Rattle.column_rows.proofs.SameRows.{value_both}
use Rattle.column_rows.proofs.same_values.is_value_same.Goals as goal

pub returns : goal.returns
returns g c = λ same.
    let column = c.args.column.now in
    let beside = c.args.beside.now in
    value_both (g.A.Rows.table c.args.rows.now) (g.B.Rows.table c.args.others.now) c.args.type_index c.args.ordinal c.args.field column beside c.requires.column_of c.requires.beside_of (λ value other is also.
    c.is_shown_same.ensures same value other (c.value.ensures value (subst (λ place. SpellsValue column.kind.now (part_of column place) value) (sym c.from-place.ensures) is))
    (c.value-2.ensures other (subst (λ place. SpellsValue beside.kind.now (part_of beside place) other) (sym c.from-place.ensures) also)))

-- The key of a row is the value that a column shows, where the key is one field.
use Rattle.std.proofs.Common.{◌≡◌, ℕ, List, [], Some, refl, ap, subst, sym, ◌∙◌}
use Rattle.schema_model.specs.declared.model.path.Path.{Path}
use Rattle.schema_model.specs.declared.schema.Schema.{Schema}
use Rattle.row_model.specs.declared.row.Value.{Value}
use Rattle.row_model.specs.Key.{key_of, unless_null, value_along, with_first}
use Rattle.row_model.specs.Table.{Table, IsLive}
use Rattle.object_codec.specs.Part.{SpellsValue}
use Rattle.object_codec.specs.declared.column.Column.{Column}
use Rattle.object_codec.specs.Columns.{part_of}
use Rattle.column_rows.proofs.FieldValues.{column_value}
use Rattle.key_index.specs.SimpleKey.{IsKeyColumn, key_of_value}

-- A value before nothing else is the key that it is.
alone : (value : Value) → with_first (unless_null (Some value)) (Some []) ≡ key_of_value value
alone Value.Null = refl
alone (Value.Int number) = refl
alone (Value.Long number) = refl
alone (Value.Bool flag) = refl
alone (Value.Text units) = refl
alone (Value.Bytes bytes) = refl
alone (Value.Ref ordinal) = refl

pub simple_key : (schemas : List Schema) (table : Table) (t ordinal place : ℕ) (paths : List Path) (column : Column) (value : Value) → IsKeyColumn table t paths column → IsLive table t ordinal → place ≡ ordinal
    → ((spelled : Value) → SpellsValue column.kind.now (part_of column place) spelled → value ≡ spelled) → key_of schemas table t paths ordinal ≡ key_of_value value
simple_key schemas table t ordinal place paths column value (path, field, one, fields, is) live here shown =
    let has = column_value table t field ordinal column is live in
    let spells = subst (λ p. SpellsValue column.kind.now (part_of column p) has.0) (sym here) has.1.spells in
    ap (λ ps. key_of schemas table t ps ordinal) one
    ∙ ap (λ fs. with_first (value_along schemas table t ordinal fs) (Some [])) fields
    ∙ ap (λ v. with_first (unless_null v) (Some [])) has.2
    ∙ alone has.0
    ∙ ap key_of_value (sym (shown has.0 spells))

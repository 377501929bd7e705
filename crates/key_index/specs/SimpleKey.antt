-- Keys that are one field of the records of a type.
use Rattle.std.specs.Prelude.{◌≡◌, ℕ, List, [], ◌∷◌, Option, Some}
use Rattle.std.specs.Option.{option_map}
use Rattle.schema_model.specs.declared.model.path.Path.{Path}
use Rattle.row_model.specs.declared.row.Value.{Value}
use Rattle.row_model.specs.Key.{unless_null}
use Rattle.row_model.specs.Table.{Table}
use Rattle.object_codec.specs.declared.column.Column.{Column}
use Rattle.column_rows.specs.Columns.{IsColumnOf}

-- The only path of a key is one field of the records of the type, and the column is that of this field.
abbrev pub IsKeyColumn : Table → ℕ → List Path → Column → Type 0
IsKeyColumn table type_index paths column =
    (path : Path) × (field : ℕ) × (paths ≡ path ∷ []) × (path.fields ≡ field ∷ []) × IsColumnOf table type_index field column

-- The key that is one value; none where that is null.
abbrev pub key_of_value : Value → Option (List Value)
key_of_value value = option_map (λ some. some ∷ []) (unless_null (Some value))

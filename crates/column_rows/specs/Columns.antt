-- A field of all records of a type, where these stand packed.
use Rattle.std.specs.Prelude.{◌≡◌, ℕ, List, Some, slice_get}
use Rattle.row_model.specs.declared.row.Row.{Row}
use Rattle.row_model.specs.declared.row.Value.{Value}
use Rattle.row_model.specs.Table.{Table, row_at}
use Rattle.object_codec.specs.Part.{SpellsValue}
use Rattle.object_codec.specs.Stored.{values_of_row}
use Rattle.object_codec.specs.declared.column.Column.{Column}
use Rattle.object_codec.specs.Columns.{IsReadAt, part_of}

-- The column has this value under an ordinal.
pub record HasValue (column : Column) (ordinal : ℕ) (value : Value) : Type 0 where
  pub reads : IsReadAt column ordinal
  pub spells : SpellsValue column.kind.now (part_of column ordinal) value

-- The column has under an ordinal the value of these at an index.
abbrev pub HasValueOf : Column → ℕ → List Value → ℕ → Type 0
HasValueOf column ordinal values index = (value : Value) × (slice_get values index ≡ Some value) × HasValue column ordinal value

-- The column is that of a field of the records of a type: each row's value of the field stands under its ordinal.
abbrev pub IsColumnOf : Table → ℕ → ℕ → Column → Type 0
IsColumnOf table type_index field column =
    (ordinal : ℕ) (row : Row) → row_at table type_index ordinal ≡ Some row → HasValueOf column ordinal (values_of_row row) field

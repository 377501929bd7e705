-- When nothing is seen of what two models have under one name and of two kinds.
use Rattle.std.specs.Prelude.{◌≡◌, ◌⊎◌, ℕ, List, All, Some, slice_get}
use Rattle.schema_model.specs.declared.schema.Field.{Field}
use Rattle.schema_model.specs.declared.schema.Schema.{Schema}
use Rattle.schema_model.specs.declared.schema.Shape.{Shape}
use Rattle.schema_model.specs.Growth.{IsOneKind}
use Rattle.row_model.specs.declared.row.Row.{Row}
use Rattle.row_model.specs.declared.row.Value.{Value}
use Rattle.row_model.specs.Table.{Table, row_at}
use Rattle.row_model.specs.View.{value_named}
use Rattle.written_laws.specs.Chain.{ChainState}

-- The fields of this one's name are of its kind, or the record has null there.
abbrev pub IsQuietField : List Field → List Value → Field → Type 0
IsQuietField own values field = All (IsOneKind field) own ⊎ (value_named own values field.name ≡ Value.Null)

-- The row of one shape is seen as one of another shape: a record has null in each field that is of two kinds, and no other row is of two shapes.
abbrev pub IsQuietRow : Shape → Shape → Row → Type 0
IsQuietRow (Shape.Object key own) (Shape.Object other mine) (Row.Object values) = All (IsQuietField own values) mine
IsQuietRow own mine row = own ≡ mine

-- So are the rows of the types of a table that have one name in both models.
abbrev pub IsQuietTable : List Schema → List Schema → Table → Type 0
IsQuietTable mine own table =
    (type_index seen_index ordinal : ℕ) (schema other : Schema) (row : Row) → slice_get own type_index ≡ Some schema → slice_get mine seen_index ≡ Some other
    → schema.name ≡ other.name → row_at table type_index ordinal ≡ Some row
    → IsQuietRow schema.shape other.shape row

-- So are those of a state, where a consumer sees it through its own model.
abbrev pub IsQuiet : List Schema → ChainState → Type 0
IsQuiet mine state = IsQuietTable mine state.model state.table

-- Where the rows of a type stand whose lines are put.
use Rattle.std.specs.Prelude.{◌≡◌, ◌<◌, ◌^◌, ℕ, List, Some, length, slice_get}
use Rattle.schema_model.specs.declared.schema.Schema.{Schema}
use Rattle.schema_model.specs.declared.schema.Shape.{Shape}
use Rattle.schema_model.specs.Parts.{shape_fields}
use Rattle.row_model.specs.declared.row.Row.{Row}
use Rattle.row_model.specs.Table.{Table, row_at}
use Rattle.object_codec.specs.declared.column.Column.{Column}
use Rattle.column_rows.specs.Columns.{IsColumnOf}
use Rattle.column_rows.specs.Items.{AreListsOf}
use Rattle.json_rows.specs.LineForm.{IsLineForm}
use Rattle.json_rows.specs.declared.standing.Standing.{Standing}
use Rattle.json_rows.specs.declared.standing.TypeLines.{TypeLines}

-- The rows of the shape are records.
abbrev pub HasRecords : Shape → Type 0
HasRecords (Shape.Object key fields) = Unit {0}
HasRecords _ = ⊥

-- These are the columns of the fields of the records of a type, in order, so many.
pub record AreColumnsOf (table : Table) (type_index count : ℕ) (columns : List Column) : Type 0 where
  pub each : (field : ℕ) (column : Column) → slice_get columns field ≡ Some column → IsColumnOf table type_index field column
  pub long : length columns ≡ count
  pub few : count < 2 ^ 32

-- So the rows of a type of this shape stand.
abbrev pub IsStandingIn : Table → ℕ → Shape → Standing → Type 0
IsStandingIn table type_index shape (Standing.Columns columns) = HasRecords shape × AreColumnsOf table type_index (length (shape_fields shape)) columns.items
IsStandingIn table type_index shape (Standing.Lists lists) = AreListsOf table type_index lists
IsStandingIn table type_index shape Standing.Lent = Unit {0}

-- The lines are those of the rows of a type.
pub record AreLinesIn (schemas : List Schema) (table : Table) (type_index : ℕ) (lines : TypeLines) : Type 0 where
  pub schema : slice_get schemas type_index ≡ Some lines.form.schema.now
  pub formed : IsLineForm lines.form
  pub standing : IsStandingIn table type_index lines.form.schema.now.shape lines.standing

-- This is so of the row under an ordinal, if there is one.
abbrev pub IsSoOfRow : Table → ℕ → ℕ → (Row → Type 0) → Type 0
IsSoOfRow table type_index ordinal Is = (row : Row) → row_at table type_index ordinal ≡ Some row → Is row

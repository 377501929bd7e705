-- Which values of the rows that stay fit another width of their field.
use Rattle.std.specs.Prelude.{◌≡◌, ℕ, List, None, Some, slice_get}
use Rattle.std.specs.FinMap.{find, get}
use Rattle.std.specs.Ordering.{nat_cmp}
use Rattle.hol_varint.specs.Zigzag.{zigzag}
use Rattle.schema_model.specs.declared.schema.FieldKind.{FieldKind}
use Rattle.row_model.specs.declared.row.Value.{Value}
use Rattle.row_model.specs.declared.row.Row.{Row}
use Rattle.row_model.specs.Table.{RowMap}
use Rattle.object_codec.specs.Stored.{values_of_row}
use Rattle.type_rows.specs.Holds.{FitsWidth, IsBelowOnes}
use Rattle.type_rows.specs.Differing.{Difference}

-- A number fits a width beside null, which is all ones; null and what is no number do at any width.
abbrev pub FitsBesideNull : ℕ → Value → Type 0
FitsBesideNull width (Value.Int number) = IsBelowOnes width (zigzag number)
FitsBesideNull width (Value.Long number) = IsBelowOnes width (zigzag number)
FitsBesideNull width (Value.Ref ordinal) = IsBelowOnes width ordinal
FitsBesideNull width _ = Unit {0}

-- The value of a field of the row under an ordinal does, if a row stands there.
abbrev pub FitsUnder : RowMap → ℕ → ℕ → ℕ → Type 0
FitsUnder rows field width ordinal = (row : Row) (value : Value) → get rows ordinal ≡ Some row → slice_get (values_of_row row) field ≡ Some value → FitsBesideNull width value

-- Of the rows under whose ordinals no difference is, each value of a field of this kind that fits its width fits another one, where no bytes stand
-- before it.
abbrev pub FieldStays : RowMap → List Difference → ℕ → FieldKind → ℕ → ℕ → Type 0
FieldStays rows differences field kind before width =
    (ordinal : ℕ) (row : Row) (value : Value) (end : ℕ) → get rows ordinal ≡ Some row → find nat_cmp ordinal differences ≡ None → slice_get (values_of_row row) field ≡ Some value
    → FitsWidth kind before end value → FitsWidth kind width 0 value

use Rattle.std.proofs.Common.{◌≡◌, ℕ, Some, length, slice_get}
use Rattle.object_codec.specs.declared.column.Column.{Column}
use Rattle.column_rows.specs.Columns.{IsColumnOf}
use Rattle.json_rows.proofs.standing.columns_of.Given as goal

abbrev pub invariant-loop-field : goal.invariant-loop-field
invariant-loop-field g l =
    ((k : ℕ) (column : Column) → slice_get l.columns.items k ≡ Some column → IsColumnOf (g.R.Rows.table l.rows) l.type_index k column) × (length l.columns.items ≡ l.field)

use Rattle.std.proofs.Common.{ℕ, ◌≡◌, ◌<◌, Some, slice_get}
use Rattle.schema_model.specs.declared.schema.Field.{Field as FieldOf}
use Rattle.column_rows.specs.Closed.{FieldNamesLive}
use Rattle.column_rows.specs.Looked.{IsLooked}
use Rattle.column_rows.proofs.fields.fields_closed.Given as goal

abbrev pub invariant-loop-index : goal.invariant-loop-index
invariant-loop-index g l =
    (index : ℕ) (field : FieldOf) → index < l.index → slice_get l.fields index ≡ Some field → (ordinal : ℕ) → IsLooked l.looked ordinal
    → FieldNamesLive (g.R.Rows.schemas l.rows) (g.R.Rows.table l.rows) l.type_index field.kind index ordinal

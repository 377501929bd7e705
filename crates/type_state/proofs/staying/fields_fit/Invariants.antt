use Rattle.type_state.specs.Differences.{removal}
use Rattle.std.proofs.Common.{map, ℕ, ◌≡◌, ◌<◌, Some}
use Rattle.std.specs.Prelude.{slice_get, slice_index}
use Rattle.schema_model.specs.declared.schema.Field.{Field}
use Rattle.type_state.specs.Staying.{FieldStays}
use Rattle.type_state.proofs.staying.fields_fit.Given as goal

abbrev pub invariant-loop-field : goal.invariant-loop-field
invariant-loop-field l = (index : ℕ) (field : Field) → index < l.field → slice_get l.fields index ≡ Some field → FieldStays l.rows.rows (map removal l.removed) index field.kind (slice_index l.rows.widths index) (slice_index l.widths index)

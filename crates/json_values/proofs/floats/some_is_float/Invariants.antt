-- None of the fields that were passed is a FLOAT or a DOUBLE.
use Rattle.std.proofs.Common.{ℕ, ◌<◌, get_or}
use Rattle.serde_json.specs.View.{view}
use Rattle.serde_json.specs.declared.value.Value.{Value}
use Rattle.json_values.specs.SchemasFrom.{IsFloatField}
use Rattle.json_values.proofs.floats.some_is_float.Given as goal

abbrev pub invariant-loop-field : goal.invariant-loop-field
invariant-loop-field l = (k : ℕ) (d : Value) → k < l.field-index → IsFloatField (view (get_or l.fields k d)) → ⊥

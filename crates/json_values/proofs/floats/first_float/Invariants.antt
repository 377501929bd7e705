-- None of the types that were passed has a FLOAT or a DOUBLE.
use Rattle.std.proofs.Common.{ℕ, ◌<◌, get_or}
use Rattle.serde_json.specs.View.{view}
use Rattle.serde_json.specs.declared.value.Value.{Value}
use Rattle.json_values.specs.SchemasFrom.{HasFloat}
use Rattle.json_values.proofs.floats.first_float.Given as goal

abbrev pub invariant-loop-type_index : goal.invariant-loop-type_index
invariant-loop-type_index l = (k : ℕ) (d : Value) → k < l.type_index → HasFloat (view (get_or l.schemas k d)) → ⊥

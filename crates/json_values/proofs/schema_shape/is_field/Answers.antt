use Rattle.json_values.proofs.SchemaShapes.{field_found}
use Rattle.serde_json.specs.View.{view}
use Rattle.json_values.proofs.schema_shape.is_field.Goals as goal

pub returns-in-Some-Some : goal.returns-in-Some-Some
returns-in-Some-Some c = field_found (view c.args.value.now) _ _ _ c.in-Some-Some.ensures c.in-Some-Some.ensures' c.has_target.ensures

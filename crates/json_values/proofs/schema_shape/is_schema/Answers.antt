use Rattle.json_values.proofs.SchemaShapes.{schema_found}
use Rattle.serde_json.specs.View.{view}
use Rattle.json_values.proofs.schema_shape.is_schema.Goals as goal

pub returns-in-Some-Some : goal.returns-in-Some-Some
returns-in-Some-Some c = schema_found (view c.args.value.now) _ _ _ c.in-Some-Some.ensures c.in-Some-Some.ensures' c.has_parts.ensures

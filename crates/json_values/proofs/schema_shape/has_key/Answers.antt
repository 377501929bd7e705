use Rattle.json_values.proofs.SchemaShapes.{key_found}
use Rattle.std.proofs.Common.{sym}
use Rattle.serde_json.specs.View.{view}
use Rattle.json_values.proofs.schema_shape.has_key.Goals as goal

pub returns-in-Some : goal.returns-in-Some
returns-in-Some c = key_found (view c.args.value.now) _ _ (sym c.in-Some.ensures) c.are_paths.ensures

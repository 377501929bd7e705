use Rattle.json_values.proofs.SchemaShapes.{object_found, element_found, map_found}
use Rattle.std.proofs.Common.{rules}
use Rattle.serde_json.specs.View.{view}
use Rattle.json_values.proofs.schema_shape.has_parts.Goals as goal

pub returns-then-eq : goal.returns-then-eq
returns-then-eq c = object_found (view c.args.value.now) c.args.kind.now _ (search rules) c.has_fields.ensures

pub returns-then-eq-3 : goal.returns-then-eq-3
returns-then-eq-3 c = element_found (view c.args.value.now) c.args.kind.now _ (search rules) c.has_element.ensures

pub returns-then-eq-4 : goal.returns-then-eq-4
returns-then-eq-4 c = map_found (view c.args.value.now) c.args.kind.now _ (search rules) c.has_key_and_value.ensures

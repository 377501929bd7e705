use Rattle.json_values.proofs.SchemaShapes.{reference_found, plain_found}
use Rattle.std.proofs.Common.{rules}
use Rattle.serde_json.specs.View.{view}
use Rattle.json_values.proofs.schema_shape.has_target.Goals as goal

pub returns-then-eq : goal.returns-then-eq
returns-then-eq c = reference_found (view c.args.value.now) c.args.kind.now _ (search rules) c.refers.ensures

pub returns-else-eq : goal.returns-else-eq
returns-else-eq c = plain_found (view c.args.value.now) c.args.kind.now _ (search rules) c.is_plain.ensures

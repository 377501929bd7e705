use Rattle.serde_json.specs.View.{view}
use Rattle.json_values.proofs.OneSchemaList.{rule_exactly}
use Rattle.json_values.proofs.schemas.schemas_from.Goals as goal

pub returns-clause-rule : goal.returns-clause-rule
returns-clause-rule c = rule_exactly (view c.args.value.now) c.read_schemas.result c.read_schemas.ensures

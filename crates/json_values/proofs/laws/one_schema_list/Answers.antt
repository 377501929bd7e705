use Rattle.json_values.proofs.OneSchemaList.{one_list}
use Rattle.json_values.proofs.laws.one_schema_list.Goals as goal

pub returns : goal.returns
returns c = one_list

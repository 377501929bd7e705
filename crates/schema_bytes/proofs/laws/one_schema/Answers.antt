use Rattle.schema_bytes.proofs.Spellings.{schema_apart}
use Rattle.schema_bytes.proofs.laws.one_schema.Goals as goal

pub returns : goal.returns
returns c = schema_apart

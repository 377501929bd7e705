use Rattle.schema_growth.proofs.Growths.{fields_apart}
use Rattle.schema_growth.proofs.laws.fields_apart.Goals as goal

pub returns : goal.returns
returns c = fields_apart

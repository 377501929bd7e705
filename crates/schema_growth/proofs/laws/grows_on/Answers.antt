use Rattle.schema_growth.proofs.Growths.{grows_further, grows_itself}
use Rattle.schema_growth.proofs.laws.grows_on.Goals as goal

pub returns-clause-itself : goal.returns-clause-itself
returns-clause-itself c = grows_itself

pub returns-clause-further : goal.returns-clause-further
returns-clause-further c = grows_further

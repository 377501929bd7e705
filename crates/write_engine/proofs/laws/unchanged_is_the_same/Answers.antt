use Rattle.write_engine.proofs.SameTables.{unchanged}
use Rattle.write_engine.proofs.laws.unchanged_is_the_same.Goals as goal

pub returns : goal.returns
returns c = unchanged

use Rattle.hol_history.proofs.Pushes.{table_versions}
use Rattle.hol_history.proofs.laws.kept_versions.Goals as goal

pub returns : goal.returns
returns c = table_versions

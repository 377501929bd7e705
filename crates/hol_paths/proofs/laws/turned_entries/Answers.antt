use Rattle.hol_paths.proofs.Turning.{turned_are}
use Rattle.hol_paths.proofs.laws.turned_entries.Goals as goal

pub returns : goal.returns
returns c = λ schemas table t parts entries came turned removed added follows comes turns. turned_are schemas table t parts entries came turned removed added follows comes turns

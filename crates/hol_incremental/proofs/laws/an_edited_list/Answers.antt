use Rattle.hol_incremental.proofs.DecidedRoots.{an_edited_list}
use Rattle.hol_incremental.proofs.laws.an_edited_list.Goals as goal

pub returns : goal.returns
returns c = an_edited_list

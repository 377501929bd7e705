use Rattle.hol_incremental.proofs.EditedOnce.{edited_once}
use Rattle.hol_incremental.proofs.laws.one_edited_list.Goals as goal

pub returns : goal.returns
returns c = edited_once

use Rattle.hol_incremental.proofs.NextOfEdited.{next_of_edited}
use Rattle.hol_incremental.proofs.laws.edited_is_next.Goals as goal

pub returns : goal.returns
returns c = next_of_edited

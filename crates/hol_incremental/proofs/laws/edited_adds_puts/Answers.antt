use Rattle.hol_incremental.proofs.NextOfEdited.{edited_adds_puts}
use Rattle.hol_incremental.proofs.laws.edited_adds_puts.Goals as goal

pub returns : goal.returns
returns c = edited_adds_puts

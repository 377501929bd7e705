use Rattle.seen_rows.proofs.Views.{get_seen}
use Rattle.seen_rows.proofs.laws.seen_rows.Goals as goal

pub returns : goal.returns
returns c = get_seen

use Rattle.view_laws.proofs.SeenDeltas.{leads_seen}
use Rattle.view_laws.proofs.laws.seen_delta.Goals as goal

pub returns : goal.returns
returns c = leads_seen

use Rattle.view_laws.proofs.SeenDeltas.{closed_seen, parts_agree}
use Rattle.view_laws.proofs.laws.seen_agrees.Goals as goal

pub returns : goal.returns
returns c = record { parts = parts_agree; closed = closed_seen }

use Rattle.view_laws.proofs.SeenMaps.{type_spelled}
use Rattle.view_laws.proofs.laws.seen_place.Goals as goal

pub returns : goal.returns
returns c = type_spelled

use Rattle.delta_blob.proofs.NamedParts.{stands_of_model}
use Rattle.delta_blob.proofs.laws.parts_of_model.Goals as goal

pub returns : goal.returns
returns c = stands_of_model

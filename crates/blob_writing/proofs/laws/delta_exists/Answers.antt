use Rattle.blob_writing.proofs.WholeBlobs.{delta_is_there}
use Rattle.blob_writing.proofs.laws.delta_exists.Goals as goal

pub returns : goal.returns
returns c = λ schemas old new origin destination model before after can. delta_is_there schemas model old new before after can origin destination

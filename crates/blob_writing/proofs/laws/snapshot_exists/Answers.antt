use Rattle.blob_writing.proofs.WholeBlobs.{snapshot_is_there}
use Rattle.blob_writing.proofs.laws.snapshot_exists.Goals as goal

pub returns : goal.returns
returns c = λ schemas old new origin destination model before after can. snapshot_is_there schemas model old new before after can origin destination

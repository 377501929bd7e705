use Rattle.chain_laws.proofs.BlobTags.{kept_of_bytes}
use Rattle.chain_laws.proofs.laws.chain_is_kept.Goals as goal

pub returns : goal.returns
returns c = kept_of_bytes

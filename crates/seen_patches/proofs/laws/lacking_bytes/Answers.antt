use Rattle.seen_patches.proofs.Lacking as lacking
use Rattle.seen_patches.proofs.laws.lacking_bytes.Goals as goal

pub returns : goal.returns
returns c = lacking.lacking_bytes

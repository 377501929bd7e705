use Rattle.seen_patches.proofs.Readable as readable
use Rattle.seen_patches.proofs.laws.seen_readable.Goals as goal

pub returns : goal.returns
returns c = readable.seen_readable

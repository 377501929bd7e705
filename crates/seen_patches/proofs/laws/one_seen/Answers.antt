use Rattle.seen_patches.proofs.OneSeen as once
use Rattle.seen_patches.proofs.laws.one_seen.Goals as goal

pub returns : goal.returns
returns c = once.one_seen

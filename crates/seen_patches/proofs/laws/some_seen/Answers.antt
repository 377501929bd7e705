use Rattle.seen_patches.proofs.SomeSeen.{each_seen}
use Rattle.seen_patches.proofs.laws.some_seen.Goals as goal

pub returns : goal.returns
returns c = each_seen

use Rattle.snapshot_blob.proofs.Whole.{one_snapshot}
use Rattle.snapshot_blob.proofs.laws.one_snapshot.Goals as goal

pub returns : goal.returns
returns c = one_snapshot

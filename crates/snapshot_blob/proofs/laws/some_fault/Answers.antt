use Rattle.snapshot_blob.proofs.Passed.{some_fault}
use Rattle.snapshot_blob.proofs.laws.some_fault.Goals as goal

pub returns : goal.returns
returns c = some_fault

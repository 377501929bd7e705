use Rattle.snapshot_blob.proofs.Blamed.{accepted_or_fault, one_fault, snapshot_passes}
use Rattle.snapshot_blob.proofs.laws.one_fault.Goals as goal

pub returns : goal.returns
returns c = record { once = one_fault; apart = accepted_or_fault; passes = snapshot_passes }

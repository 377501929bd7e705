use Rattle.snapshot_blob.specs.Parts.{body, snapshot}
use Rattle.snapshot_blob.proofs.laws.each_place.Goals as goal

pub returns : goal.returns
returns c = record { body = body.decided.some; snapshot = snapshot.decided.some }

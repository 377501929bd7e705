use Rattle.snapshot_blob.specs.Parts.{body, snapshot}
use Rattle.snapshot_blob.proofs.laws.one_body.Goals as goal

pub returns : goal.returns
returns c = record { body = body.decided; snapshot = snapshot.decided }

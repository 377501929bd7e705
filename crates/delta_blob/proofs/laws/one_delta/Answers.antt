use Rattle.delta_blob.specs.Parts.{body, delta}
use Rattle.delta_blob.proofs.laws.one_delta.Goals as goal

pub returns : goal.returns
returns c = record { body = body.decided; delta = delta.decided }

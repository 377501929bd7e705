use Rattle.delta_blob.specs.Parts.{body, delta}
use Rattle.delta_blob.proofs.laws.each_place.Goals as goal

pub returns : goal.returns
returns c = record { body = body.decided.some; delta = delta.decided.some }

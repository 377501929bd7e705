use Rattle.delta_blob.proofs.WholeDeltas.{begins, joined}
use Rattle.delta_blob.proofs.laws.header_and_body.Goals as goal

pub returns : goal.returns
returns c = record { items = joined; begins = begins }

use Rattle.byte_laws.proofs.Blobs.{puts_are}
use Rattle.byte_laws.proofs.laws.bytes_put.Goals as goal

pub returns : goal.returns
returns c = puts_are

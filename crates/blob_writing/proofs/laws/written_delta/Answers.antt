use Rattle.blob_writing.proofs.SpelledDeltas.{delta_stands}
use Rattle.blob_writing.proofs.laws.written_delta.Goals as goal

pub returns : goal.returns
returns c = λ blob origin destination changes is. delta_stands blob origin destination changes is

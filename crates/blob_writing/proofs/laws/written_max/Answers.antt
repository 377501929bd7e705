use Rattle.blob_writing.proofs.SpelledItems.{spells_max}
use Rattle.blob_writing.proofs.laws.written_max.Goals as goal

pub returns : goal.returns
returns c = λ max before behind small. (spells_max max small).stands before behind

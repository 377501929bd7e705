use Rattle.blob_writing.proofs.SpelledTypes.{spells_packed}
use Rattle.blob_writing.proofs.laws.written_packed.Goals as goal

pub returns : goal.returns
returns c = λ shape max rows before behind carried. (spells_packed shape max rows carried).stands before behind

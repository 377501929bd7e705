use Rattle.blob_writing.proofs.SpelledItems.{spells_population}
use Rattle.blob_writing.proofs.laws.written_population.Goals as goal

pub returns : goal.returns
returns c = λ set max bytes before behind small is. (spells_population set max bytes small is).stands before behind

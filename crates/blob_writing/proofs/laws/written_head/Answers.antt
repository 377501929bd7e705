use Rattle.blob_writing.proofs.SpelledTypes.{spells_head}
use Rattle.blob_writing.proofs.laws.written_head.Goals as goal

pub returns : goal.returns
returns c = λ schema before behind spellable texts. (spells_head schema spellable texts).stands before behind

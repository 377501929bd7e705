use Rattle.blob_frame.proofs.SpelledSchemas.{spells_schema}
use Rattle.blob_frame.proofs.laws.written_schema.Goals as goal

pub returns : goal.returns
returns c = λ written before behind spellable texts. (spells_schema written (record { spellable = spellable; texts = texts })).stands before behind

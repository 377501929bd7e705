use Rattle.blob_frame.proofs.SpelledSchemas.{spells_header}
use Rattle.blob_frame.proofs.laws.written_header.Goals as goal

pub returns : goal.returns
returns c = λ origin destination listed before behind from to few spellable texts short.
    (spells_header origin destination listed from to few (λ k d within. record { spellable = spellable k d within; texts = texts k d within }) short).stands before behind

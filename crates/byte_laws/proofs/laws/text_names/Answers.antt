use Rattle.byte_laws.proofs.ReadTexts.{loaded_texts}
use Rattle.byte_laws.proofs.ValueTexts.{named_texts}
use Rattle.byte_laws.proofs.laws.text_names.Goals as goal

pub returns : goal.returns
returns c = record { json = named_texts; blob = loaded_texts }

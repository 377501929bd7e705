use Rattle.answer_laws.proofs.Printing.{record_prints}
use Rattle.answer_laws.proofs.ShownRows.{storable_json}
use Rattle.answer_laws.proofs.laws.some_print.Goals as goal

pub returns : goal.returns
returns c = record { prints = record_prints; json = storable_json }

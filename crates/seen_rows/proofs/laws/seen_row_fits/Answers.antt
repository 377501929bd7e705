use Rattle.std.specs.Prelude.{Contains}
use Rattle.std.proofs.lemmas.List.Elements.{Contains-get_or}
use Rattle.row_model.specs.Row.{references_of_row}
use Rattle.seen_rows.proofs.ViewClosed.{row_names}
use Rattle.seen_rows.proofs.ViewFits.{row_fits, row_in_range}
use Rattle.seen_rows.proofs.laws.seen_row_fits.Goals as goal

pub returns-clause-fits : goal.returns-clause-fits
returns-clause-fits c = row_fits

pub returns-clause-ranges : goal.returns-clause-ranges
returns-clause-ranges c = row_in_range

pub returns-clause-names : goal.returns-clause-names
returns-clause-names c = λ own mine row agree fits. row_names (λ named. Contains (references_of_row own row) named) own mine row agree fits (λ k d below. Contains-get_or (references_of_row own row) k d below)

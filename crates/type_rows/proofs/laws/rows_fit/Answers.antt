use Rattle.type_rows.proofs.SectionRows as rows
use Rattle.type_rows.proofs.laws.rows_fit.Goals as goal

pub returns : goal.returns
returns c = record { fits = rows.rows_fit; ranges = rows.rows_range }

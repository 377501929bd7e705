use Rattle.type_rows.proofs.MovedRows as moved
use Rattle.type_rows.proofs.laws.moved_rows_fit.Goals as goal

pub returns : goal.returns
returns c = record { fits = moved.moved_fit; ranges = moved.moved_range }

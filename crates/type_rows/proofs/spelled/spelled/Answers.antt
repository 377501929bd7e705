use Rattle.type_rows.proofs.Rows as rows
use Rattle.type_rows.proofs.spelled.spelled.Goals as goal

pub returns : goal.returns
returns c = rows.spelled

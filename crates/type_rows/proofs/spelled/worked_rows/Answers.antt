use Rattle.type_rows.proofs.WorkedRows as worked
use Rattle.type_rows.proofs.spelled.worked_rows.Goals as goal

pub returns : goal.returns
returns c = record { number = worked.number; null = worked.null; set = worked.set; round = worked.round; units = worked.units }

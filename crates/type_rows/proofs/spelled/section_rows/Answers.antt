use Rattle.type_rows.proofs.LiveRows as rows
use Rattle.type_rows.proofs.spelled.section_rows.Goals as goal

pub returns : goal.returns
returns c = record { only = rows.rows_are; is = rows.section_is }

use Rattle.json_rows.proofs.Once.{row_prints_once}
use Rattle.json_rows.proofs.laws.one_row_value.Goals as goal

pub returns : goal.returns
returns c = row_prints_once

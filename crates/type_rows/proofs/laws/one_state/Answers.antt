use Rattle.type_rows.proofs.SectionRows as rows
use Rattle.type_rows.proofs.laws.one_state.Goals as goal

pub returns : goal.returns
returns c = rows.one_state

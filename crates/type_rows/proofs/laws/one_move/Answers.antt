use Rattle.type_rows.proofs.MovedRows as moved
use Rattle.type_rows.proofs.laws.one_move.Goals as goal

pub returns : goal.returns
returns c = moved.one_move

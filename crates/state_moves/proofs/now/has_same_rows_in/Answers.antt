use Rattle.state_moves.proofs.Tables.{same_rows_at, same_shape}
use Rattle.state_moves.proofs.now.has_same_rows_in.Goals as goal

pub has_same_rows-requires : goal.has_same_rows-requires
has_same_rows-requires c =
    same_shape c.args.states.now c.args.others.now c.args.type_index c.in-Some.state.now c.in-Some-state_at.other.now c.requires c.in-Some.ensures c.in-Some-state_at.ensures

pub returns : goal.returns
returns c = λ same.
    same_rows_at c.args.states.now c.args.others.now c.args.type_index c.in-Some.state.now c.in-Some-state_at.other.now c.in-Some.ensures c.in-Some-state_at.ensures (c.has_same_rows.ensures same)

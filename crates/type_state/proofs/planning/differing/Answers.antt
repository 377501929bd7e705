use Rattle.type_state.proofs.Moves.{are_apart, are_moved, removed_below}
use Rattle.type_state.proofs.planning.differing.Goals as goal

pub bound_with-next_bound-requires-clause-apart : goal.bound_with-next_bound-requires-clause-apart
bound_with-next_bound-requires-clause-apart c = are_apart c.args.schema.now.shape c.args.patch.now c.args.rows.now.rows c.in_ok-differences.differences c.in_ok-differences.ensures

pub bound_with-next_bound-requires-clause-removed : goal.bound_with-next_bound-requires-clause-removed
bound_with-next_bound-requires-clause-removed c = removed_below c.args.schema.now.shape c.args.patch.now c.args.rows.now.rows c.in_ok-differences.differences c.in_ok-differences.ensures

pub returns-clause-tells : goal.returns-clause-tells
returns-clause-tells c = are_moved c.args.schema.now.shape c.args.patch.now c.args.rows.now.rows c.in_ok-differences.differences c.in_ok-differences.ensures

pub returns-clause-apart : goal.returns-clause-apart
returns-clause-apart c = are_apart c.args.schema.now.shape c.args.patch.now c.args.rows.now.rows c.in_ok-differences.differences c.in_ok-differences.ensures

use Rattle.std.proofs.Common.{ℕ, ◌<◌}
use Rattle.std.specs.Prelude.{IsSome}
use Rattle.std.specs.FinMap.{get}
use Rattle.type_state.specs.Differences.{rows_with}
use Rattle.type_state.proofs.planning.bound_with.Given as goal

abbrev pub invariant-loop-above : goal.invariant-loop-above
invariant-loop-above l = (o : ℕ) → IsSome (get (rows_with l.rows.rows l.differences) o) → o < l.above

abbrev pub decreases-loop-above : goal.decreases-loop-above
decreases-loop-above l = l.above

use Rattle.std.proofs.Common.{ℕ, ◌<◌}
use Rattle.row_model.specs.Table.{IsLive}
use Rattle.hol_history.proofs.old_state.ThenRows.bound.Given as goal

-- No ordinal from the bound on is live.
abbrev pub invariant-loop-bound : goal.invariant-loop-bound
invariant-loop-bound g l = (ordinal : ℕ) → IsLive l.self.table l.type_index ordinal → ordinal < l.bound

abbrev pub decreases-loop-bound : goal.decreases-loop-bound
decreases-loop-bound g l = l.bound

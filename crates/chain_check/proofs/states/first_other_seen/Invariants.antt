use Rattle.std.proofs.Common.{◌≡◌, ◌<◌, ℕ}
use Rattle.row_model.specs.Table.{row_at}
use Rattle.chain_check.proofs.states.first_other_seen.Given as goal

-- the rows of the first types are the same
abbrev pub invariant-loop-type_index : goal.invariant-loop-type_index
invariant-loop-type_index g l = (t o : ℕ) → t < l.type_index → row_at (g.A.Rows.table l.walked) t o ≡ row_at (g.B.Rows.table l.seen) t o

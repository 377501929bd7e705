use Rattle.std.proofs.Common.{◌<◌, ℕ}
use Rattle.column_rows.specs.Same.{HaveSamePairs, IsSoOfBoth}
use Rattle.column_rows.proofs.same_items.are_runs_same.Given as goal

-- under the first ordinals the sets or maps are the same
abbrev pub invariant-loop-ordinal : goal.invariant-loop-ordinal
invariant-loop-ordinal g l = (o : ℕ) → o < l.ordinal → IsSoOfBoth HaveSamePairs (g.A.Rows.table l.rows) (g.B.Rows.table l.others) l.type_index o

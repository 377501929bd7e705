use Rattle.std.proofs.Common.{◌≡◌, ◌<◌, ◌≤◌, ℕ, None}
use Rattle.row_model.specs.Table.{row_at}
use Rattle.row_widths.proofs.row_walk.next_live.Given as goal

abbrev pub invariant-loop-ordinal : goal.invariant-loop-ordinal
invariant-loop-ordinal g l = (ordinal : ℕ) → l.from ≤ ordinal → ordinal < l.ordinal → row_at (g.R.Rows.table l.rows) l.type_index ordinal ≡ None

use Rattle.std.proofs.Common.{ℕ, ◌<◌}
use Rattle.std.specs.Prelude.{◌↔◌}
use Rattle.row_model.specs.Table.{IsLive}
use Rattle.column_rows.proofs.same.have_same_live.Given as goal

-- the first ordinals are live in both or in none
abbrev pub invariant-loop-ordinal : goal.invariant-loop-ordinal
invariant-loop-ordinal g l = (o : ℕ) → o < l.ordinal → IsLive (g.A.Rows.table l.rows) l.type_index o ↔ IsLive (g.B.Rows.table l.others) l.type_index o

use Rattle.std.proofs.Common.{◌≡◌, ◌<◌, ℕ}
use Rattle.row_model.specs.Table.{row_at}
use Rattle.chain_check.proofs.states.first_other_ordinal.Given as goal

-- the first rows are the same
abbrev pub invariant-loop-ordinal : goal.invariant-loop-ordinal
invariant-loop-ordinal g l = (o : ℕ) → o < l.ordinal → row_at (g.A.Rows.table l.walked) l.type_index o ≡ row_at (g.B.Rows.table l.fresh) l.type_index o

use Rattle.std.proofs.Common.{◌<◌, ℕ}
use Rattle.column_rows.specs.Same.{HaveSameValue, IsSoOfBoth}
use Rattle.column_rows.proofs.same_values.is_field_same.Given as goal

-- under the first ordinals the field has the same value
abbrev pub invariant-loop-ordinal : goal.invariant-loop-ordinal
invariant-loop-ordinal g l = (o : ℕ) → o < l.ordinal → IsSoOfBoth (HaveSameValue l.field) (g.A.Rows.table l.rows) (g.B.Rows.table l.others) l.type_index o

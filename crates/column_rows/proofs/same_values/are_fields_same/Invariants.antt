use Rattle.std.proofs.Common.{◌<◌, ℕ}
use Rattle.column_rows.specs.Same.{HaveSameValue, IsSoOfBoth}
use Rattle.column_rows.proofs.same_values.are_fields_same.Given as goal

-- the first fields have the same values
abbrev pub invariant-loop-field : goal.invariant-loop-field
invariant-loop-field g l = (o k : ℕ) → k < l.field → IsSoOfBoth (HaveSameValue k) (g.A.Rows.table l.rows) (g.B.Rows.table l.others) l.type_index o

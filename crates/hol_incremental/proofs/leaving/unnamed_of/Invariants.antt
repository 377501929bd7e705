use Rattle.std.proofs.Common.{◌≡◌, take}
use Rattle.std.specs.Prelude.{filter, nat_eq}
use Rattle.hol_incremental.specs.EditKeys.{count_at}
use Rattle.hol_incremental.proofs.leaving.unnamed_of.Given as goal

abbrev pub invariant-loop-row : goal.invariant-loop-row
invariant-loop-row l = l.unnamed.items ≡ filter (λ row. nat_eq (count_at l.counts row.0 row.1) 0) (take l.row-index l.rows)

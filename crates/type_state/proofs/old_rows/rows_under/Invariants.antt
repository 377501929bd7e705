use Rattle.std.proofs.Common.{◌≡◌, Some, take}
use Rattle.std.specs.List.{AllZip}
use Rattle.std.specs.FinMap.{get}
use Rattle.type_state.proofs.old_rows.rows_under.Given as goal

abbrev pub invariant-loop-ordinal : goal.invariant-loop-ordinal
invariant-loop-ordinal l = AllZip (λ ordinal row. get l.rows.rows ordinal ≡ Some row) (take l.ordinal-index l.ordinals) l.made

use Rattle.std.proofs.Common.{◌≡◌, take}
use Rattle.std.specs.Prelude.{Contains}
use Rattle.hol_incremental.specs.Leaves.{LeaveMore}
use Rattle.hol_incremental.proofs.leaving.add_all.Given as goal

abbrev pub invariant-loop-ordinal : goal.invariant-loop-ordinal
invariant-loop-ordinal l = LeaveMore (λ row. (row.0 ≡ l.type_index) × Contains (take l.ordinal-index l.ordinals) row.1) l.tops l.initial.leaving l.leaving

use Rattle.std.proofs.Common.{take}
use Rattle.std.specs.Prelude.{Contains}
use Rattle.row_model.specs.PlainTree.{PlainTree}
use Rattle.hol_incremental.specs.Changes.{records}
use Rattle.hol_incremental.specs.Leaves.{IsOfRecord, LeaveMore}
use Rattle.hol_incremental.proofs.leaving.add_replaced.Given as goal

abbrev pub invariant-loop-entry : goal.invariant-loop-entry
invariant-loop-entry l =
    LeaveMore (λ row. (tree : PlainTree) × Contains (records (take l.entry-index l.puts)) (row.0, tree) × IsOfRecord l.keys row.0 tree row.1) l.tops l.initial.leaving l.leaving

use Rattle.std.proofs.Common.{◌≤◌, List, take}
use Rattle.std.specs.Prelude.{Contains}
use Rattle.row_model.specs.declared.row.Value.{Value}
use Rattle.hol_incremental.specs.Leaves.{CountsUnfound, IsUnder, LeaveMore}
use Rattle.hol_incremental.proofs.leaving.add_removed.Given as goal

abbrev pub invariant-loop-entry : goal.invariant-loop-entry
invariant-loop-entry l = record {
  leaving : LeaveMore (λ row. (key : List Value) × Contains (take l.entry-index l.removes) (row.0, key) × IsUnder l.keys row.0 key row.1) l.tops l.initial.leaving l.leaving;
  missing : CountsUnfound l.keys (take l.entry-index l.removes) l.missing;
  few : l.missing ≤ l.entry-index;
}

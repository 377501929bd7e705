use Rattle.std.proofs.Common.{◌≡◌, ◌+◌, ◌≤◌, map, take}
use Rattle.row_model.specs.Table.{Table}
use Rattle.hol_incremental.specs.Beside.{IsFromEither}
use Rattle.hol_incremental.specs.Counts.{keyed_size_of}
use Rattle.hol_incremental.specs.Keeping.{settled}
use Rattle.hol_incremental.proofs.LackingRows.{AreReadyBelow}
use Rattle.hol_incremental.proofs.key_indexes.reserve_all.Given as goal

abbrev pub invariant-loop-type_index : goal.invariant-loop-type_index
invariant-loop-type_index g l = record {
  kept : map settled l.keys ≡ map settled l.initial.keys;
  ready : AreReadyBelow (g.A.Rows.schemas l.before) (g.B.Rows.table l.next) l.type_index l.keys;
  counted : (both : Table) → IsFromEither (g.A.Rows.table l.before) (g.B.Rows.table l.next) both
      → l.steps + keyed_size_of (take l.type_index (g.A.Rows.schemas l.before)) (g.A.Rows.table l.before) ≤ l.initial.steps + keyed_size_of (take l.type_index (g.A.Rows.schemas l.before)) both;
}

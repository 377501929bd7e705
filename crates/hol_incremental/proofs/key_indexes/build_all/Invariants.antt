use Rattle.std.proofs.Common.{◌≡◌, ◌+◌, take}
use Rattle.hol_incremental.specs.Counts.{keyed_size_of}
use Rattle.hol_incremental.proofs.LackingRows.{AreBuilt}
use Rattle.hol_incremental.proofs.key_indexes.build_all.Given as goal

abbrev pub invariant-loop-type_index : goal.invariant-loop-type_index
invariant-loop-type_index g l = record {
  built : AreBuilt (g.R.Rows.schemas l.rows) (g.R.Rows.table l.rows) l.type_index l.keys.items;
  counted : l.steps ≡ l.initial.steps + keyed_size_of (take l.type_index (g.R.Rows.schemas l.rows)) (g.R.Rows.table l.rows);
}

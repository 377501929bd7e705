use Rattle.std.proofs.Common.{◌≡◌, ◌+◌, take, map}
use Rattle.row_model.specs.Key.{key_of}
use Rattle.key_index.specs.Slots.{added_row, keyed_row}
use Rattle.key_index.proofs.reserved.read_added.Given as goal

abbrev pub invariant-loop-ordinal : goal.invariant-loop-ordinal
invariant-loop-ordinal g l = record {
  rows : map added_row l.rows ≡ map (keyed_row (key_of (g.R.Rows.schemas l.next) (g.R.Rows.table l.next) l.type_index l.paths)) (take l.ordinal-index l.added);
  counted : l.steps ≡ l.initial.steps + l.ordinal-index;
}

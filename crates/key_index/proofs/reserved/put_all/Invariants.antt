use Rattle.std.proofs.Common.{◌≡◌, ◌++◌, length}
use Rattle.std.specs.Vec.Iter.{into_iter_items, into_iter_len}
use Rattle.key_index.specs.Slots.{with_added}
use Rattle.key_index.proofs.reserved.put_all.Given as goal

abbrev pub invariant-loop-row : goal.invariant-loop-row
invariant-loop-row l = record {
  rows : l.rows ≡ record l.initial.rows { keys = with_added l.initial.rows.keys l.yielded };
  left : l.yielded ++ into_iter_items l.row-iterator ≡ into_iter_items l.initial.row-iterator;
  long : into_iter_len l.row-iterator ≡ length (into_iter_items l.row-iterator);
}

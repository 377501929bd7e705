use Rattle.std.proofs.Common.{◌≡◌, ◌++◌, length, map}
use Rattle.std.specs.Vec.Iter.{into_iter_items, into_iter_len}
use Rattle.row_model.specs.declared.row.Value.{Value}
use Rattle.hol_paths.specs.Distinct.{Stay}
use Rattle.hol_paths.specs.Slots.{AreKnown, entries_of}
use Rattle.hol_paths.proofs.reserved.push_entries.Given as goal

abbrev pub invariant-loop-value : goal.invariant-loop-value
invariant-loop-value l = record {
  slots : l.entries.slots ≡ l.initial.entries.slots;
  room : l.entries.room ≡ l.initial.entries.room;
  stays : Stay l.initial.entries.values l.entries.values;
  entries : entries_of l.entries.values l.initial.entries.slots ≡ entries_of l.initial.entries.values l.initial.entries.slots;
  known : AreKnown l.entries.values l.coming.items;
  coming : entries_of l.entries.values l.coming.items ≡ entries_of l.initial.entries.values l.initial.coming.items ++ map (λ (value : Value). (l.owner, value)) l.yielded;
  left : l.yielded ++ into_iter_items l.value-iterator ≡ into_iter_items l.initial.value-iterator;
  long : into_iter_len l.value-iterator ≡ length (into_iter_items l.value-iterator);
}

use Rattle.std.proofs.Common.{◌≡◌, ◌≤◌, ◌+◌, length, take}
use Rattle.hol_paths.specs.Met.{AreMet}
use Rattle.hol_paths.specs.Slots.{AreKnown, entries_of}
use Rattle.hol_paths.specs.Walked.{AreAdded}
use Rattle.hol_paths.proofs.reserved.read_added.Given as goal

abbrev pub invariant-loop-ordinal : goal.invariant-loop-ordinal
invariant-loop-ordinal g l = record {
  slots : l.entries.slots ≡ l.initial.entries.slots;
  room : l.entries.room ≡ l.initial.entries.room;
  entries : entries_of l.entries.values l.initial.entries.slots ≡ entries_of l.initial.entries.values l.initial.entries.slots;
  known : AreKnown l.entries.values l.coming.items;
  added : AreAdded (g.R.Rows.schemas l.rows) (g.R.Rows.table l.rows) l.path.type_index l.path.parts (take l.ordinal-index l.added) (entries_of l.entries.values l.coming.items);
  met : AreMet (g.R.Rows.schemas l.rows) (g.R.Rows.table l.rows) l.path.type_index l.path.parts (entries_of l.entries.values l.coming.items) l.met.items;
  few : length l.coming.items ≤ l.most;
  counted : l.steps ≡ l.initial.steps + l.ordinal-index;
}

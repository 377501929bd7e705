use Rattle.std.proofs.Common.{◌≤◌, ◌<◌, ◌^◌, length}
use Rattle.key_index.specs.Slots.{keys_of, slots_in}
use Rattle.key_index.proofs.Following.{IsBuilt}
use Rattle.key_index.proofs.index.KeyIndex.build.Given as goal

abbrev pub invariant-loop-ordinal : goal.invariant-loop-ordinal
invariant-loop-ordinal g l = record {
  built : IsBuilt (g.R.Rows.schemas l.rows) (g.R.Rows.table l.rows) l.type_index l.fn.paths (keys_of (slots_in l.slots)) l.initial.steps l.steps l.ordinal;
  room : l.bound ≤ length (slots_in l.slots);
  few : length (slots_in l.slots) < 2 ^ 32;
}

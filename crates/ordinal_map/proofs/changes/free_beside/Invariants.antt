use Rattle.std.proofs.Common.{◌≡◌, ◌-◌, ◌<◌, ◌^◌, length}
use Rattle.ordinal_set.specs.Ordinals.{lacking}
use Rattle.ordinal_map.specs.KeptRows.{AreFreed, IsRoomy}
use Rattle.ordinal_map.proofs.Freeing.{LeavesBelow}
use Rattle.ordinal_map.proofs.changes.free_beside.Given as goal

-- those below have left
abbrev pub invariant-loop-ordinal : goal.invariant-loop-ordinal
invariant-loop-ordinal l = record {
  small : l.from < 2 ^ 32;
  freed : AreFreed (LeavesBelow (lacking l.leaving l.staying) l.from) l.initial.rows.items l.initial.chains l.rows.items l.chains;
  few : length l.rows.items ≡ length l.initial.rows.items;
  roomy : IsRoomy l.chains;
}

abbrev pub decreases-loop-ordinal : goal.decreases-loop-ordinal
decreases-loop-ordinal l = 2 ^ 32 - l.from

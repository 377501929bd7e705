use Rattle.std.proofs.Common.{◌-◌}
use Rattle.type_rows.specs.Layout.{places_of}
use Rattle.type_state.specs.KeptRecords.{kept_rows}
use Rattle.type_state.proofs.KeptRuns.{WrittenSoFar}
use Rattle.type_state.proofs.kept_runs.put_places.Given as goal

abbrev pub invariant-loop-place : goal.invariant-loop-place
invariant-loop-place l = WrittenSoFar l.schema.shape l.next.half (kept_rows l.kept) l.next.differences l.removed l.added l.first l.areas l.place

abbrev pub decreases-loop-place : goal.decreases-loop-place
decreases-loop-place l = places_of l.next.half.max - l.place

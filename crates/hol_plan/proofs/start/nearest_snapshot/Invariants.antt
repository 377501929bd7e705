use Rattle.std.proofs.Common.{take}
use Rattle.hol_plan.specs.Start.{IsNearest}
use Rattle.hol_plan.specs.Ways.{way_at}
use Rattle.hol_plan.proofs.start.nearest_snapshot.Given as goal

abbrev pub invariant-loop-name : goal.invariant-loop-name
invariant-loop-name l = IsNearest (take l.name-index l.blobs) l.versions (way_at l.ways) l.nearest

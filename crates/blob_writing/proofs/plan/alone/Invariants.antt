-- The ordinals of the types that were passed which go from any two states with these live ones.
use Rattle.std.specs.Prelude.{length}
use Rattle.row_model.specs.Table.{Table}
use Rattle.blob_writing.specs.Plan.{AreGone, AreLiveIn}
use Rattle.blob_writing.proofs.plan.alone.Given as goal

abbrev pub invariant-loop-type_index : goal.invariant-loop-type_index
invariant-loop-type_index l = (from to : Table) → AreLiveIn from (length l.here) l.here → AreLiveIn to (length l.here) l.there → AreGone from to l.type_index l.lists

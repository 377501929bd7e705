-- The live ordinals of the types that were passed.
use Rattle.blob_writing.specs.Plan.{AreLiveIn}
use Rattle.blob_writing.proofs.plan.live_sets.Given as goal

abbrev pub invariant-loop-type_index : goal.invariant-loop-type_index
invariant-loop-type_index g l = AreLiveIn (g.R.Rows.table l.rows) l.type_index l.sets

-- The changed ones of the types that were passed, of any two states between which these ordinals go and come.
use Rattle.row_model.specs.Table.{Table}
use Rattle.blob_writing.specs.Changes.{AreChanged}
use Rattle.blob_writing.specs.Plan.{AreMoved}
use Rattle.blob_writing.proofs.changed.changed_types.Given as goal

abbrev pub invariant-loop-type_index : goal.invariant-loop-type_index
invariant-loop-type_index l = (old new : Table) → AreMoved old new l.count l.removed l.added → AreChanged l.type_index old new l.types

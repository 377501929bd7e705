-- What a delta is for a consumer with another model than that of the state that it leads to.
use Rattle.std.specs.Prelude.{ℕ, ℤ, List}
use Rattle.schema_model.specs.declared.schema.Schema.{Schema}
use Rattle.row_model.specs.Table.{Table}
use Rattle.delta_blob.specs.Fits.{Fits}
use Rattle.delta_blob.specs.Moved.{Moved}
use Rattle.delta_blob.specs.Patch.{DeltaIs, TypePatch}
use Rattle.delta_blob.specs.Within.{KeepItems, Within}

-- Against the model the blob is a delta between these tags of a patch that fits the old table and moves it to the new one, within the limits.
pub record LeadsSeen (schemas : List Schema) (blob : List ℕ) (origin destination : ℤ) (old new : Table) : Type 0 where
  pub patch : List TypePatch
  pub is : DeltaIs schemas blob origin destination patch
  pub fits : Fits schemas old patch
  pub moved : Moved patch old new
  pub within : Within new patch
  pub items : KeepItems schemas is.parts

-- What a written delta is read back as: a delta of a patch that leads from one state to another, between two tags.
use Rattle.std.specs.Prelude.{◌≤◌, ℕ, ℤ, List, length}
use Rattle.schema_model.specs.declared.limit.Limit.TheVariants.{Blob}
use Rattle.schema_model.specs.declared.schema.Schema.{Schema}
use Rattle.schema_model.specs.Limit.{number_of_limit}
use Rattle.row_model.specs.Table.{Table}
use Rattle.delta_blob.specs.Fits.{Fits}
use Rattle.delta_blob.specs.Moved.{Moved}
use Rattle.delta_blob.specs.Patch.{DeltaIs, NamesOwn, TypePatch}
use Rattle.delta_blob.specs.Within.{KeepItems, Within}

-- Against the model the blob is a delta between these tags of a patch that fits the old table and moves it to the new one, each schema that it names is
-- the model's, and no type of it passes a limit; it may have any length.
pub record IsDeltaTo (schemas : List Schema) (old new : Table) (origin destination : ℤ) (blob : List ℕ) : Type 0 where
  pub patch : List TypePatch
  pub is : DeltaIs schemas blob origin destination patch
  pub own : NamesOwn schemas is.parts
  pub fits : Fits schemas old patch
  pub moved : Moved patch old new
  pub within : Within new patch
  pub items : KeepItems schemas is.parts

-- Against the model the blob is a delta between these tags of a patch that fits the old table and moves it to the new one, each schema that it names is
-- the model's, and it passes no limit.
pub record LeadsTo (schemas : List Schema) (old new : Table) (origin destination : ℤ) (blob : List ℕ) : Type 0 where
  pub patch : List TypePatch
  pub is : DeltaIs schemas blob origin destination patch
  pub own : NamesOwn schemas is.parts
  pub fits : Fits schemas old patch
  pub moved : Moved patch old new
  pub within : Within new patch
  pub items : KeepItems schemas is.parts
  pub short : length blob ≤ number_of_limit Blob

-- How a cursor comes to a blob: the blob is there, and it is not too large.
use Rattle.std.specs.Prelude.{◌≡◌, ◌≤◌, ◌<◌, ◌⊎◌, ℕ, List, [], length, Option, Some, None, Result, Ok, Err, IsErrAnd}
use Rattle.hol_io.specs.declared.name.BlobName.{BlobName}
use Rattle.schema_model.specs.declared.limit.Limit.TheVariants.{Blob}
use Rattle.schema_model.specs.Limit.{number_of_limit}
use Rattle.blob_frame.specs.declared.fault.BlobFault.{BlobFault}
use Rattle.blob_frame.specs.declared.fault.BlobFault.TheVariants as fault
use Rattle.blob_cursor.specs.Scene.{Place, IsFree}

-- A cursor at the start of the blob, which has read nothing.
pub record IsStart (name : BlobName) (place : Place) : Type 0 where
  pub blob : place.name ≡ name
  pub start : place.at ≡ 0
  pub nothing : place.ahead ≡ []

-- A cursor over the blob of this name is refused for no other fault.
abbrev pub IsStartFault : BlobName → BlobFault → Type 0
IsStartFault name (fault.NoBlob other) = other ≡ name
IsStartFault name (fault.Large limit) = limit ≡ Blob
IsStartFault name fault.Store = Unit {0}
IsStartFault name fault.Memory = Unit {0}
IsStartFault name _ = ⊥

-- A cursor is made exactly where the blob is there and not too large, but for the free answers.
pub record Starts (name : BlobName) (content : Option (List ℕ)) (answer : Result Place BlobFault) : Type 0 where
  pub found : (blob : List ℕ) → content ≡ Some blob → length blob ≤ number_of_limit Blob →
      ((place : Place) × (answer ≡ Ok place) × (place.size ≡ length blob)) ⊎ IsErrAnd answer IsFree
  pub absent : content ≡ None → (answer ≡ Err (fault.NoBlob name)) ⊎ IsErrAnd answer IsFree
  pub large : (blob : List ℕ) → content ≡ Some blob → number_of_limit Blob < length blob →
      (answer ≡ Err (fault.Large Blob)) ⊎ IsErrAnd answer IsFree

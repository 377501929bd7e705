-- What a snapshot is: the state that its bytes stand for, and when it keeps the limits.
use Rattle.std.specs.Prelude.{◌≡◌, ◌≤◌, ◌⊎◌, ℕ, List, Option, Some, None, Result, Ok, Err, length, IsErrAnd}
use Rattle.std.specs.List.{AllZip}
use Rattle.hol_io.specs.declared.name.BlobName.{BlobName}
use Rattle.schema_model.specs.declared.limit.Limit.TheVariants.{Blob}
use Rattle.schema_model.specs.declared.schema.Schema.{Schema}
use Rattle.schema_model.specs.Limit.{number_of_limit}
use Rattle.type_state.specs.State.{Half}
use Rattle.type_state.specs.Views.{next_halves}
use Rattle.blob_frame.specs.declared.fault.BlobFault.{BlobFault}
use Rattle.blob_frame.specs.declared.fault.BlobFault.TheVariants as fault
use Rattle.blob_frame.specs.declared.header.Header.{Header}
use Rattle.blob_cursor.specs.Scene.{IsFree}
use Rattle.blob_faults.specs.Judge.{Blames}
use Rattle.snapshot_blob.specs.declared.part.TypePart.{TypePart}
use Rattle.snapshot_blob.specs.declared.loaded.Loaded.{Loaded}
use Rattle.snapshot_blob.specs.Judged.{snapshot_of}
use Rattle.snapshot_blob.specs.Parts.{snapshot}
use Rattle.snapshot_blob.specs.Stated.{PartsAre, KeepsTypeLimits, IsTypeLimit}

-- The blob is the snapshot of this state: it has this header and these types, whose parts are those of the state.
pub record SnapshotIs (blob : List ℕ) (head : Header) (parts : List TypePart) (schemas : List Schema) (halves : List Half) : Type 0 where
  pub items : snapshot.Stands blob 0 (head, parts) (length blob)
  pub state : PartsAre parts schemas halves

-- The limits on a blob's bytes, and on the ordinals, items, words and bytes of each type, are kept.
pub record KeepsAll (blob : List ℕ) (parts : List TypePart) (halves : List Half) : Type 0 where
  pub short : length blob ≤ number_of_limit Blob
  pub types : AllZip KeepsTypeLimits parts halves

-- The blob is the snapshot of this state, and no limit is passed.
abbrev pub IsAccepted : List ℕ → Header → List Schema → List Half → Type 0
IsAccepted blob head schemas halves = (parts : List TypePart) × SnapshotIs blob head parts schemas halves × KeepsAll blob parts halves

-- What each answer of the reader tells of a blob: the snapshot that it is, or the fault of the first trial that fails.
abbrev pub TellsBlob : List ℕ → Result Loaded BlobFault → Type 0
TellsBlob blob (Ok loaded) = IsAccepted blob loaded.header loaded.model (next_halves loaded.states)
TellsBlob blob (Err refused) = Blames (snapshot_of blob) IsFree refused

-- What it tells of what the store holds under the name.
abbrev pub TellsSnapshot : BlobName → Option (List ℕ) → Result Loaded BlobFault → Type 0
TellsSnapshot name None answer = (answer ≡ Err (fault.NoBlob name)) ⊎ IsErrAnd answer IsFree
TellsSnapshot name (Some blob) answer = TellsBlob blob answer

-- The answer is a snapshot exactly where the blob is one within the limits, and a fault exactly where it is that of the
-- first trial of the blob that fails, but for the free answers.
pub record ReadsExactly (blob : List ℕ) (answer : Result Loaded BlobFault) : Type 0 where
  pub found : (head : Header) (schemas : List Schema) (halves : List Half) → IsAccepted blob head schemas halves
      → ((loaded : Loaded) × (answer ≡ Ok loaded) × (loaded.header ≡ head) × (loaded.model ≡ schemas) × (next_halves loaded.states ≡ halves))
      ⊎ IsErrAnd answer IsFree
  pub fails : (first : BlobFault) → (snapshot_of blob).Fails first → (answer ≡ Err first) ⊎ IsErrAnd answer IsFree

-- The faults of a snapshot of this name.
abbrev pub IsSnapshotFault : BlobName → BlobFault → Type 0
IsSnapshotFault name (fault.NoBlob other) = other ≡ name
IsSnapshotFault name (fault.Large limit) = (limit ≡ Blob) ⊎ IsTypeLimit limit
IsSnapshotFault name (fault.Bad place why) = Unit {0}
IsSnapshotFault name (fault.BadRow place why of ordinal) = Unit {0}
IsSnapshotFault name fault.Store = Unit {0}
IsSnapshotFault name fault.Memory = Unit {0}
IsSnapshotFault name _ = ⊥

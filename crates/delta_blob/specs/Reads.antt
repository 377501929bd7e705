-- What each answer of the reader of a delta's types tells: from a place behind the header up to the end of the blob, against a model.
use Rattle.std.specs.Prelude.{◌≡◌, ◌≤◌, ◌⊎◌, ℕ, ℤ, List, Option, Some, None, Result, Ok, Err, All, length, slice_get, IsErrAnd}
use Rattle.std.specs.List.{AllZip}
use Rattle.hol_io.specs.declared.name.BlobName.{BlobName}
use Rattle.schema_model.specs.declared.limit.Limit.{Limit}
use Rattle.schema_model.specs.declared.limit.Limit.TheVariants.{Blob, Ordinals, Items}
use Rattle.schema_model.specs.declared.schema.Schema.{Schema}
use Rattle.schema_model.specs.Limit.{number_of_limit}
use Rattle.type_rows.specs.Layout.{places_of}
use Rattle.type_rows.specs.Patches.{IsReadablePatch}
use Rattle.seen_patches.specs.Seen.{IsSeen}
use Rattle.blob_frame.specs.declared.fault.BlobFault.{BlobFault}
use Rattle.blob_frame.specs.declared.fault.BlobFault.TheVariants as fault
use Rattle.blob_frame.specs.declared.header.Header.{Header}
use Rattle.blob_frame.specs.Header.{HeaderIs}
use Rattle.blob_cursor.specs.Scene.{IsFree}
use Rattle.blob_faults.specs.Judge.{Blames}
use Rattle.delta_blob.specs.declared.part.DeltaPart.{DeltaPart}
use Rattle.delta_blob.specs.declared.patch.Patch.{Patch}
use Rattle.delta_blob.specs.declared.patch.PatchPart.{PatchPart}
use Rattle.delta_blob.specs.Judged.{delta_of, patch_of}
use Rattle.delta_blob.specs.Parts.{body}
use Rattle.delta_blob.specs.Patch.{AgreesWith, Means, NamesOnce, parts_for}

-- The limits on a type's ordinals, and on its elements or buckets, are kept.
pub record KeepsCounts (part : DeltaPart) : Type 0 where
  pub ordinals : places_of part.section.max ≤ number_of_limit Ordinals
  pub items : part.section.total ≤ number_of_limit Items

-- A type of the delta is this type of the model: its schema means it, and this is its offset and its section, as the model's schema sees it.
pub record IsOfModel (schemas : List Schema) (part : DeltaPart) (named : PatchPart) : Type 0 where
  pub mine : Schema
  pub means : Means schemas part.schema named.type_index mine
  pub at : named.at ≡ part.at
  pub section : IsSeen mine.shape part.schema.shape part.section named.section

-- The types of the delta that the model has are these: no two of the delta have one name, each agrees with the model's of its name, if there is one, and
-- those that the model has keep the limits on ordinals and items.
pub record AreOfModel (schemas : List Schema) (parts : List DeltaPart) (named : List PatchPart) : Type 0 where
  pub once : NamesOnce parts
  pub agree : All (AgreesWith schemas) parts
  pub each : AllZip (IsOfModel schemas) (parts_for schemas parts) named
  pub counts : All KeepsCounts (parts_for schemas parts)

-- From this place on the types of a delta stand up to the end of the blob, and they are these of the model.
abbrev pub IsPatchAt : List ℕ → ℕ → List Schema → List PatchPart → Type 0
IsPatchAt blob at schemas named = (parts : List DeltaPart) × body.Stands blob at parts (length blob) × AreOfModel schemas parts named

-- The limits that a type of a delta may pass as it stands in the blob.
abbrev pub IsCountLimit : Limit → Type 0
IsCountLimit Ordinals = Unit {0}
IsCountLimit Items = Unit {0}
IsCountLimit _ = ⊥

-- The faults of the types of a delta.
abbrev pub IsPatchFault : BlobFault → Type 0
IsPatchFault (fault.Bad place why) = Unit {0}
IsPatchFault (fault.OtherModel of) = Unit {0}
IsPatchFault (fault.Large limit) = IsCountLimit limit
IsPatchFault fault.Store = Unit {0}
IsPatchFault fault.Memory = Unit {0}
IsPatchFault _ = ⊥

-- What each answer tells of the blob: the types that stand there are those of the model, or what is tried of them fails with this fault.
abbrev pub TellsPatch : List ℕ → ℕ → List Schema → Result (List PatchPart) BlobFault → Type 0
TellsPatch blob at schemas (Ok named) = IsPatchAt blob at schemas named
TellsPatch blob at schemas (Err found) = Blames (patch_of blob at schemas) IsFree found

-- Where what is tried of the types fails the answer is the fault of it, but for the free ones.
abbrev pub FailsPatch : List ℕ → ℕ → List Schema → Result (List PatchPart) BlobFault → Type 0
FailsPatch blob at schemas answer = (found : BlobFault) → (patch_of blob at schemas).Fails found → (answer ≡ Err found) ⊎ IsErrAnd answer IsFree

-- A type that was read can be moved by, wherever the blob came from: it is one of the model, and its section can be read.
abbrev pub IsWholePart : List Schema → PatchPart → Type 0
IsWholePart schemas part = (schema : Schema) × (slice_get schemas part.type_index ≡ Some schema) × IsReadablePatch schema.shape part.section

-- What each answer of the reader of a delta tells of what the store has under its name, where the consumer is at this tag.
abbrev pub TellsDelta : BlobName → ℤ → List Schema → Option (List ℕ) → Result Patch BlobFault → Type 0
TellsDelta name current schemas None answer = (answer ≡ Err (fault.NoBlob name)) ⊎ IsErrAnd answer IsFree
TellsDelta name current schemas (Some blob) (Ok patch) =
    (head : Header) × (behind : ℕ) × HeaderIs blob behind head × (head.origin ≡ current) × (head.destination ≡ patch.destination) × (length blob ≡ patch.length)
    × (length blob ≤ number_of_limit Blob) × IsPatchAt blob behind schemas patch.parts
TellsDelta name current schemas (Some blob) (Err found) = Blames (delta_of blob current schemas) IsFree found

-- A delta of this length with this header and these types.
abbrev pub patch_as : ℕ → Header → List PatchPart → Patch
patch_as size head named = record { destination = head.destination; length = size; parts = named }

-- Where what is tried of a delta passes it is answered, but for the free faults.
abbrev pub FindsDelta : ℤ → List Schema → List ℕ → Result Patch BlobFault → Type 0
FindsDelta current schemas blob answer =
    (head : Header) (named : List PatchPart) → (delta_of blob current schemas).Passes (head, named)
    → (answer ≡ Ok (patch_as (length blob) head named)) ⊎ IsErrAnd answer IsFree

-- Where it fails the answer is the fault of it, but for the free ones.
abbrev pub FailsDelta : ℤ → List Schema → List ℕ → Result Patch BlobFault → Type 0
FailsDelta current schemas blob answer = (found : BlobFault) → (delta_of blob current schemas).Fails found → (answer ≡ Err found) ⊎ IsErrAnd answer IsFree

-- The faults of a delta of this name, for a consumer at this tag.
abbrev pub IsDeltaFault : BlobName → ℤ → BlobFault → Type 0
IsDeltaFault name current (fault.NoBlob other) = other ≡ name
IsDeltaFault name current (fault.Large limit) = (limit ≡ Blob) ⊎ IsCountLimit limit
IsDeltaFault name current (fault.OtherOrigin found at) = (at ≡ current) × (found ≡ current → ⊥)
IsDeltaFault name current (fault.BadRow place why of ordinal) = ⊥
IsDeltaFault name current _ = Unit {0}

-- Why a blob of the store is refused: it is not there, it is too large, or its header or what stands behind it is at fault.
use Rattle.std.specs.Prelude.{◌≡◌, ◌≤◌, ◌<◌, ℕ, List, length, Option, Some, None, Ok}
use Rattle.hol_io.specs.declared.name.BlobName.{BlobName}
use Rattle.schema_model.specs.declared.limit.Limit.TheVariants as limit
use Rattle.schema_model.specs.Limit.{number_of_limit}
use Rattle.blob_frame.specs.declared.fault.BlobFault.{BlobFault}
use Rattle.blob_frame.specs.Header.{StuckInHeader}
use Rattle.read_engine.specs.Judged.{RefusesLoad}
use Rattle.hol_answers.specs.declared.refusal.Refusal.{Refusal}
use Rattle.hol_answers.specs.declared.refusal.Refusal.TheVariants.{NoBlob, BadBlob, TooLarge}
use Rattle.hol_answers.specs.BlobRefusal.{refusal_of_blob}

-- Why what a name holds, if anything, has no header: the first cause.
abbrev pub HeadRefusal : BlobName → Option (List ℕ) → Refusal → Type 0
HeadRefusal name content (NoBlob other) = (other ≡ name) × (content ≡ None)
HeadRefusal name content (BadBlob fault) =
    (blob : List ℕ) × (content ≡ Some blob) × (length blob ≤ number_of_limit limit.Blob) × StuckInHeader blob fault.at fault.reason × (fault.blob ≡ name) × (fault.row ≡ None)
HeadRefusal name content (TooLarge what) =
    (blob : List ℕ) × (content ≡ Some blob) × (number_of_limit limit.Blob < length blob) × (what ≡ limit.Blob)
HeadRefusal name content _ = ⊥

-- The refusal tells this fault of the blob of a name.
abbrev pub TellsOf : BlobName → BlobFault → Refusal → Type 0
TellsOf name found refusal = refusal_of_blob name found ≡ Ok refusal

-- Why what a name holds is no snapshot that is loaded: its fault.
abbrev pub SnapshotRefusal : BlobName → Option (List ℕ) → Refusal → Type 0
SnapshotRefusal name content refusal = (found : BlobFault) × RefusesLoad name content found × TellsOf name found refusal

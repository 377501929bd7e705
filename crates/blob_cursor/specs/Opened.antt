-- What opening a blob tells: its header and the place behind it, or the first cause that there is none.
use Rattle.std.specs.Prelude.{◌≡◌, ◌≤◌, ◌<◌, ℕ, List, length, Option, Some, None, Result, Ok, Err}
use Rattle.hol_io.specs.declared.name.BlobName.{BlobName}
use Rattle.schema_model.specs.declared.limit.Limit.TheVariants as limit
use Rattle.schema_model.specs.Limit.{number_of_limit}
use Rattle.blob_frame.specs.declared.fault.BlobFault.{BlobFault}
use Rattle.blob_frame.specs.declared.fault.BlobFault.TheVariants as fault
use Rattle.blob_frame.specs.declared.header.Header.{Header}
use Rattle.blob_frame.specs.Header.{HeaderIs, StuckInHeader}
use Rattle.blob_cursor.specs.Scene.{Place}

-- What reading the header of what a name holds tells: the header and the place behind it, or the first cause that there is
-- none.
abbrev pub TellsHeader : BlobName → Option (List ℕ) → Result (Header × Place) BlobFault → Type 0
TellsHeader name content (Ok opened) =
    (blob : List ℕ) × (content ≡ Some blob) × (length blob ≤ number_of_limit limit.Blob) × HeaderIs blob opened.1.at opened.0
TellsHeader name content (Err (fault.NoBlob other)) = (other ≡ name) × (content ≡ None)
TellsHeader name content (Err (fault.Large what)) =
    (blob : List ℕ) × (content ≡ Some blob) × (number_of_limit limit.Blob < length blob) × (what ≡ limit.Blob)
TellsHeader name content (Err (fault.Bad at reason)) =
    (blob : List ℕ) × (content ≡ Some blob) × (length blob ≤ number_of_limit limit.Blob) × StuckInHeader blob at reason
TellsHeader name content (Err fault.Store) = Unit {0}
TellsHeader name content (Err fault.Memory) = Unit {0}
TellsHeader name content (Err _) = ⊥

-- Opening the blob of this name is refused for no other fault.
abbrev pub IsOpeningFault : BlobName → BlobFault → Type 0
IsOpeningFault name (fault.NoBlob other) = other ≡ name
IsOpeningFault name (fault.Large what) = what ≡ limit.Blob
IsOpeningFault name (fault.Bad at reason) = Unit {0}
IsOpeningFault name fault.Store = Unit {0}
IsOpeningFault name fault.Memory = Unit {0}
IsOpeningFault name _ = ⊥

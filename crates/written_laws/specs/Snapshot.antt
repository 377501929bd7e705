-- What a written snapshot is read back as: the snapshot of a table, between two tags.
use Rattle.std.specs.Prelude.{◌≡◌, ℕ, ℤ, List, []}
use Rattle.std.specs.List.{AllZip}
use Rattle.schema_model.specs.declared.schema.Schema.{Schema}
use Rattle.row_model.specs.Table.{Table}
use Rattle.type_state.specs.State.{Half}
use Rattle.type_state.specs.Views.{table_of}
use Rattle.blob_frame.specs.declared.header.Header.{Header}
use Rattle.snapshot_blob.specs.declared.part.TypePart.{TypePart}
use Rattle.snapshot_blob.specs.Snapshot.{IsAccepted, SnapshotIs}
use Rattle.snapshot_blob.specs.Stated.{KeepsTypeLimits}

-- The blob is the snapshot of this table and has this header, and no type of it passes a limit; it may have any length.
pub record IsSnapshotOfTable (schemas : List Schema) (table : Table) (head : Header) (blob : List ℕ) : Type 0 where
  pub parts : List TypePart
  pub halves : List Half
  pub rows : table_of halves ≡ table
  pub is : SnapshotIs blob head parts schemas halves
  pub types : AllZip KeepsTypeLimits parts halves

-- The blob is the snapshot of this table, has this header, and passes no limit.
pub record IsSnapshotWith (schemas : List Schema) (table : Table) (head : Header) (blob : List ℕ) : Type 0 where
  pub halves : List Half
  pub rows : table_of halves ≡ table
  pub accepted : IsAccepted blob head schemas halves

-- the header between these tags that lists these schemas, and has no header tags
abbrev pub header_between : ℤ → ℤ → List Schema → Header
header_between origin destination schemas = record { origin = origin; destination = destination; schemas = schemas; tags = [] }

-- The blob is the snapshot of this table between these tags, lists all schemas in its header, and passes no limit.
abbrev pub IsSnapshotOf : List Schema → Table → ℤ → ℤ → List ℕ → Type 0
IsSnapshotOf schemas table origin destination blob = IsSnapshotWith schemas table (header_between origin destination schemas) blob

-- What is tried of a snapshot, one thing after another, so that its fault is that of the first which fails: its length; its items, up to the end
-- of the blob; the model of its types; type by type the numbers of ordinals and items; type by type the rows; and that the rows are closed.
use Rattle.std.specs.Prelude.{ℕ, List, map}
use Rattle.row_model.specs.Table.{Table}
use Rattle.blob_frame.specs.declared.header.Header.{Header}
use Rattle.blob_faults.specs.Judge.{Judge, ◌>>=◌, each_of, nothing}
use Rattle.blob_faults.specs.Models.{are_model}
use Rattle.blob_faults.specs.Reading.{short, standing}
use Rattle.blob_faults.specs.Rows.{closed, counts, loads}
use Rattle.snapshot_blob.specs.declared.part.TypePart.{TypePart}
use Rattle.snapshot_blob.specs.Parts.{body, snapshot}
use Rattle.snapshot_blob.specs.Stated.{schemas_of}

-- the offset of the schema of each type
abbrev pub offsets_of : List TypePart → List ℕ
offsets_of parts = map (λ part. part.at) parts

-- The types of a snapshot, and their rows.
unfoldable pub types_of : List TypePart → Judge Table
types_of parts = do
  _ ← are_model (offsets_of parts) (schemas_of parts)
  _ ← each_of (λ part. counts part.section.max part.section.total) parts
  rows ← each_of (λ part. loads part.at part.schema part.section) parts
  _ ← closed (offsets_of parts) (schemas_of parts) rows
  nothing rows

-- The types from a place on up to the end of the blob, and their rows.
unfoldable pub body_of : List ℕ → ℕ → Judge Table
body_of blob at = do
  found ← standing body blob at
  types_of found.0

-- A snapshot: its header and its rows.
unfoldable pub snapshot_of : List ℕ → Judge (Header × Table)
snapshot_of blob = do
  _ ← short blob
  found ← standing snapshot blob 0
  rows ← types_of found.0.1
  nothing (found.0.0, rows)

-- What is tried of the parts of a patch against the rows of a state, one thing after another, so that the fault is that of the first which fails:
-- part by part that it moves the rows of its type; and that the rows that come are closed.
use Rattle.std.specs.Prelude.{◌==◌, ℕ, List, [], ◌∷◌, if◌then◌else◌, length, map, slice_set}
use Rattle.std.specs.List.{range_with_len}
use Rattle.schema_model.specs.declared.schema.Schema.{Schema}
use Rattle.row_model.specs.Table.{RowMap, Table}
use Rattle.row_model.specs.BothStates.{rows_in}
use Rattle.blob_faults.specs.Judge.{Judge, ◌>>=◌, each_of, item_at, nothing}
use Rattle.blob_faults.specs.Rows.{closed, moves}
use Rattle.blob_frame.specs.declared.fault.BlobFault.{BlobFault}
use Rattle.blob_frame.specs.declared.fault.BlobFault.TheVariants.{Memory}
use Rattle.delta_blob.specs.declared.patch.PatchPart.{PatchPart}

-- The table with other rows for the types that some parts name.
unfoldable pub moved_table : Table → List PatchPart → List RowMap → Table
moved_table table (part ∷ parts) (rows ∷ more) = moved_table (slice_set table part.type_index rows) parts more
moved_table table _ _ = table

-- The offset of the schema of a type in a blob of this length: that of the part that names it, and the length where none does.
unfoldable pub offset_among : List PatchPart → ℕ → ℕ → ℕ
offset_among [] size t = size
offset_among (part ∷ parts) size t = if part.type_index == t then part.at else offset_among parts size t

-- the offset of each type of a model
abbrev pub offsets_among : List Schema → List PatchPart → ℕ → List ℕ
offsets_among schemas parts size = map (offset_among parts size) (range_with_len 0 (length schemas))

-- A part moves the rows of its type.
unfoldable pub part_moves : List Schema → Table → PatchPart → Judge RowMap
part_moves schemas table part = do
  schema ← item_at schemas part.type_index
  moves part.at schema part.section (rows_in table part.type_index)

-- The parts of a patch, which stand in a blob of this length, move a table to another one, which is closed.
unfoldable pub state_moved : List Schema → List PatchPart → ℕ → Table → Judge Table
state_moved schemas parts size table = do
  rows ← each_of (part_moves schemas table) parts
  _ ← closed (offsets_among schemas parts size) schemas (moved_table table parts rows)
  nothing (moved_table table parts rows)

-- A fault that tells nothing of the parts: want of memory.
abbrev pub IsFreeMove : BlobFault → Type 0
IsFreeMove Memory = Unit {0}
IsFreeMove _ = ⊥

-- Which fault of a blob a fault of the rows of a type is.
use Rattle.std.specs.Prelude.{◌≡◌, ◌≢◌, ℕ, List, Some, slice_get}
use Rattle.schema_model.specs.declared.reason.Reason.TheVariants.{Dangling as dangles}
use Rattle.schema_model.specs.declared.schema.name.Name.{Name}
use Rattle.schema_model.specs.declared.schema.Schema.{Schema}
use Rattle.closed_rows.specs.declared.dangling.Dangling.{Dangling}
use Rattle.type_rows.specs.declared.fault.RowFault.{RowFault}
use Rattle.blob_frame.specs.declared.fault.BlobFault.{BlobFault}
use Rattle.blob_frame.specs.declared.fault.BlobFault.TheVariants as fault

-- The fault of the rows of the type of this name, whose schema stands at this offset.
abbrev pub row_blame : ℕ → Name → RowFault → BlobFault
row_blame at name (RowFault.At why ordinal) = fault.BadRow at why name ordinal
row_blame at name (RowFault.Limit limit) = fault.Large limit
row_blame at name RowFault.Memory = fault.Memory

-- The rows of the type are at fault; want of memory is none.
abbrev pub BlamesRows : (RowFault → Type 0) → ℕ → Name → BlobFault → Type 0
BlamesRows Fails at name found = (why : RowFault) × (why ≢ RowFault.Memory) × Fails why × (found ≡ row_blame at name why)

-- A row that names an ordinal which is not live is at fault, at the offset of its type.
abbrev pub BlamesRow : List ℕ → List Schema → Dangling → BlobFault → Type 0
BlamesRow offsets schemas row found =
    (at : ℕ) × (schema : Schema) × (slice_get offsets row.type_index ≡ Some at) × (slice_get schemas row.type_index ≡ Some schema)
    × (found ≡ fault.BadRow at dangles schema.name row.ordinal)

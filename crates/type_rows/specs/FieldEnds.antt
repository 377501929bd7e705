-- The end offsets of the fields of records: when the elements hold them, and what one record more adds to them.
use Rattle.std.specs.Prelude.{◌≡◌, ◌-◌, ◌^◌, ◌<◌, ℕ, List, min, slice_get, slice_index, sum_by, Some}
use Rattle.std.specs.FinMap.{values}
use Rattle.schema_model.specs.declared.schema.Field.{Field}
use Rattle.schema_model.specs.declared.schema.FieldKind.{FieldKind}
use Rattle.schema_model.specs.declared.schema.Shape.{Shape}
use Rattle.row_model.specs.declared.row.Value.{Value}
use Rattle.row_model.specs.Table.{RowMap}
use Rattle.object_codec.specs.declared.part.Part.{Part}
use Rattle.type_rows.specs.declared.section.Section.{Section}
use Rattle.type_rows.specs.WordsHeld.{field_bytes, value_bytes}
use Rattle.type_rows.specs.Ends.{end_after}
use Rattle.type_rows.specs.Holds.{FitsWidths}
use Rattle.type_rows.specs.Loads.{SectionIs}

-- The element of a field of this kind holds the end offset, where its values have variable bytes.
abbrev pub EndFits : FieldKind → ℕ → ℕ → Type 0
EndFits FieldKind.Text width end = end < 2 ^ (width - 1)
EndFits FieldKind.Bytes width end = end < 2 ^ (width - 1)
EndFits _ width end = Unit {0}

-- The elements of the first so many fields hold these end offsets of theirs, and none is the greatest number of 64 bits.
abbrev pub EndsFit : List Field → List ℕ → List ℕ → ℕ → Type 0
EndsFit fields widths ends count =
    (index : ℕ) (field : Field) → index < count → slice_get fields index ≡ Some field
    → EndFits field.kind (slice_index widths index) (slice_index ends index) × (slice_index ends index < 2 ^ 64 - 1)

-- How many bytes a part has that a field of a record gives.
abbrev pub run_bytes : Part → ℕ
run_bytes (Part.Run start end) = end - start
run_bytes _ = 0

-- A record of these values is laid out behind others whose fields end at some offsets: each value fits, the fields end at these, and the record
-- has so many variable bytes.
pub record AddsRecord (fields : List Field) (widths ends : List ℕ) (record_values : List Value) (after : List ℕ) (bytes : ℕ) : Type 0 where
  pub fits : FitsWidths fields widths (end_after ends record_values) record_values
  pub grown : (field : ℕ) → slice_index after field ≡ end_after ends record_values field
  pub counted : bytes ≡ min (sum_by value_bytes record_values) (2 ^ 64 - 1)

-- The variable bytes of the first so many fields in the rows of the section are these; the greatest number of 64 bits where they are more.
abbrev pub AreLengths : Shape → Section → List ℕ → ℕ → Type 0
AreLengths shape section lengths count =
    (rows : RowMap) → SectionIs shape section rows → (field : ℕ) → field < count → slice_index lengths field ≡ min (field_bytes field (values rows)) (2 ^ 64 - 1)

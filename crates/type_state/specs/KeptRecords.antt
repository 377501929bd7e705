-- The records of a half that is kept, where they stand in its words, and the rows of a type that are told by them.
use Rattle.std.specs.Prelude.{◌≡◌, map, refl}
use Rattle.std.specs.Coded.{Coded, code_by, coded×}
use Rattle.schema_model.specs.declared.schema.Shape.{Shape}
use Rattle.schema_model.specs.contracts.schema.Shape as shape_contract
use Rattle.row_model.specs.Table.{RowMap}
use Rattle.packed_half.specs.Half.{section_in}
use Rattle.object_codec.specs.Bytes.{bytes_of}
use Rattle.type_state.specs.declared.kept_records.KeptRecords.{KeptRecords}
use Rattle.type_state.specs.PackedRows.{rows_code}
use Rattle.type_state.specs.Kept.{IsHalf, half_rows}

-- The rows of the half that they are the records of.
abbrev pub kept_rows : KeptRecords → RowMap
kept_rows kept = half_rows kept.shape.now kept.half.now kept.words.now

-- They are the records of a half that is kept, with the elements of their lists and the bytes of their fields.
pub record AreKept (kept : KeptRecords) : Type 0 where
  pub half : IsHalf kept.shape.now kept.half.now kept.words.now
  pub first : kept.records.first.now ≡ (section_in kept.shape.now kept.half.now kept.words.now).first
  pub second : kept.second.now ≡ (section_in kept.shape.now kept.half.now kept.words.now).second
  pub bytes : map bytes_of kept.records.areas.now ≡ (section_in kept.shape.now kept.half.now kept.words.now).areas

-- The rows of a type of this shape.
pub record TypedRows : Type 0 where
  pub shape : Shape
  pub rows : RowMap

abbrev pub typed_code : Coded TypedRows
typed_code = code_by (Shape × RowMap) (coded× (shape_contract.the_row).coded rows_code) (λ t. (t.shape, t.rows)) (λ p. record { shape = p.0; rows = p.1 }) (λ _. refl)

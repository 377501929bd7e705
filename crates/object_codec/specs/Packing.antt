-- OBJECT rows as they are written: where there is room for a row, and what its place and the fields' bytes are then.
use Rattle.std.specs.Prelude.{◌∷◌, ◌≡◌, ℕ, ◌+◌, ◌-◌, ◌*◌, ◌^◌, ◌<◌, ◌≤◌, List, [], ◌++◌, length, map, sum, slice_get, slice_index, Option, Some, None, IfSome}
use Rattle.std.specs.List.{AllZip, enumerate_from}
use Rattle.bit_array.specs.Element.{number_of, words_of}
use Rattle.row_model.specs.Areas.{area_of}
use Rattle.schema_model.specs.Parts.{shape_fields}
use Rattle.row_model.specs.Row.{FitsShape, stored_value, stored_row}
use Rattle.schema_model.specs.declared.schema.FieldKind.{FieldKind}
use Rattle.schema_model.specs.declared.schema.Field.{Field}
use Rattle.schema_model.specs.declared.schema.Shape.{Shape}
use Rattle.row_model.specs.declared.row.Row.{Row}
use Rattle.row_model.specs.declared.row.Value.{Value}
use Rattle.object_codec.specs.ObjectPlace.{parts_of, IsObject, IsFieldWidth, HoldsPlace, SpellsObjectRow}
use Rattle.object_codec.specs.Part.{FieldPart, SpellsValue}
use Rattle.object_codec.specs.Stored.{values_of_row, value_at, column, stored_number, values_bytes}

-- The values of a field of this kind have bytes.
abbrev pub HasBytes : FieldKind → Type 0
HasBytes FieldKind.Text = Unit {0}
HasBytes FieldKind.Bytes = Unit {0}
HasBytes _ = ⊥

-- What a field has where a place has no row: no bit, but a STRING or BYTES has the offset of the place before.
abbrev pub IsGap : FieldKind → FieldPart → Type 0
IsGap FieldKind.Text part = part.element ≡ part.start
IsGap FieldKind.Bytes part = part.element ≡ part.start
IsGap _ part = part.element ≡ 0

-- The part of a field gives this value, the least INT and LONG as null; or it is that of a place without a row.
abbrev pub PacksPart : FieldKind → FieldPart → Option Value → Type 0
PacksPart kind part None = IsGap kind part
PacksPart kind part (Some value) = SpellsValue kind part (stored_value value)

-- The place spells its row, the least INT and LONG as null; or each field is as where there is no row.
abbrev pub PacksPlace : Shape → List ℕ → List ℕ → List (List ℕ) → ℕ → Option Row → Type 0
PacksPlace shape widths first areas place None = AllZip (λ field part. IsGap field.kind part) (shape_fields shape) (parts_of widths first areas place)
PacksPlace shape widths first areas place (Some row) = SpellsObjectRow shape widths first areas place (stored_row row)

-- The values that a place takes: those of its record, none where it has no row.
abbrev pub values_of_place : Option Row → List Value
values_of_place None = []
values_of_place (Some row) = values_of_row row

-- The bytes of fields with those of one record behind them.
abbrev pub areas_with : List (List ℕ) → List Value → List (List ℕ)
areas_with areas values = map (λ part. part.1 ++ values_bytes (value_at part.0 values)) (enumerate_from 0 areas)

-- The bytes of each STRING and BYTES go on at the place where those end that are there.
abbrev pub StartsAtEnds : List Field → List ℕ → List ℕ → List (List ℕ) → ℕ → Type 0
StartsAtEnds fields widths first areas place = AllZip (λ field part. HasBytes field.kind → part.start ≡ length part.area) fields (parts_of widths first areas place)

-- A width holds a value: the number of one that is not null is not all ones.
abbrev pub HoldsValue : ℕ → Value → Type 0
HoldsValue width value = IfSome (stored_number value) (λ number. number < 2 ^ width - 1)

-- There is room for the row of a place: the words hold the place, the bytes go on where they end, the row is one of the type, the widths
-- hold its numbers, and the end of its bytes below the null bits.
pub record HasRoom (shape : Shape) (widths first : List ℕ) (areas : List (List ℕ)) (place : ℕ) (row : Option Row) : Type 0 where
  pub object : IsObject shape
  pub holds : HoldsPlace (shape_fields shape) widths first areas place
  pub follows : StartsAtEnds (shape_fields shape) widths first areas place
  pub fits : IfSome row (FitsShape shape)
  pub numbers : (index : ℕ) → IfSome (slice_get (values_of_place row) index) (HoldsValue (slice_index widths index))
  pub ends : AllZip (λ field part. HasBytes field.kind → length part.area < 2 ^ (part.width - 1)) (shape_fields shape) (parts_of widths first (areas_with areas (values_of_place row)) place)

-- The row of a place is written: the place spells it, and those before spell what they spelled, or still have no row; its bytes are behind those
-- of its fields, where the next place goes on; and no bit is behind the place.
pub record IsRowPut (shape : Shape) (widths old_first : List ℕ) (old_areas : List (List ℕ)) (first : List ℕ) (areas : List (List ℕ)) (place : ℕ) (row : Option Row) : Type 0 where
  pub packed : PacksPlace shape widths first areas place row
  pub earlier : (before : ℕ) (old : Row) → before < place → SpellsObjectRow shape widths old_first old_areas before old → SpellsObjectRow shape widths first areas before old
  pub gaps : (before : ℕ) → before < place → PacksPlace shape widths old_first old_areas before None → PacksPlace shape widths first areas before None
  pub grown : areas ≡ areas_with old_areas (values_of_place row)
  pub follows : StartsAtEnds (shape_fields shape) widths first areas (place + 1)
  pub bits : number_of old_first < 2 ^ (place * sum widths) → number_of first < 2 ^ ((place + 1) * sum widths)

-- The bytes of each field at some places, in their order: none where its values have none.
abbrev pub areas_for : List Field → List (Option Row) → List (List ℕ)
areas_for fields rows = map (λ part. values_bytes (column part.0 (map values_of_place rows))) (enumerate_from 0 fields)

-- A field may have this width: 64 at most, and where there are places one that its kind may have.
abbrev pub IsWidthFor : List (Option Row) → Field → ℕ → Type 0
IsWidthFor [] = λ field width. width ≤ 64
IsWidthFor (row ∷ rows) = IsFieldWidth

-- What can be packed: rows of the type, whose numbers the widths hold, and below the null bit the number of all bytes of each field.
pub record CanPack (shape : Shape) (widths : List ℕ) (rows : List (Option Row)) : Type 0 where
  pub object : IsObject shape
  pub few : length (shape_fields shape) ≤ 1024
  pub wide : AllZip (IsWidthFor rows) (shape_fields shape) widths
  pub places : length rows ≤ 2 ^ 32
  pub fit : (place : ℕ) (row : Row) → slice_get rows place ≡ Some (Some row) → FitsShape shape row
  pub numbers : (place index : ℕ) (row : Option Row) → slice_get rows place ≡ Some row → IfSome (slice_get (values_of_place row) index) (HoldsValue (slice_index widths index))
  pub ends : (index : ℕ) (field : Field) → slice_get (shape_fields shape) index ≡ Some field → HasBytes field.kind
      → length (values_bytes (column index (map values_of_place rows))) < 2 ^ (slice_index widths index - 1)

-- The words and bytes are those of these places: each spells its row, the bytes of each field are those of its values, of a STRING or BYTES alone,
-- and the words are as many as the places need, with no bit behind.
pub record IsPacked (shape : Shape) (widths : List ℕ) (rows : List (Option Row)) (first : List ℕ) (areas : List (List ℕ)) : Type 0 where
  pub spelled : (place : ℕ) (row : Option Row) → slice_get rows place ≡ Some row → PacksPlace shape widths first areas place row
  pub bytes : areas ≡ areas_for (shape_fields shape) rows
  pub fixed : (index : ℕ) (field : Field) → slice_get (shape_fields shape) index ≡ Some field → (HasBytes field.kind → ⊥) → area_of areas index ≡ []
  pub words : length first ≡ words_of (length rows * sum widths)
  pub bits : number_of first < 2 ^ (length rows * sum widths)

-- OBJECT rows of a blob: which record the elements at a place spell, with those at the place before, and why they spell none.
use Rattle.std.specs.Prelude.{◌≡◌, ℕ, zero, suc, ◌+◌, ◌*◌, ◌^◌, ◌<◌, ◌≤◌, ◌⊎◌, List, [], ◌∷◌, length, sum, Result, Ok, Err}
use Rattle.std.specs.List.{AllZip}
use Rattle.bit_array.specs.Element.{element_of}
use Rattle.schema_model.specs.Parts.{shape_fields}
use Rattle.schema_model.specs.declared.schema.FieldKind.{FieldKind}
use Rattle.schema_model.specs.declared.schema.Field.{Field}
use Rattle.schema_model.specs.declared.schema.Shape.{Shape}
use Rattle.row_model.specs.declared.row.Value.{Value}
use Rattle.row_model.specs.declared.row.Row.{Row}
use Rattle.schema_model.specs.declared.reason.Reason.{Reason}
use Rattle.row_model.specs.declared.packed.PlaceFault.{PlaceFault}
use Rattle.object_codec.specs.Part.{FieldPart, offset_in, SpellsValue, FailsValue}

-- The element of a field at a place: a record has `size` bits, of which `before` stand before the field's.
abbrev pub element_at : List ℕ → ℕ → ℕ → ℕ → ℕ → ℕ
element_at first size before width place = element_of first (place * size + before) width

-- Where the bytes of a STRING or BYTES start: at the end offset of the place before, and at 0 for place 0.
abbrev pub start_at : List ℕ → ℕ → ℕ → ℕ → ℕ → ℕ
start_at first size before width zero = 0
start_at first size before width (suc earlier) = offset_in width (element_at first size before width earlier)

-- What a field has at a place.
abbrev pub part_at : List ℕ → ℕ → ℕ → ℕ → ℕ → List ℕ → FieldPart
part_at first size place before width area =
    record {
      width = width;
      element = element_at first size before width place;
      start = start_at first size before width place;
      area = area;
    }

-- The same for each of some fields that follow one another.
abbrev pub parts_from : List ℕ → ℕ → ℕ → ℕ → List ℕ → List (List ℕ) → List FieldPart
parts_from first size place before (width ∷ widths) (area ∷ areas) =
    part_at first size place before width area ∷ parts_from first size place (before + width) widths areas
parts_from first size place before _ _ = []

-- The parts of the record at a place, in the order of the schema: a record is as wide as its fields together.
abbrev pub parts_of : List ℕ → List ℕ → List (List ℕ) → ℕ → List FieldPart
parts_of widths first areas place = parts_from first (sum widths) place 0 widths areas

-- Each part gives the value of its field.
abbrev pub SpellsFields : List Field → List FieldPart → List Value → Type 0
SpellsFields [] [] [] = Unit {0}
SpellsFields (field ∷ fields) (part ∷ parts) (value ∷ values) = SpellsValue field.kind part value × SpellsFields fields parts values
SpellsFields _ _ _ = ⊥

-- The first part that gives no value fails for this reason.
abbrev pub FirstFails : List Field → List FieldPart → Reason → Type 0
FirstFails (field ∷ fields) (part ∷ parts) reason =
    FailsValue field.kind part reason ⊎ (((value : Value) × SpellsValue field.kind part value) × FirstFails fields parts reason)
FirstFails _ _ reason = ⊥

-- The place spells this record.
abbrev pub SpellsObject : List Field → List ℕ → List ℕ → List (List ℕ) → ℕ → List Value → Type 0
SpellsObject fields widths first areas place values = SpellsFields fields (parts_of widths first areas place) values

-- The place spells no record, for this reason.
abbrev pub FailsObject : List Field → List ℕ → List ℕ → List (List ℕ) → ℕ → Reason → Type 0
FailsObject fields widths first areas place reason = FirstFails fields (parts_of widths first areas place) reason

abbrev pub IsObject : Shape → Type 0
IsObject (Shape.Object key fields) = Unit {0}
IsObject _ = ⊥

-- The place of a type spells this row.
abbrev pub SpellsObjectRow : Shape → List ℕ → List ℕ → List (List ℕ) → ℕ → Row → Type 0
SpellsObjectRow shape widths first areas place (Row.Object values) = SpellsObject (shape_fields shape) widths first areas place values
SpellsObjectRow shape widths first areas place _ = ⊥

-- The place of a type spells no row, for this reason.
abbrev pub FailsObjectRow : Shape → List ℕ → List ℕ → List (List ℕ) → ℕ → Reason → Type 0
FailsObjectRow shape = FailsObject (shape_fields shape)

-- The widths that a field may have: 2 for a BOOLEAN, the null bit at least for a STRING or BYTES, and at most 64.
abbrev pub IsKindWidth : FieldKind → ℕ → Type 0
IsKindWidth FieldKind.Boolean width = width ≡ 2
IsKindWidth FieldKind.Text width = 1 ≤ width
IsKindWidth FieldKind.Bytes width = 1 ≤ width
IsKindWidth _ width = Unit {0}

abbrev pub IsFieldWidth : Field → ℕ → Type 0
IsFieldWidth field width = (width ≤ 64) × IsKindWidth field.kind width

-- The parts of a type have a width and an area for each field, and words for the place: what a section of a blob has that can be read.
pub record HoldsPlace (fields : List Field) (widths first : List ℕ) (areas : List (List ℕ)) (place : ℕ) : Type 0 where
  pub few : length fields ≤ 1024
  pub wide : AllZip IsFieldWidth fields widths
  pub filled : length areas ≡ length fields
  pub within : (place + 1) * sum widths ≤ 64 * length first
  pub below : place < 2 ^ 32

-- Want of memory may come in place of any answer.
abbrev pub IsFreePlace : PlaceFault → Type 0
IsFreePlace (PlaceFault.Bad reason) = ⊥
IsFreePlace PlaceFault.Memory = Unit {0}

-- What each answer of the reader tells.
abbrev pub TellsObject : List Field → List ℕ → List ℕ → List (List ℕ) → ℕ → Result (List Value) PlaceFault → Type 0
TellsObject fields widths first areas place (Ok values) = SpellsObject fields widths first areas place values
TellsObject fields widths first areas place (Err (PlaceFault.Bad reason)) = FailsObject fields widths first areas place reason
TellsObject fields widths first areas place (Err PlaceFault.Memory) = Unit {0}

abbrev pub TellsObjectRow : Shape → List ℕ → List ℕ → List (List ℕ) → ℕ → Result Row PlaceFault → Type 0
TellsObjectRow shape widths first areas place (Ok row) = SpellsObjectRow shape widths first areas place row
TellsObjectRow shape widths first areas place (Err (PlaceFault.Bad reason)) = FailsObjectRow shape widths first areas place reason
TellsObjectRow shape widths first areas place (Err PlaceFault.Memory) = Unit {0}

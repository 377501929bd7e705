-- OBJECT rows of a blob: which value the bits and bytes of one field give at a place, and when they give none.
use Rattle.std.specs.Prelude.{◌≡◌, ℕ, ◌-◌, ◌%◌, ◌^◌, ◌<◌, ◌≤◌, List, take, drop, length, if◌then◌else◌, Result, Ok, Err}
use Rattle.hol_varint.specs.Zigzag.{unzigzag}
use Rattle.hol_varint.specs.TextUnits.{AreUnitsIn, IsBadText}
use Rattle.schema_model.specs.declared.schema.FieldKind.{FieldKind}
use Rattle.row_model.specs.declared.row.Value.{Value}
use Rattle.schema_model.specs.declared.reason.Reason.{Reason}
use Rattle.row_model.specs.declared.packed.PlaceFault.{PlaceFault}

-- What a field has at a place: the width of its element in bits, the element, where its bytes start, and the bytes of the field at all places.
pub record FieldPart : Type 0 where
  pub width : ℕ
  pub element : ℕ
  pub start : ℕ
  pub area : List ℕ

-- All bits of the element are ones: the null of an INT, a LONG or a REFERENCE.
abbrev pub IsOnes : ℕ → ℕ → Type 0
IsOnes width element = element ≡ 2 ^ width - 1

-- The top bit of the element is set: the null of a STRING or BYTES.
abbrev pub HasNullBit : FieldPart → Type 0
HasNullBit part = 2 ^ (part.width - 1) ≤ part.element

-- The end offset that the element of a STRING or BYTES holds below its null bit.
abbrev pub offset_in : ℕ → ℕ → ℕ
offset_in width element = element % 2 ^ (width - 1)

abbrev pub end_of : FieldPart → ℕ
end_of part = offset_in part.width part.element

-- The offsets bound a run of the field's bytes, an empty one where the value is null.
pub record IsSpan (part : FieldPart) : Type 0 where
  pub rises : part.start ≤ end_of part
  pub inside : end_of part ≤ length part.area
  pub empty : HasNullBit part → end_of part ≡ part.start

-- The bytes from the start up to the end.
abbrev pub span_of : FieldPart → List ℕ
span_of part = take (end_of part - part.start) (drop part.start part.area)

-- An INT: null, or the number whose zigzag number the element is.
abbrev pub SpellsInt : ℕ → ℕ → Value → Type 0
SpellsInt width element Value.Null = IsOnes width element
SpellsInt width element (Value.Int number) = (IsOnes width element → ⊥) × (element ≤ 2 ^ 32 - 2) × (number ≡ unzigzag element)
SpellsInt width element _ = ⊥

-- A LONG: null, or the number whose zigzag number the element is.
abbrev pub SpellsLong : ℕ → ℕ → Value → Type 0
SpellsLong width element Value.Null = IsOnes width element
SpellsLong width element (Value.Long number) = (IsOnes width element → ⊥) × (number ≡ unzigzag element)
SpellsLong width element _ = ⊥

-- A REFERENCE: null, or the ordinal that the element is.
abbrev pub SpellsReference : ℕ → ℕ → Value → Type 0
SpellsReference width element Value.Null = IsOnes width element
SpellsReference width element (Value.Ref ordinal) = (IsOnes width element → ⊥) × (element ≤ 2 ^ 32 - 1) × (ordinal ≡ element)
SpellsReference width element _ = ⊥

-- A BOOLEAN: 0 is false, 1 is true and 3 is null.
abbrev pub SpellsBoolean : ℕ → Value → Type 0
SpellsBoolean element Value.Null = element ≡ 3
SpellsBoolean element (Value.Bool flag) = element ≡ (if flag then 1 else 0)
SpellsBoolean element _ = ⊥

-- A STRING: null, or the units that the bytes from the start to the end spell.
abbrev pub SpellsText : FieldPart → Value → Type 0
SpellsText part Value.Null = IsSpan part × HasNullBit part
SpellsText part (Value.Text units) = IsSpan part × (HasNullBit part → ⊥) × AreUnitsIn (span_of part) units
SpellsText part _ = ⊥

-- BYTES: null, or the bytes from the start to the end.
abbrev pub SpellsBytes : FieldPart → Value → Type 0
SpellsBytes part Value.Null = IsSpan part × HasNullBit part
SpellsBytes part (Value.Bytes bytes) = IsSpan part × (HasNullBit part → ⊥) × (bytes ≡ span_of part)
SpellsBytes part _ = ⊥

-- The part of a field of this kind gives this value.
abbrev pub SpellsValue : FieldKind → FieldPart → Value → Type 0
SpellsValue (FieldKind.Reference name) part = SpellsReference part.width part.element
SpellsValue FieldKind.Int part = SpellsInt part.width part.element
SpellsValue FieldKind.Long part = SpellsLong part.width part.element
SpellsValue FieldKind.Boolean part = SpellsBoolean part.element
SpellsValue FieldKind.Text part = SpellsText part
SpellsValue FieldKind.Bytes part = SpellsBytes part

-- The start is past the end, the end is past the field's bytes, or a null's end is not its start.
abbrev pub HasBadPointers : FieldKind → FieldPart → Type 0
HasBadPointers FieldKind.Text part = IsSpan part → ⊥
HasBadPointers FieldKind.Bytes part = IsSpan part → ⊥
HasBadPointers _ _ = ⊥

-- The bytes of a STRING are not those of any units.
abbrev pub HasBadText : FieldKind → FieldPart → Type 0
HasBadText FieldKind.Text part = IsSpan part × (HasNullBit part → ⊥) × IsBadText (span_of part)
HasBadText _ _ = ⊥

-- A number that is not null is past the greatest zigzag number of an INT, or past the greatest ordinal.
abbrev pub IsBadInt : ℕ → ℕ → Type 0
IsBadInt width element = (IsOnes width element → ⊥) × (2 ^ 32 - 2 < element)

abbrev pub IsBadReference : ℕ → ℕ → Type 0
IsBadReference width element = (IsOnes width element → ⊥) × (2 ^ 32 - 1 < element)

-- Such a number, or a BOOLEAN of 2.
abbrev pub HasBadValue : FieldKind → FieldPart → Type 0
HasBadValue (FieldKind.Reference name) part = IsBadReference part.width part.element
HasBadValue FieldKind.Int part = IsBadInt part.width part.element
HasBadValue FieldKind.Boolean part = part.element ≡ 2
HasBadValue _ _ = ⊥

-- The part of a field of this kind gives no value, for this reason.
abbrev pub FailsValue : FieldKind → FieldPart → Reason → Type 0
FailsValue kind part Reason.BadPointers = HasBadPointers kind part
FailsValue kind part Reason.BadText = HasBadText kind part
FailsValue kind part Reason.BadValue = HasBadValue kind part
FailsValue kind part _ = ⊥

-- What each answer of the reader of a part tells.
abbrev pub TellsValue : FieldKind → FieldPart → Result Value PlaceFault → Type 0
TellsValue kind part (Ok value) = SpellsValue kind part value
TellsValue kind part (Err (PlaceFault.Bad reason)) = FailsValue kind part reason
TellsValue kind part (Err PlaceFault.Memory) = Unit {0}

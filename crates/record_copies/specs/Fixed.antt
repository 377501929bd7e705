-- Records of OBJECT types without STRING and BYTES: the bits of the one at a place, and what there must be to write one there.
use Rattle.std.specs.Prelude.{◌≡◌, ℕ, ◌+◌, ◌-◌, ◌*◌, ◌/◌, ◌^◌, ◌<◌, ◌≤◌, ◌++◌, List, length, min, replicate, sum, take, slice_get, slice_index, All, IfSome}
use Rattle.std.specs.List.{AllZip}
use Rattle.bit_array.specs.Element.{number_of, element_of}
use Rattle.schema_model.specs.Parts.{shape_fields}
use Rattle.schema_model.specs.declared.schema.Field.{Field}
use Rattle.schema_model.specs.declared.schema.Shape.{Shape}
use Rattle.row_model.specs.Row.{FitsShape}
use Rattle.row_model.specs.declared.row.Row.{Row}
use Rattle.object_codec.specs.ObjectPlace.{element_at, IsObject, IsFieldWidth}
use Rattle.object_codec.specs.Packing.{HasBytes, HoldsValue}
use Rattle.object_codec.specs.Stored.{values_of_row}

-- No field is a STRING or BYTES.
abbrev pub AreFixed : List Field → Type 0
AreFixed fields = All (λ field. HasBytes field.kind → ⊥) fields

-- The bits of the record at a place, as one number: a record is as wide as its fields together.
abbrev pub record_at : List ℕ → List ℕ → ℕ → ℕ
record_at widths first place = element_of first (place * sum widths) (sum widths)

-- The field at an index has the same element at a place of the one words and at a place of the others.
abbrev pub HaveSameElement : List ℕ → List ℕ → List ℕ → ℕ → ℕ → ℕ → Type 0
HaveSameElement widths first first' place place' index =
    element_at first (sum widths) (sum (take index widths)) (slice_index widths index) place ≡ element_at first' (sum widths) (sum (take index widths)) (slice_index widths index) place'

-- The words hold the record of a place, and each field has a width that its kind may have.
pub record HoldsRecord (fields : List Field) (widths first : List ℕ) (place : ℕ) : Type 0 where
  pub few : length fields ≤ 1024
  pub wide : AllZip IsFieldWidth fields widths
  pub within : (place + 1) * sum widths ≤ 64 * length first
  pub below : place < 2 ^ 32

-- There is room for a row at a place: the words hold it, the row is one of the type, which has no variable bytes, and the widths hold its numbers.
pub record HasRecordRoom (shape : Shape) (widths first : List ℕ) (place : ℕ) (row : Row) : Type 0 where
  pub object : IsObject shape
  pub fixed : AreFixed (shape_fields shape)
  pub holds : HoldsRecord (shape_fields shape) widths first place
  pub fits : FitsShape shape row
  pub numbers : (index : ℕ) → IfSome (slice_get (values_of_row row) index) (HoldsValue (slice_index widths index))

-- The record of each other place has the bits that it had.
abbrev pub AreOthersKept : List ℕ → List ℕ → List ℕ → ℕ → Type 0
AreOthersKept widths old new place = (other : ℕ) → (other ≡ place → ⊥) → record_at widths new other ≡ record_at widths old other

-- Where no bit stood behind a limit at or behind the place, none stands there.
abbrev pub IsEndKept : List ℕ → List ℕ → List ℕ → ℕ → Type 0
IsEndKept widths old new place = (limit : ℕ) → (place + 1) * sum widths ≤ limit → number_of old < 2 ^ limit → number_of new < 2 ^ limit

-- How many words the records fill that both of two word arrays have: from the first word on, without the one that they end in.
abbrev pub whole_words : List ℕ → ℕ → ℕ → ℕ
whole_words widths before places = min before places * sum widths / 64

-- The first words are so many of others, and zeros stand behind them.
abbrev pub HasFront : ℕ → List ℕ → List ℕ → Type 0
HasFront kept from words = words ≡ take kept from ++ replicate (length words - kept) 0

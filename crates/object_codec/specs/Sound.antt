-- Which of some places spell records.
use Rattle.std.specs.Prelude.{◌≡◌, ℕ, ◌<◌, List, length, slice_index, Option, MatchOption}
use Rattle.row_model.specs.Areas.{area_of}
use Rattle.schema_model.specs.declared.schema.Field.{Field}
use Rattle.schema_model.specs.declared.schema.FieldKind.{FieldKind}
use Rattle.row_model.specs.declared.row.Value.{Value}
use Rattle.schema_model.specs.declared.reason.Reason.{Reason}
use Rattle.object_codec.specs.Part.{FieldPart, SpellsValue, FailsValue}
use Rattle.object_codec.specs.ObjectPlace.{part_at, SpellsObject, FailsObject}

-- Each byte is below 128.
abbrev pub ArePlain : List ℕ → Type 0
ArePlain bytes = (k : ℕ) → k < length bytes → slice_index bytes k < 128

-- Each byte of each field is below 128.
abbrev pub HavePlain : List (List ℕ) → Type 0
HavePlain areas = (field : ℕ) → ArePlain (area_of areas field)

-- Whether a field has a value is told without its bytes: those of a STRING are all below 128.
abbrev pub IsToldByParts : FieldKind → List ℕ → Type 0
IsToldByParts FieldKind.Text area = ArePlain area
IsToldByParts _ area = Unit {0}

-- What a field has at each place.
abbrev pub parts_in : List ℕ → ℕ → ℕ → ℕ → List ℕ → ℕ → FieldPart
parts_in first size before width area place = part_at first size place before width area

-- A field has a value at each of the first so many of the places.
abbrev pub HaveValues : FieldKind → (ℕ → FieldPart) → List ℕ → ℕ → Type 0
HaveValues kind part places count = (k : ℕ) → k < count → (value : Value) × SpellsValue kind (part (slice_index places k)) value

-- A field has no value at the place at an index, for this reason, and one at each place before it.
pub record IsFirstBad (kind : FieldKind) (part : ℕ → FieldPart) (places : List ℕ) (found : ℕ × Reason) : Type 0 where
  pub inside : found.0 < length places
  pub earlier : HaveValues kind part places found.0
  pub fails : FailsValue kind (part (slice_index places found.0)) found.1

-- What each answer to the test of a field tells.
abbrev pub TellsColumn : FieldKind → (ℕ → FieldPart) → List ℕ → Option (ℕ × Reason) → Type 0
TellsColumn kind part places found = MatchOption found (HaveValues kind part places (length places)) (IsFirstBad kind part places)

-- The first so many of the places spell a record each.
abbrev pub SpellSome : List Field → List ℕ → List ℕ → List (List ℕ) → List ℕ → ℕ → Type 0
SpellSome fields widths first areas places count = (k : ℕ) → k < count → (values : List Value) × SpellsObject fields widths first areas (slice_index places k) values

-- A place spells no record, for this reason, and those before it each spell one.
pub record IsFirstFault (fields : List Field) (widths first : List ℕ) (areas : List (List ℕ)) (places : List ℕ) (found : ℕ × Reason) : Type 0 where
  pub index : ℕ
  pub inside : index < length places
  pub is : slice_index places index ≡ found.0
  pub earlier : SpellSome fields widths first areas places index
  pub fails : FailsObject fields widths first areas found.0 found.1

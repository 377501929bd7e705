-- When a place of a section has what a place of another one has: the same bits, elements, buckets or bytes, from another start on.
use Rattle.std.specs.Prelude.{◌≡◌, ◌↔◌, ℕ, ◌+◌, ◌-◌, ◌*◌, ◌≤◌, List, [], ◌∷◌, length, All, sum}
use Rattle.bit_array.specs.Element.{element_of}
use Rattle.schema_model.specs.declared.schema.Field.{Field}
use Rattle.schema_model.specs.declared.schema.FieldKind.{FieldKind}
use Rattle.object_codec.specs.Packing.{HasBytes}
use Rattle.object_codec.specs.Part.{FieldPart, HasNullBit, IsOnes, end_of, span_of}
use Rattle.list_codec.specs.ListPlace.{element_width, start_at as list_start, end_at as list_end}
use Rattle.bucket_codec.specs.BucketPlace.{bucket_width, key_width, value_width, size_at, start_at as run_start, end_at as run_end}
use Rattle.type_rows.specs.declared.section.Section.{Section}

-- So many bits from a bit on are those from another bit on in other words.
abbrev pub SameBits : List ℕ → ℕ → List ℕ → ℕ → ℕ → Type 0
SameBits words at others there bits = element_of others there bits ≡ element_of words at bits

-- No field has bytes.
abbrev pub HaveNoBytes : List Field → Type 0
HaveNoBytes fields = All (λ field. HasBytes field.kind → ⊥) fields

-- The record at a place has the same bits at a place of another section.
pub record IsSameRecord (section : Section) (place : ℕ) (other : Section) (there : ℕ) : Type 0 where
  pub widths : other.widths ≡ section.widths
  pub areas : length other.areas ≡ length section.areas
  pub bits : SameBits section.first (place * sum section.widths) other.first (there * sum section.widths) (sum section.widths)

-- A STRING or BYTES has the same bytes in another area, from another start on, or both are null.
pub record IsSameSpan (part other : FieldPart) : Type 0 where
  pub null : HasNullBit part ↔ HasNullBit other
  pub ends : end_of other ≡ other.start + (end_of part - part.start)
  pub inside : end_of other ≤ length other.area
  pub bytes : span_of other ≡ span_of part

-- An INT, LONG or REFERENCE has the same element, in a width that may be another one, or both are null.
pub record IsSameNumber (part other : FieldPart) : Type 0 where
  pub null : IsOnes part.width part.element ↔ IsOnes other.width other.element
  pub number : (IsOnes part.width part.element → ⊥) → other.element ≡ part.element

-- The parts of two records in a field of this kind have the same number or the same bytes.
abbrev pub IsSamePart : FieldKind → FieldPart → FieldPart → Type 0
IsSamePart (FieldKind.Reference name) part other = IsSameNumber part other
IsSamePart FieldKind.Int part other = IsSameNumber part other
IsSamePart FieldKind.Long part other = IsSameNumber part other
IsSamePart FieldKind.Boolean part other = other.element ≡ part.element
IsSamePart FieldKind.Text part other = IsSameSpan part other
IsSamePart FieldKind.Bytes part other = IsSameSpan part other

-- So it is in each field.
abbrev pub AreSameParts : List Field → List FieldPart → List FieldPart → Type 0
AreSameParts [] [] [] = Unit {0}
AreSameParts (field ∷ fields) (part ∷ parts) (other ∷ others) = IsSamePart field.kind part other × AreSameParts fields parts others
AreSameParts _ _ _ = ⊥

-- The list at a place has the same elements at a place of another section.
pub record IsSameList (section : Section) (place : ℕ) (other : Section) (there : ℕ) : Type 0 where
  pub width : element_width other.widths ≡ element_width section.widths
  pub ends : list_end other.widths other.first there ≡ list_start other.widths other.first there + (list_end section.widths section.first place - list_start section.widths section.first place)
  pub within : list_end other.widths other.first there ≤ other.total
  pub held : list_end other.widths other.first there * element_width section.widths ≤ 64 * length other.second
  pub bits : SameBits section.second (list_start section.widths section.first place * element_width section.widths)
      other.second (list_start other.widths other.first there * element_width section.widths)
      ((list_end section.widths section.first place - list_start section.widths section.first place) * element_width section.widths)

-- The set or map at a place has the same size and the same buckets at a place of another section.
pub record IsSameRun (section : Section) (place : ℕ) (other : Section) (there : ℕ) : Type 0 where
  pub keys : key_width other.widths ≡ key_width section.widths
  pub values : value_width other.widths ≡ value_width section.widths
  pub size : size_at other.widths other.first there ≡ size_at section.widths section.first place
  pub ends : run_end other.widths other.first there ≡ run_start other.widths other.first there + (run_end section.widths section.first place - run_start section.widths section.first place)
  pub within : run_end other.widths other.first there ≤ other.total
  pub held : run_end other.widths other.first there * bucket_width section.widths ≤ 64 * length other.second
  pub bits : SameBits section.second (run_start section.widths section.first place * bucket_width section.widths)
      other.second (run_start other.widths other.first there * bucket_width section.widths)
      ((run_end section.widths section.first place - run_start section.widths section.first place) * bucket_width section.widths)

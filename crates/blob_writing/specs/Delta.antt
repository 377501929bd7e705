-- The delta that is written of some changed types: its bytes, and what is read of them.
use Rattle.std.specs.Prelude.{◌≡◌, ◌≤◌, ◌<◌, ◌+◌, ◌^◌, ℕ, ℤ, List, [], ◌++◌, Option, All, FitsSigned, length, map, flat_map}
use Rattle.std.specs.Int.{w64}
use Rattle.std.specs.Str.{IsUtf8}
use Rattle.std.specs.List.Sorted.{IsStrictlyIncreasing}
use Rattle.hol_varint.specs.Varint.{varint_bytes}
use Rattle.schema_model.specs.declared.schema.Schema.{Schema}
use Rattle.schema_model.specs.Schema.{EachName, IsSpellable}
use Rattle.blob_frame.specs.declared.header.Header.{Header}
use Rattle.blob_frame.specs.Written.{schema_list_bytes, header_bytes}
use Rattle.blob_sections.specs.declared.section.PackedRows.{PackedRows}
use Rattle.blob_writing.specs.Carried.{IsMax, FitGaps, AreCarried}
use Rattle.blob_writing.specs.Placed.{placed}
use Rattle.blob_writing.specs.Written.{delta_type_bytes}
use Rattle.delta_blob.specs.declared.part.DeltaPart.{DeltaPart}
use Rattle.delta_blob.specs.Parts.{patch_with}

-- What a delta carries of a type: its schema, the max ordinal, the ordinals that it removes and adds, and the packed rows of
-- the added ones.
pub record TypeChange : Type 0 where
  pub schema : Schema
  pub max : Option ℕ
  pub removed : List ℕ
  pub added : List ℕ
  pub rows : PackedRows

-- A list of ordinals that a delta can carry: it rises, and its numbers and those of its bytes fit.
pub record AreGaps (list : List ℕ) : Type 0 where
  pub rising : IsStrictlyIncreasing list
  pub small : All (λ ordinal. ordinal < 2 ^ 32) list
  pub few : FitGaps list

-- A change that a delta can carry, with words for a place of each added ordinal.
pub record IsCarried (change : TypeChange) : Type 0 where
  pub spellable : IsSpellable change.schema
  pub texts : EachName IsUtf8 change.schema
  pub max : IsMax change.max
  pub removed : AreGaps change.removed
  pub added : AreGaps change.added
  pub rows : AreCarried change.schema.shape change.max (length change.added) change.rows

-- the schemas of the changed types
abbrev pub schemas_of : List TypeChange → List Schema
schemas_of changes = map (λ change. change.schema) changes

-- the bytes of a changed type
abbrev pub change_bytes : TypeChange → List ℕ
change_bytes change = delta_type_bytes change.schema change.max change.removed change.added change.rows

-- the types behind the header: their number, and each of them
abbrev pub body_bytes : List TypeChange → List ℕ
body_bytes changes = varint_bytes (length changes) ++ flat_map change_bytes changes

-- the bytes of a delta between these tags: a header with the schemas of the changed types, and these types
abbrev pub delta_bytes : ℤ → ℤ → List TypeChange → List ℕ
delta_bytes origin destination changes = header_bytes origin destination (schemas_of changes) ++ body_bytes changes

-- The blob is the delta that is written of these changes, which it can carry.
pub record IsWrittenDelta (blob : List ℕ) (origin destination : ℤ) (changes : List TypeChange) : Type 0 where
  pub is : blob ≡ delta_bytes origin destination changes
  pub from_tag : FitsSigned w64 origin
  pub to_tag : FitsSigned w64 destination
  pub few : length changes ≤ 512
  pub short : length (schema_list_bytes (schemas_of changes)) ≤ 2 ^ 28
  pub carried : All IsCarried changes

-- the header of it
abbrev pub header_of : ℤ → ℤ → List TypeChange → Header
header_of origin destination changes = record { origin = origin; destination = destination; schemas = schemas_of changes; tags = [] }

-- what is read of a changed type that stands at this offset
abbrev pub part_of : TypeChange → ℕ → DeltaPart
part_of change at = record { at = at; schema = change.schema; section = patch_with change.schema.shape change.max change.removed change.added change.rows }

-- what is read of all of them: the first stands behind the header and the number of types
abbrev pub parts_of : ℤ → ℤ → List TypeChange → List DeltaPart
parts_of origin destination changes = placed change_bytes part_of changes
    (length (header_bytes origin destination (schemas_of changes)) + length (varint_bytes (length changes)))

-- What a consumer takes from the section of a type in a delta: the layout, what counts of a record, and the rows of the added ordinals.
use Rattle.std.specs.Prelude.{◌≡◌, ℕ, List, Some, length, slice_get}
use Rattle.std.specs.List.{AllZip}
use Rattle.schema_model.specs.declared.schema.Field.{Field}
use Rattle.schema_model.specs.declared.schema.Shape.{Shape}
use Rattle.schema_model.specs.Parts.{shape_fields}
use Rattle.row_model.specs.declared.row.Row.{Row}
use Rattle.type_rows.specs.declared.patch.PatchSection.{PatchSection}
use Rattle.type_rows.specs.Layout.{Layout}
use Rattle.type_rows.specs.Patches.{places_in}
use Rattle.type_rows.specs.WellFormed.{IsWidth}
use Rattle.seen_patches.specs.Seen.{seen_widths, shared_bits}
use Rattle.seen_patches.specs.Spelling.{SpellsSeen}

-- The section of a record has a width and an area for each field, as each has that stands in a blob. Those of other kinds have no fields.
abbrev pub HasColumns : Shape → PatchSection → Type 0
HasColumns (Shape.Object key fields) section = AllZip (λ (field : Field) width. IsWidth section.max field.kind width) fields section.widths × (length section.areas ≡ length fields)
HasColumns _ section = Unit {0}

-- The widths of a type: of a record those of the consumer's fields, by their names, and of the other kinds those of the blob.
abbrev pub widths_of : Shape → Shape → List ℕ → List ℕ
widths_of (Shape.Object key mine) theirs widths = seen_widths mine (shape_fields theirs) widths
widths_of mine theirs widths = widths

-- The layout: the blob's max ordinal, and these widths.
abbrev pub layout_for : Shape → Shape → PatchSection → Layout
layout_for mine theirs section = record { max = section.max; widths = widths_of mine theirs section.widths }

-- How many bits of a record the limit on words counts: those of the fields that both have. The other kinds have none.
abbrev pub own_for : Shape → Shape → List ℕ → ℕ
own_for (Shape.Object key mine) theirs widths = shared_bits mine (shape_fields theirs) widths
own_for mine theirs widths = 0

-- The max ordinal and the ordinals stay as they are.
pub record KeepsOrdinals (raw seen : PatchSection) : Type 0 where
  pub max : seen.max ≡ raw.max
  pub removed : seen.removed ≡ raw.removed
  pub added : seen.added ≡ raw.added

-- The places of the section spell these rows for the consumer, one for each added ordinal.
pub record AddsSeen (mine theirs : Shape) (section : PatchSection) (rows : List Row) : Type 0 where
  pub each : length rows ≡ length section.added
  pub spelled : (place : ℕ) (row : Row) → slice_get rows place ≡ Some row → SpellsSeen mine theirs (places_in section) place row

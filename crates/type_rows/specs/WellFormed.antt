-- When a section of a blob is well formed, and when it can be read.
use Rattle.std.specs.Prelude.{◌≡◌, ℕ, ◌^◌, ◌<◌, ◌≤◌, List, Option, Some, None, length, All}
use Rattle.std.specs.List.{AllZip}
use Rattle.schema_model.specs.declared.limit.Limit.TheVariants.{Ordinals, Items}
use Rattle.schema_model.specs.declared.schema.FieldKind.{FieldKind}
use Rattle.schema_model.specs.declared.schema.Shape.{Shape}
use Rattle.schema_model.specs.Limit.{number_of_limit}
use Rattle.schema_model.specs.Parts.{shape_fields}
use Rattle.object_codec.specs.ObjectPlace.{IsKindWidth}
use Rattle.type_rows.specs.declared.section.Section.{Section}
use Rattle.type_rows.specs.Layout.{places_of, width_count, words_needed}
use Rattle.type_rows.specs.Loads.{layout_of}

-- A field of this kind may have this width: 64 at most, and where there are places 2 for a BOOLEAN and 1 at least for a STRING or BYTES.
abbrev pub IsWidth : Option ℕ → FieldKind → ℕ → Type 0
IsWidth None kind width = width ≤ 64
IsWidth (Some max) kind width = (width ≤ 64) × IsKindWidth kind width

-- A type of this shape may have these widths: one for each field of an OBJECT, and of the other kinds as many as the kind has, each 64 at most.
abbrev pub AreWidths : Shape → Option ℕ → List ℕ → Type 0
AreWidths (Shape.Object key fields) max widths = AllZip (λ field width. IsWidth max field.kind width) fields widths
AreWidths shape max widths = (length widths ≡ width_count shape) × All (λ width. width ≤ 64) widths

-- The widths are those that the kind may have, each field has an area, there are no fewer words than the places need, and the bits of the
-- elements or buckets can be counted.
pub record IsWellFormed (shape : Shape) (section : Section) : Type 0 where
  pub wide : AreWidths shape section.max section.widths
  pub filled : length section.areas ≡ length (shape_fields shape)
  pub enough : words_needed shape (layout_of section) ≤ length section.first
  pub short : length section.second < 2 ^ 58

-- The section can be read: it is well formed, of a type of few fields, and its max ordinal and its total keep their limits.
pub record IsReadable (shape : Shape) (section : Section) : Type 0 where
  pub well : IsWellFormed shape section
  pub many : length (shape_fields shape) ≤ 1024
  pub few : places_of section.max ≤ number_of_limit Ordinals
  pub items : section.total ≤ number_of_limit Items

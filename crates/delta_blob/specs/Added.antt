-- The packed rows of a delta: those of the added ordinals, each at the place of its number among them. So a section has words
-- for as many places as ordinals are added, whatever the max ordinal is; which widths a field may have goes by that.
use Rattle.std.specs.Prelude.{◌≡◌, ◌≤◌, ◌<◌, ◌*◌, ◌^◌, ℕ, List, [], Option, length}
use Rattle.bit_array.specs.Element.{words_of}
use Rattle.schema_model.specs.declared.schema.Shape.{Shape}
use Rattle.schema_model.specs.Parts.{shape_fields}
use Rattle.type_rows.specs.Layout.{place_bits}
use Rattle.type_rows.specs.WellFormed.{AreWidths}
use Rattle.blob_grammar.specs.Form.{Form, ◌>>=◌, nothing, repeated}
use Rattle.blob_frame.specs.Item.{vlong, counted_run}
use Rattle.blob_sections.specs.declared.section.PackedRows.{PackedRows}
use Rattle.blob_sections.specs.Section.{word_array}
use Rattle.blob_sections.specs.Width.{field_widths, part_widths}

-- The words that so many places need.
abbrev pub words_for : Shape → ℕ → List ℕ → ℕ
words_for shape places widths = words_of (places * place_bits shape widths)

-- The packed rows of an OBJECT, at so many places.
unfoldable pub added_records : Shape → Option ℕ → ℕ → Form PackedRows
added_records shape max places = do
  widths ← field_widths shape max
  records ← word_array (words_for shape places widths)
  areas ← repeated (length (shape_fields shape)) counted_run
  nothing (record { widths = widths; total = 0; packed = record { first = records; second = []; areas = areas } })

-- Those of a LIST, SET or MAP.
unfoldable pub added_runs : Shape → ℕ → Form PackedRows
added_runs shape places = do
  widths ← part_widths shape
  total ← vlong
  pointers ← word_array (words_for shape places widths)
  items ← word_array 0
  nothing (record { widths = widths; total = total; packed = record { first = pointers; second = items; areas = [] } })

-- The packed rows of a type of this shape.
unfoldable pub added_rows : Shape → Option ℕ → ℕ → Form PackedRows
added_rows (Shape.Object key fields) max places = added_records (Shape.Object key fields) max places
added_rows shape max places = added_runs shape places

-- Packed rows are well formed at so many places: the widths are those that the kind may have, each field has an area, there are no fewer words
-- than the places need, and the bits of the elements or buckets can be counted.
pub record ArePlaced (shape : Shape) (max : Option ℕ) (places : ℕ) (rows : PackedRows) : Type 0 where
  pub wide : AreWidths shape max rows.widths
  pub filled : length rows.packed.areas ≡ length (shape_fields shape)
  pub enough : words_for shape places rows.widths ≤ length rows.packed.first
  pub short : length rows.packed.second < 2 ^ 58

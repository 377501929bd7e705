-- The items of a section that a snapshot and a delta have: the max ordinal, and the packed rows, by the type's kind.
use Rattle.std.specs.Prelude.{◌≡◌, ◌≤◌, ◌<◌, ◌==◌, ◌-◌, ◌^◌, ℕ, List, [], Option, Some, None, length, if◌then◌else◌}
use Rattle.std.specs.Int.{w64}
use Rattle.schema_model.specs.declared.reason.Reason.TheVariants.{BadLength}
use Rattle.schema_model.specs.declared.schema.Shape.{Shape}
use Rattle.schema_model.specs.Parts.{shape_fields}
use Rattle.type_rows.specs.declared.section.Section.{Section}
use Rattle.type_rows.specs.Layout.{words_needed}
use Rattle.blob_grammar.specs.Deciding.{judge_as, judge_at_least}
use Rattle.blob_grammar.specs.Form.{Form, ◌>>=◌, nothing, judged, repeated, counted}
use Rattle.blob_frame.specs.Item.{fixed, vint, vlong, counted_run}
use Rattle.blob_sections.specs.declared.section.PackedRows.{PackedRows}
use Rattle.blob_sections.specs.Width.{field_widths, part_widths}

-- the max ordinal of its number: -1, the greatest VInt, is none
abbrev pub max_of : ℕ → Option ℕ
max_of n = if n == 2 ^ 32 - 1 then None else Some n

-- The greatest ordinal that has a place.
unfoldable pub max_ordinal : Form (Option ℕ)
max_ordinal = judged vint (λ n max. max ≡ max_of n) (λ n why. ⊥) (judge_as max_of)

-- A count that is no less than this.
unfoldable pub at_least : ℕ → Form ℕ
at_least least = judged vlong (λ n m. (m ≡ n) × (least ≤ n)) (λ n why. (n < least) × (why ≡ BadLength)) (judge_at_least least BadLength)

-- A word array: the count of its words, which is no less than this, and each of them.
unfoldable pub word_array : ℕ → Form (List ℕ)
word_array least = counted (at_least least) (fixed w64)

-- The packed rows of an OBJECT: the widths of its fields, the words of the records, and the variable bytes of each field.
unfoldable pub packed_records : Shape → Option ℕ → Form PackedRows
packed_records shape max = do
  widths ← field_widths shape max
  records ← word_array (words_needed shape (record { max = max; widths = widths }))
  areas ← repeated (length (shape_fields shape)) counted_run
  nothing (record { widths = widths; total = 0; packed = record { first = records; second = []; areas = areas } })

-- Those of a LIST, SET or MAP: its widths, the number of its elements or buckets, the words of the pointers, with those of
-- the sizes of a SET or MAP, and the words of the elements or buckets, of which there may be any number.
unfoldable pub packed_runs : Shape → Option ℕ → Form PackedRows
packed_runs shape max = do
  widths ← part_widths shape
  total ← vlong
  pointers ← word_array (words_needed shape (record { max = max; widths = widths }))
  items ← word_array 0
  nothing (record { widths = widths; total = total; packed = record { first = pointers; second = items; areas = [] } })

-- The packed rows of a type of this shape, under this max ordinal.
unfoldable pub packed_rows : Shape → Option ℕ → Form PackedRows
packed_rows (Shape.Object key fields) max = packed_records (Shape.Object key fields) max
packed_rows shape max = packed_runs shape max

-- The section of a max ordinal, packed rows and live ordinals.
abbrev pub section_with : Option ℕ → PackedRows → List ℕ → Section
section_with max rows live = record {
  max = max;
  widths = rows.widths;
  total = rows.total;
  first = rows.packed.first;
  second = rows.packed.second;
  areas = rows.packed.areas;
  live = live;
}

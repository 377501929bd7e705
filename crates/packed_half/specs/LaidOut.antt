-- When the words of a half are those of some rows: each place spells its row, and nothing stands between the rows.
use Rattle.std.specs.Prelude.{◌≡◌, ℕ, ◌+◌, ◌^◌, ◌<◌, ◌≤◌, List, length, map, Option, None, Some, IsSome}
use Rattle.std.specs.List.{AllZip, range_with_len}
use Rattle.std.specs.FinMap.{get, values}
use Rattle.schema_model.specs.declared.schema.Shape.{Shape}
use Rattle.schema_model.specs.Parts.{shape_fields}
use Rattle.row_model.specs.declared.row.Row.{Row}
use Rattle.row_model.specs.Table.{RowMap}
use Rattle.object_codec.specs.ObjectPlace.{parts_of}
use Rattle.object_codec.specs.Packing.{IsGap}
use Rattle.list_codec.specs.ListPlace as list
use Rattle.bucket_codec.specs.BucketPlace as bucket
use Rattle.type_rows.specs.declared.section.Section.{Section}
use Rattle.type_rows.specs.Layout.{places_of, items_of_row, item_count}
use Rattle.type_rows.specs.Loads.{SectionIs}
use Rattle.type_rows.specs.WellFormed.{AreWidths}
use Rattle.type_rows.specs.WordsHeld.{field_bytes}
use Rattle.packed_half.specs.declared.half.HalfShape.{HalfShape}
use Rattle.packed_half.specs.Half.{words_for, section_in}

-- How many bytes each field of an OBJECT has in some rows; the other kinds have no fields.
abbrev pub lengths_of : Shape → List Row → List ℕ
lengths_of shape rows = map (λ field. field_bytes field rows) (range_with_len 0 (length (shape_fields shape)))

-- The run of a place of a SET or MAP has as many buckets as its row takes; without a row it has none, and the size 0.
abbrev pub IsTightRun : Section → ℕ → Option Row → Type 0
IsTightRun section place None =
    (bucket.end_at section.widths section.first place ≡ bucket.start_at section.widths section.first place) × (bucket.size_at section.widths section.first place ≡ 0)
IsTightRun section place (Some row) =
    bucket.end_at section.widths section.first place ≡ bucket.start_at section.widths section.first place + items_of_row row

-- A place takes no more than its row. Without a row its bits are zero, but that each offset or pointer is that of the place before.
abbrev pub IsTight : Shape → Section → ℕ → Option Row → Type 0
IsTight (Shape.Object key fields) section place None = AllZip (λ field part. IsGap field.kind part) fields (parts_of section.widths section.first section.areas place)
IsTight (Shape.Object key fields) section place (Some row) = Unit {0}
IsTight (Shape.List element) section place None = list.end_at section.widths section.first place ≡ list.start_at section.widths section.first place
IsTight (Shape.List element) section place (Some row) = Unit {0}
IsTight (Shape.Set element) section place row = IsTightRun section place row
IsTight (Shape.Map key value) section place row = IsTightRun section place row

-- The words are those of these rows: as many as the half takes, the half seen as a section is that of the rows, each place takes no more than its
-- row, and the total and the lengths are those of the rows. The widths are those that the kind may have, and the words are so few that each bit
-- has a number of 64 bits.
pub record IsLaidOut (shape : Shape) (half : HalfShape) (words : List ℕ) (rows : RowMap) : Type 0 where
  pub is : SectionIs shape (section_in shape half words) rows
  pub tight : (place : ℕ) → place < places_of half.max → IsTight shape (section_in shape half words) place (get rows place)
  pub long : length words ≡ words_for shape half
  pub total : half.total ≡ item_count (values rows)
  pub lengths : half.lengths ≡ lengths_of shape (values rows)
  pub wide : AreWidths shape half.max half.widths
  pub many : length (shape_fields shape) ≤ 1024
  pub short : length words < 2 ^ 58

-- The words are those of some rows.
abbrev pub HasRows : Shape → HalfShape → List ℕ → Type 0
HasRows shape half words = (rows : RowMap) × IsLaidOut shape half words rows

-- They are those of some rows, one of which stands under this ordinal.
abbrev pub HasRowUnder : Shape → HalfShape → List ℕ → ℕ → Type 0
HasRowUnder shape half words ordinal = (rows : RowMap) × IsLaidOut shape half words rows × IsSome (get rows ordinal)

-- Which rows can be laid out in the words of a half.
use Rattle.std.specs.Prelude.{◌≡◌, ℕ, ◌+◌, ◌*◌, ◌^◌, ◌<◌, ◌≤◌, List, length, map, Option, Some}
use Rattle.std.specs.List.{range_with_len}
use Rattle.std.specs.FinMap.{get, keys, values}
use Rattle.bit_array.specs.Element.{number_of}
use Rattle.bucket_codec.specs.BucketPlace as bucket
use Rattle.bucket_codec.specs.BucketPlace.{HoldsPointers}
use Rattle.bucket_codec.specs.Filled.{KeepsFront}
use Rattle.bucket_codec.specs.Packed.{buckets_of, IsWritable, PacksPairs}
use Rattle.list_codec.specs.ListPlace.{end_at, element_width, pointer_width, SpellsList}
use Rattle.schema_model.specs.declared.limit.Limit.TheVariants.{Bytes, Ordinals}
use Rattle.schema_model.specs.declared.schema.Shape.{Shape}
use Rattle.schema_model.specs.Limit.{number_of_limit}
use Rattle.schema_model.specs.Parts.{shape_fields}
use Rattle.row_model.specs.Row.{FitsShape, stored_row}
use Rattle.row_model.specs.Table.{RowMap}
use Rattle.row_model.specs.declared.row.Row.{Row}
use Rattle.type_rows.specs.Ends.{AreOfKind}
use Rattle.type_rows.specs.Holds.{Holds}
use Rattle.type_rows.specs.Layout.{places_of, item_count}
use Rattle.type_rows.specs.declared.section.Section.{Section}
use Rattle.type_rows.specs.Loads.{Spells}
use Rattle.type_rows.specs.WellFormed.{AreWidths}
use Rattle.type_rows.specs.WordsHeld.{bytes_held}
use Rattle.packed_half.specs.declared.half.HalfShape.{HalfShape}
use Rattle.packed_half.specs.Half.{layout_in, words_for}
use Rattle.packed_half.specs.LaidOut.{lengths_of, IsTight}

-- The rows of the places up to a number: place k is that of ordinal k, and has none where no row is live there.
abbrev pub places_in : RowMap → ℕ → List (Option Row)
places_in rows count = map (get rows) (range_with_len 0 count)

-- What each row satisfies.
abbrev pub EachRowOf : RowMap → (Row → Type 0) → Type 0
EachRowOf rows P = (ordinal : ℕ) (row : Row) → get rows ordinal ≡ Some row → P row

-- The rows can be laid out in the half: their ordinals are its live ones, its layout holds them, and its total and its lengths are theirs. Each row
-- fits the type, and a blob can hold it: it has no least INT and no least LONG. The limit on bytes is kept, and the words can be counted; the limit
-- on words may be passed, by fields that it does not count.
pub record CanLay (shape : Shape) (half : HalfShape) (rows : RowMap) : Type 0 where
  pub live : keys rows ≡ half.live
  pub held : Holds shape (layout_in half) rows
  pub total : half.total ≡ item_count (values rows)
  pub lengths : half.lengths ≡ lengths_of shape (values rows)
  pub wide : AreWidths shape half.max half.widths
  pub fits : EachRowOf rows (FitsShape shape)
  pub kinds : AreOfKind shape rows
  pub stored : EachRowOf rows (λ row. stored_row row ≡ row)
  pub many : length (shape_fields shape) ≤ 1024
  pub few : places_of half.max ≤ number_of_limit Ordinals
  pub bytes : bytes_held (values rows) ≤ number_of_limit Bytes
  pub room : words_for shape half < 2 ^ 58

-- A half as a section with these parts.
abbrev pub parts_in : HalfShape → List ℕ → List ℕ → List (List ℕ) → Section
parts_in half first second areas =
    record { max = half.max; widths = half.widths; total = half.total; first = first; second = second; areas = areas; live = half.live }

-- The parts are those of these rows: each place spells its row, and takes no more.
pub record ArePlaced (shape : Shape) (half : HalfShape) (rows : RowMap) (first second : List ℕ) (areas : List (List ℕ)) : Type 0 where
  pub spelled : (ordinal : ℕ) (row : Row) → get rows ordinal ≡ Some row → Spells shape (parts_in half first second areas) ordinal row
  pub tight : (place : ℕ) → place < places_of half.max → IsTight shape (parts_in half first second areas) place (get rows place)

-- A type of this shape has sets or maps.
abbrev pub HasRuns : Shape → Type 0
HasRuns (Shape.Set element) = Unit {0}
HasRuns (Shape.Map key value) = Unit {0}
HasRuns _ = ⊥

-- Sets or maps that can be laid out.
abbrev pub CanLayRuns : HalfShape → RowMap → Type 0
CanLayRuns half rows = (shape : Shape) × HasRuns shape × CanLay shape half rows

-- A list is written at a place, its elements from a start up to an end, counted in elements: the place spells it, those before whose ends are not
-- above the start spell what they spelled, and no bit is behind the place, and none behind the end.
pub record IsListPut (widths old_first old_second first second : List ℕ) (place start end : ℕ) (elements : List ℕ) : Type 0 where
  pub ends : end ≡ start + length elements
  pub pointer : end_at widths first place ≡ end
  pub spelled : SpellsList widths end first second place elements
  pub earlier : (before total : ℕ) (list : List ℕ) → before < place → total ≤ start → SpellsList widths total old_first old_second before list → SpellsList widths total first second before list
  pub pointer_bits : number_of old_first < 2 ^ (place * pointer_width widths) → number_of first < 2 ^ ((place + 1) * pointer_width widths)
  pub element_bits : number_of old_second < 2 ^ (start * element_width widths) → number_of second < 2 ^ (end * element_width widths)

-- The set or map of a place can be written there, if it has one, with its buckets from a start on: the widths hold it, and there are the words.
pub record HasRunRoom (widths first second : List ℕ) (place start : ℕ) (row : Option Row) : Type 0 where
  pub three : 3 ≤ length widths
  pub holds : HoldsPointers widths first place
  pub writable : IsWritable widths row
  pub starts : bucket.start_at widths first place ≡ start
  pub pointer : start + buckets_of row < 2 ^ bucket.pointer_width widths
  pub inside : (start + buckets_of row) * bucket.bucket_width widths ≤ 64 * length second
  pub bits : 64 * length second < 2 ^ 64

-- It is written, its buckets from a start up to an end, counted in buckets: the place has it, and no bit of the places and buckets before has changed.
pub record IsRunPut (widths old_first old_second first second : List ℕ) (place start end : ℕ) (row : Option Row) : Type 0 where
  pub ends : end ≡ start + buckets_of row
  pub pointer : bucket.end_at widths first place ≡ end
  pub packed : PacksPairs widths end first second place row
  pub first_front : KeepsFront old_first first (place * bucket.place_width widths)
  pub second_front : KeepsFront old_second second (start * bucket.bucket_width widths)

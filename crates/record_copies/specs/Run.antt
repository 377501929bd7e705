-- The records of a run of places: as they stand in words, where there is room for them in others, and what these are when they are copied.
use Rattle.std.specs.Prelude.{◌≡◌, ℕ, ◌+◌, ◌-◌, ◌*◌, ◌^◌, ◌<◌, ◌≤◌, List, ◌++◌, length, map, sum, slice_get, slice_index, Option, Some}
use Rattle.std.specs.List.{AllZip, range_with_len}
use Rattle.std.specs.FinMap.{get}
use Rattle.bit_array.specs.Element.{number_of}
use Rattle.schema_model.specs.Parts.{shape_fields}
use Rattle.schema_model.specs.declared.schema.Field.{Field}
use Rattle.schema_model.specs.declared.schema.Shape.{Shape}
use Rattle.row_model.specs.Areas.{area_of}
use Rattle.row_model.specs.declared.row.Row.{Row}
use Rattle.row_model.specs.Table.{RowMap}
use Rattle.object_codec.specs.ObjectPlace.{IsFieldWidth}
use Rattle.object_codec.specs.Packing.{HasBytes, PacksPlace, StartsAtEnds, values_of_place}
use Rattle.object_codec.specs.Stored.{column, values_bytes}

-- What has the places from one up to another: rows, and none where no row is live.
abbrev pub rows_between : RowMap → ℕ → ℕ → List (Option Row)
rows_between rows place end = map (get rows) (range_with_len place (end - place))

-- The bytes of a field in these rows, behind one another.
abbrev pub run_bytes : RowMap → ℕ → ℕ → ℕ → List ℕ
run_bytes rows place end field = values_bytes (column field (map values_of_place (rows_between rows place end)))

-- Each place up to an end spells the row that has its ordinal, or is empty where none has. The words hold the places, and the widths are those that
-- the fields may have.
pub record AreStanding (shape : Shape) (widths first : List ℕ) (areas : List (List ℕ)) (end : ℕ) (rows : RowMap) : Type 0 where
  pub few : length (shape_fields shape) ≤ 1024
  pub wide : AllZip IsFieldWidth (shape_fields shape) widths
  pub filled : length areas ≡ length (shape_fields shape)
  pub within : end * sum widths ≤ 64 * length first
  pub below : end ≤ 2 ^ 32
  pub each : (place : ℕ) → place < end → PacksPlace shape widths first areas place (get rows place)

-- There is room for the rows of a run of places: the words hold the places, the bytes of each field go on where they end, and the end of the bytes
-- of all of them is below the null bit.
pub record HasRunRoom (shape : Shape) (widths first : List ℕ) (areas : List (List ℕ)) (place end : ℕ) (rows : RowMap) : Type 0 where
  pub rises : place ≤ end
  pub filled : length areas ≡ length (shape_fields shape)
  pub within : end * sum widths ≤ 64 * length first
  pub follows : StartsAtEnds (shape_fields shape) widths first areas place
  pub ends : (index : ℕ) (field : Field) → slice_get (shape_fields shape) index ≡ Some field → HasBytes field.kind
      → length (area_of areas index) + length (run_bytes rows place end index) < 2 ^ (slice_index widths index - 1)

-- The rows of a run are written: each of its places spells its row, or is empty, and those before spell what they spelled; the bytes of the rows are
-- behind those of the fields, where the place behind the run goes on; and no bit is behind the run.
pub record IsRunPut (shape : Shape) (widths old_first : List ℕ) (old_areas : List (List ℕ)) (first : List ℕ) (areas : List (List ℕ)) (place end : ℕ) (rows : RowMap) : Type 0 where
  pub packed : (at : ℕ) → place ≤ at → at < end → PacksPlace shape widths first areas at (get rows at)
  pub earlier : (before : ℕ) (row : Option Row) → before < place → PacksPlace shape widths old_first old_areas before row → PacksPlace shape widths first areas before row
  pub filled : length areas ≡ length old_areas
  pub grown : (field : ℕ) → field < length (shape_fields shape) → area_of areas field ≡ area_of old_areas field ++ run_bytes rows place end field
  pub follows : StartsAtEnds (shape_fields shape) widths first areas end
  pub bits : number_of old_first < 2 ^ (place * sum widths) → number_of first < 2 ^ (end * sum widths)

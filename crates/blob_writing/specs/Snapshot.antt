-- The snapshot that is written of a state that follows another one: its bytes, by what it carries of each type.
use Rattle.std.specs.Prelude.{◌≡◌, ◌<◌, ◌⊎◌, ◌^◌, ℕ, ℤ, List, ◌++◌, Option, Some, length, flat_map, slice_get, take}
use Rattle.std.specs.FinMap.{keys}
use Rattle.std.specs.List.{AllZip, range_with_len}
use Rattle.hol_varint.specs.Varint.{varint_bytes}
use Rattle.ordinal_set.specs.Population.{IsPopulation}
use Rattle.schema_model.specs.declared.schema.Schema.{Schema}
use Rattle.row_model.specs.Table.{Table}
use Rattle.row_model.specs.BothStates.{rows_in}
use Rattle.row_packing.specs.Chosen.{shape_at, IsChosen}
use Rattle.row_packing.specs.Packs.{PacksPlaces}
use Rattle.row_packing.specs.Places.{snapshot_places}
use Rattle.blob_frame.specs.Written.{header_bytes, schema_list_bytes}
use Rattle.blob_sections.specs.declared.section.PackedRows.{PackedRows}
use Rattle.blob_writing.specs.Carried.{FitBytes}
use Rattle.blob_writing.specs.Written.{snapshot_type_bytes}

-- What a snapshot carries of a type: its schema, the max ordinal, its packed rows, and the bytes of its population.
pub record TypeRows : Type 0 where
  pub schema : Schema
  pub max : Option ℕ
  pub rows : PackedRows
  pub population : List ℕ

-- the bytes of a type
abbrev pub type_bytes : TypeRows → List ℕ
type_bytes carried = snapshot_type_bytes carried.schema carried.max carried.rows carried.population

-- the types behind the header: their number, and each of them
abbrev pub body_bytes : List TypeRows → List ℕ
body_bytes types = varint_bytes (length types) ++ flat_map type_bytes types

-- the bytes of a snapshot between these tags: a header with all schemas, and the types
abbrev pub snapshot_bytes : ℤ → ℤ → List Schema → List TypeRows → List ℕ
snapshot_bytes origin destination schemas types = header_bytes origin destination schemas ++ body_bytes types

-- What is carried of the type at an index: the new rows at their places and their population, with the max ordinal, the widths and the total
-- that are chosen over both states.
pub record IsCarriedOf (schemas : List Schema) (old new : Table) (type_index : ℕ) (carried : TypeRows) : Type 0 where
  pub schema : slice_get schemas type_index ≡ Some carried.schema
  pub chosen : IsChosen (shape_at schemas type_index) old new type_index (record { max = carried.max; widths = carried.rows.widths; total = carried.rows.total })
  pub packed : PacksPlaces (shape_at schemas type_index) carried.rows.widths (snapshot_places new type_index carried.max) carried.rows.packed.first carried.rows.packed.second carried.rows.packed.areas
  pub fits : FitBytes carried.schema.shape carried.rows
  pub population : IsPopulation (keys (rows_in new type_index)) carried.max carried.population

-- What is carried of the types at these indexes.
abbrev pub AreCarriedOf : List Schema → Table → Table → List ℕ → List TypeRows → Type 0
AreCarriedOf schemas old new types carried = AllZip (IsCarriedOf schemas old new) types carried

-- The first of these types, behind what stands in front of them and their number, reach past 2^28 bytes.
abbrev pub IsFrontLong : List Schema → Table → Table → List ℕ → List ℕ → Type 0
IsFrontLong schemas old new types before =
    (count : ℕ) × (front : List TypeRows) × AreCarriedOf schemas old new (take count types) front × (2 ^ 28 < length (before ++ (varint_bytes (length types) ++ flat_map type_bytes front)))

-- The snapshot of the new state has more than 2^28 bytes: the list of its schemas has, or its header and the first of its types have.
abbrev pub IsLongSnapshot : List Schema → Table → Table → ℤ → ℤ → Type 0
IsLongSnapshot schemas old new origin destination =
    (2 ^ 28 < length (schema_list_bytes schemas)) ⊎ IsFrontLong schemas old new (range_with_len 0 (length schemas)) (header_bytes origin destination schemas)

-- The blob is the snapshot of the new state: it carries each type of the model.
pub record IsWrittenSnapshot (schemas : List Schema) (old new : Table) (origin destination : ℤ) (blob : List ℕ) : Type 0 where
  pub types : List TypeRows
  pub carried : AreCarriedOf schemas old new (range_with_len 0 (length schemas)) types
  pub is : blob ≡ snapshot_bytes origin destination schemas types

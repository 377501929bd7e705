-- The delta from an old to a new state of one model: which types change, and what it carries of each.
use Rattle.std.specs.Prelude.{◌≡◌, ◌<◌, ◌⊎◌, ◌↔◌, ◌^◌, ℕ, ℤ, List, ◌++◌, Some, Contains, flat_map, length, slice_get, take}
use Rattle.std.specs.FinMap.{keys}
use Rattle.std.specs.List.{AllZip}
use Rattle.ordinal_set.specs.Ordinals.{lacking}
use Rattle.schema_model.specs.declared.schema.Schema.{Schema}
use Rattle.row_model.specs.Row.{Rises}
use Rattle.row_model.specs.Table.{Table}
use Rattle.row_model.specs.BothStates.{rows_in}
use Rattle.row_packing.specs.Chosen.{shape_at, IsChosen}
use Rattle.row_packing.specs.Packs.{PacksPlaces}
use Rattle.row_packing.specs.Places.{places_under}
use Rattle.hol_varint.specs.Varint.{varint_bytes}
use Rattle.blob_frame.specs.Written.{header_bytes, schema_list_bytes, schemas_at}
use Rattle.blob_writing.specs.Carried.{FitBytes}
use Rattle.blob_writing.specs.Delta.{TypeChange, change_bytes, delta_bytes}

-- The rows of the type, or their ordinals, differ.
abbrev pub IsChanged : Table → Table → ℕ → Type 0
IsChanged old new type_index = rows_in old type_index ≡ rows_in new type_index → ⊥

-- The changed ones of so many types, in model order.
pub record AreChanged (count : ℕ) (old new : Table) (types : List ℕ) : Type 0 where
  pub rising : Rises types
  pub are : (type_index : ℕ) → Contains types type_index ↔ ((type_index < count) × IsChanged old new type_index)

-- the ordinals of the first state that the second one lacks
abbrev pub gone : Table → Table → ℕ → List ℕ
gone from to type_index = lacking (keys (rows_in from type_index)) (keys (rows_in to type_index))

-- What is carried of the type at an index: the ordinals that go and those that come, and the new rows under these, with the max ordinal, the
-- widths and the total that are chosen over both states.
pub record IsChangeOf (schemas : List Schema) (old new : Table) (type_index : ℕ) (change : TypeChange) : Type 0 where
  pub schema : slice_get schemas type_index ≡ Some change.schema
  pub chosen : IsChosen (shape_at schemas type_index) old new type_index (record { max = change.max; widths = change.rows.widths; total = change.rows.total })
  pub removed : change.removed ≡ gone old new type_index
  pub added : change.added ≡ gone new old type_index
  pub packed : PacksPlaces (shape_at schemas type_index) change.rows.widths (places_under new type_index change.added) change.rows.packed.first change.rows.packed.second change.rows.packed.areas
  pub fits : FitBytes change.schema.shape change.rows

-- What is carried of the types at these indexes.
abbrev pub AreChangesOf : List Schema → Table → Table → List ℕ → List TypeChange → Type 0
AreChangesOf schemas old new types changes = AllZip (IsChangeOf schemas old new) types changes

-- The first of these changes, behind what stands in front of them and their number, reach past 2^28 bytes.
abbrev pub IsFrontLong : List Schema → Table → Table → List ℕ → List ℕ → Type 0
IsFrontLong schemas old new types before =
    (count : ℕ) × (front : List TypeChange) × AreChangesOf schemas old new (take count types) front × (2 ^ 28 < length (before ++ (varint_bytes (length types) ++ flat_map change_bytes front)))

-- The delta has more than 2^28 bytes: the list of the schemas of the changed types has, or its header and the first of the changes have.
pub record IsLongDelta (schemas : List Schema) (old new : Table) (origin destination : ℤ) : Type 0 where
  pub types : List ℕ
  pub changed : AreChanged (length schemas) old new types
  pub long : (2 ^ 28 < length (schema_list_bytes (schemas_at schemas types))) ⊎ IsFrontLong schemas old new types (header_bytes origin destination (schemas_at schemas types))

-- The changes are those from the old to the new state.
pub record IsDeltaOf (schemas : List Schema) (old new : Table) (changes : List TypeChange) : Type 0 where
  pub types : List ℕ
  pub changed : AreChanged (length schemas) old new types
  pub carried : AreChangesOf schemas old new types changes

-- The blob is the delta between these tags from the old to the new state.
pub record IsDeltaBetween (schemas : List Schema) (old new : Table) (origin destination : ℤ) (blob : List ℕ) : Type 0 where
  pub changes : List TypeChange
  pub are : IsDeltaOf schemas old new changes
  pub is : blob ≡ delta_bytes origin destination changes

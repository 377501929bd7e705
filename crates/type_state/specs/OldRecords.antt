-- Records without STRING and BYTES that a type had, which stay packed one behind the other.
use Rattle.std.specs.Prelude.{◌≡◌, ℕ, ◌+◌, ◌*◌, ◌^◌, ◌<◌, ◌≤◌, List, [], length, map, slice_get, IsSome, Option, Some}
use Rattle.std.specs.FinMap.{get}
use Rattle.std.specs.List.Sorted.{IsStrictlyIncreasing}
use Rattle.std.specs.Coded.{Coded, coded_list}
use Rattle.std.specs.List.{range_with_len}
use Rattle.bit_array.specs.Element.{element_of}
use Rattle.schema_model.specs.Parts.{shape_fields}
use Rattle.schema_model.specs.declared.schema.Shape.{Shape}
use Rattle.row_model.specs.Table.{RowMap}
use Rattle.row_model.specs.declared.row.Row.{Row}
use Rattle.row_model.specs.contracts.row.Row as row_contract
use Rattle.object_codec.specs.ObjectPlace.{HoldsPlace, IsObject, SpellsObjectRow}
use Rattle.record_copies.specs.Fixed.{AreFixed}
use Rattle.packed_half.specs.declared.half.HalfShape.{HalfShape}
use Rattle.type_rows.specs.Loads.{parts_up_to}
use Rattle.type_rows.specs.Rows.{row_in}

abbrev pub rows_code : Coded (List Row)
rows_code = coded_list (row_contract.the_row).coded

-- The row of a place of records.
abbrev pub record_row : Shape → List ℕ → List ℕ → List (List ℕ) → ℕ → Row
record_row shape widths first areas place = row_in shape (parts_up_to widths 0 first [] areas place) place

-- The rows of the first places of records.
abbrev pub record_rows : Shape → List ℕ → List ℕ → List (List ℕ) → ℕ → List Row
record_rows shape widths first areas count = map (record_row shape widths first areas) (range_with_len 0 count)

-- Each of the first places of records can be read, and spells its row.
pub record AreSpelled (shape : Shape) (widths first : List ℕ) (areas : List (List ℕ)) (count : ℕ) : Type 0 where
  pub object : IsObject shape
  pub holds : (place : ℕ) → place < count → HoldsPlace (shape_fields shape) widths first areas place
  pub spelled : (place : ℕ) → place < count → SpellsObjectRow shape widths first areas place (record_row shape widths first areas place)

-- So many rows of a half may be packed, one at least: those of an OBJECT without STRING and BYTES, in a half that has places.
pub record CanPack (shape : Shape) (half : HalfShape) (count : ℕ) : Type 0 where
  pub some : 0 < count
  pub object : IsObject shape
  pub fixed : AreFixed (shape_fields shape)
  pub places : IsSome half.max
  pub few : count < 2 ^ 32

-- Some rows of a half may be copied one by one, one at least: records under rising ordinals, of a half that has places.
pub record CanCopyEach (shape : Shape) (half : HalfShape) (ordinals : List ℕ) : Type 0 where
  pub some : 0 < length ordinals
  pub object : IsObject shape
  pub places : IsSome half.max
  pub few : length ordinals < 2 ^ 32
  pub rises : IsStrictlyIncreasing ordinals

-- The rows under some ordinals.
abbrev pub rows_under : RowMap → List ℕ → List (Option Row)
rows_under rows ordinals = map (get rows) ordinals

-- The words hold the record of this size of each ordinal.
abbrev pub HoldsEach : List ℕ → ℕ → List ℕ → Type 0
HoldsEach words size ordinals = (place ordinal : ℕ) → slice_get ordinals place ≡ Some ordinal → ((ordinal + 1) * size ≤ 64 * length words) × ((ordinal + 1) * size < 2 ^ 64)

-- The places of some words have the records of this size that other words have under the ordinals.
abbrev pub HasCopies : List ℕ → ℕ → List ℕ → List ℕ → Type 0
HasCopies from size ordinals words = (place ordinal : ℕ) → slice_get ordinals place ≡ Some ordinal → element_of words (place * size) size ≡ element_of from (ordinal * size) size

-- The same, and the words hold all these places.
pub record AreCopies (from : List ℕ) (size : ℕ) (ordinals words : List ℕ) : Type 0 where
  pub long : length ordinals * size ≤ 64 * length words
  pub each : HasCopies from size ordinals words

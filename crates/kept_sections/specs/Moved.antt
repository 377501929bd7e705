-- Records of a type without STRING and BYTES, kept for the next state: copied as they stand, cleared where rows left, and written where rows came.
use Rattle.std.specs.Prelude.{ℕ, ◌≡◌, ◌+◌, ◌*◌, ◌^◌, ◌<◌, ◌≤◌, ◌↔◌, List, Some, Contains, length, min, sum}
use Rattle.bit_array.specs.Element.{number_of, words_of}
use Rattle.schema_model.specs.Parts.{shape_fields}
use Rattle.schema_model.specs.declared.schema.Shape.{Shape}
use Rattle.row_model.specs.Row.{stored_row}
use Rattle.row_model.specs.Table.{IsLive, Table, row_at}
use Rattle.row_model.specs.declared.row.Row.{Row}
use Rattle.object_codec.specs.ObjectPlace.{IsObject, SpellsObjectRow}
use Rattle.record_copies.specs.Fixed.{AreFixed, HasRecordRoom, record_at}
use Rattle.row_packing.specs.declared.chosen.Chosen.{Chosen}
use Rattle.row_packing.specs.Chosen.{IsLiveInEither}

-- The records of a type that were packed by the one choice can be taken up by the other one: they have no variable bytes, and their widths stay.
pub record CanMove (shape : Shape) (before chosen : Chosen) : Type 0 where
  pub object : IsObject shape
  pub fixed : AreFixed (shape_fields shape)
  pub widths : before.widths ≡ chosen.widths

-- The words hold the record of a place.
pub record IsPlaceIn (widths first : List ℕ) (place : ℕ) : Type 0 where
  pub within : (place + 1) * sum widths ≤ 64 * length first
  pub counted : (place + 1) * sum widths < 2 ^ 64

-- The records of the first places are those of other words, as many as both have; those behind are clear, and no bit stands behind the last place.
pub record AreCopied (widths from : List ℕ) (before places : ℕ) (first : List ℕ) : Type 0 where
  pub long : length first ≡ words_of (places * sum widths)
  pub copied : (place : ℕ) → place < min before places → record_at widths first place ≡ record_at widths from place
  pub clear : (place : ℕ) → min before places ≤ place → record_at widths first place ≡ 0
  pub behind : number_of first < 2 ^ (places * sum widths)

-- The record of each place that is not one of these has the bits that it had; and where no bit stood behind a limit at or behind all of these, none stands there.
pub record IsChangedAt (widths old first places : List ℕ) : Type 0 where
  pub long : length first ≡ length old
  pub others : (place : ℕ) → (Contains places place → ⊥) → record_at widths first place ≡ record_at widths old place
  pub behind : (limit : ℕ) → ((place : ℕ) → Contains places place → (place + 1) * sum widths ≤ limit) → number_of old < 2 ^ limit → number_of first < 2 ^ limit

-- The words are changed at these places alone, and each of them is then as it is said.
pub record AreWritten (Is : List ℕ → ℕ → Type 0) (widths old first places : List ℕ) : Type 0 where
  pub changed : IsChangedAt widths old first places
  pub written : (place : ℕ) → Contains places place → Is first place

-- The record of the place has no bits.
abbrev pub IsClear : List ℕ → List ℕ → ℕ → Type 0
IsClear widths first place = record_at widths first place ≡ 0

-- The place spells the row of a type under its ordinal, the least INT and LONG as null.
abbrev pub SpellsRowUnder : Shape → Table → ℕ → List ℕ → List ℕ → ℕ → Type 0
SpellsRowUnder shape table type_index widths first place =
    (row : Row) (areas : List (List ℕ)) → row_at table type_index place ≡ Some row → length areas ≡ length (shape_fields shape) → SpellsObjectRow shape widths first areas place (stored_row row)

-- There is room for the row of a type under each of its ordinals.
abbrev pub HaveRoom : Shape → Table → ℕ → List ℕ → List ℕ → Type 0
HaveRoom shape table type_index widths first = (ordinal : ℕ) (row : Row) → row_at table type_index ordinal ≡ Some row → HasRecordRoom shape widths first ordinal row

-- The records of a type are changed from those of the old state's rows to those of the new one's: where a row left the place is clear, where one came it is spelled,
-- and where both or neither have one the record has the bits that it had. Where no bit stood behind all places, none stands there.
pub record AreReplaced (shape : Shape) (old new : Table) (type_index : ℕ) (widths before after : List ℕ) : Type 0 where
  pub long : length after ≡ length before
  pub left : (place : ℕ) → IsLive old type_index place → (IsLive new type_index place → ⊥) → IsClear widths after place
  pub came : (place : ℕ) → IsLive new type_index place → (IsLive old type_index place → ⊥) → SpellsRowUnder shape new type_index widths after place
  pub stays : (place : ℕ) → IsLive old type_index place ↔ IsLive new type_index place → record_at widths after place ≡ record_at widths before place
  pub behind : (limit : ℕ) → ((place : ℕ) → IsLiveInEither old new type_index place → (place + 1) * sum widths ≤ limit) → number_of before < 2 ^ limit → number_of after < 2 ^ limit

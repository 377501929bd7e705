-- The records of OBJECT types: those without STRING and BYTES, as they stand at their places, in any order, and which halves may be copied.
use Rattle.std.specs.Prelude.{◌≡◌, ℕ, ◌-◌, ◌*◌, ◌^◌, ◌<◌, ◌≤◌, ◌++◌, List, length, replicate, sum, take, IsSome}
use Rattle.std.specs.List.{AllZip}
use Rattle.std.specs.FinMap.{get}
use Rattle.schema_model.specs.Parts.{shape_fields}
use Rattle.schema_model.specs.declared.schema.Shape.{Shape}
use Rattle.row_model.specs.Row.{stored_row}
use Rattle.row_model.specs.Table.{RowMap}
use Rattle.row_model.specs.declared.row.Row.{Row}
use Rattle.object_codec.specs.ObjectPlace.{IsFieldWidth, IsObject}
use Rattle.object_codec.specs.Packing.{PacksPlace}
use Rattle.record_copies.specs.Fixed.{AreFixed, whole_words}
use Rattle.packed_half.specs.declared.half.HalfShape.{HalfShape}
use Rattle.packed_half.specs.Half.{words_for}
use Rattle.type_rows.specs.Layout.{places_of}

-- Each place spells the row that stands under its ordinal, or has none.
abbrev pub AreRecorded : Shape → List ℕ → List ℕ → ℕ → RowMap → Type 0
AreRecorded shape widths first places rows =
    (areas : List (List ℕ)) → length areas ≡ length (shape_fields shape) → (place : ℕ) → place < places → PacksPlace shape widths first areas place (get rows place)

-- A type of records without STRING and BYTES, words that hold so many of them, and widths that its fields may have.
pub record HasPlaces (shape : Shape) (widths first : List ℕ) (places : ℕ) : Type 0 where
  pub object : IsObject shape
  pub fixed : AreFixed (shape_fields shape)
  pub few : length (shape_fields shape) ≤ 1024
  pub long : length widths ≡ length (shape_fields shape)
  pub wide : 0 < places → AllZip IsFieldWidth (shape_fields shape) widths
  pub within : places * sum widths ≤ 64 * length first
  pub counted : places * sum widths < 2 ^ 64
  pub below : places ≤ 2 ^ 32

-- A half of such records, which may be copied as they stand to another one, at the same widths.
pub record CanCopy (shape : Shape) (before after : HalfShape) : Type 0 where
  pub object : IsObject shape
  pub fixed : AreFixed (shape_fields shape)
  pub places : IsSome before.max
  pub widths : after.widths ≡ before.widths

-- How many words the records fill that both halves have, at the widths of the one after.
abbrev pub kept_words : HalfShape → HalfShape → ℕ
kept_words before after = whole_words after.widths (places_of before.max) (places_of after.max)

-- The words of a half before its records are changed: these first words of the half before, and zeros behind them.
abbrev pub copied_words : Shape → HalfShape → HalfShape → List ℕ → List ℕ
copied_words shape before after words = take (kept_words before after) words ++ replicate (words_for shape after - kept_words before after) 0

-- The row is as it is stored: it has no least INT and no least LONG, which stand as null.
abbrev pub IsStored : Row → Type 0
IsStored row = stored_row row ≡ row

-- A half of records, which may be copied run by run to another one.
pub record CanCopyRuns (shape : Shape) (before : HalfShape) : Type 0 where
  pub object : IsObject shape
  pub places : IsSome before.max

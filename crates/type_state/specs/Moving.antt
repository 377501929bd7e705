-- The parts of a move: which rows stay, which are added, and what the two make together.
use Rattle.std.specs.Prelude.{◌≡◌, ℕ, ◌+◌, ◌-◌, ◌^◌, ◌<◌, List, [], Option, None, Some, IsSome, All, length, map, min, slice_index}
use Rattle.std.specs.List.Sorted.{IsStrictlyIncreasing}
use Rattle.std.specs.FinMap.{get, values}
use Rattle.std.specs.Option.{option_map_or}
use Rattle.std.specs.Map.{keys_of, values_of}
use Rattle.schema_model.specs.Parts.{shape_fields}
use Rattle.row_model.specs.Table.{RowMap}
use Rattle.schema_model.specs.declared.schema.Shape.{Shape}
use Rattle.row_model.specs.declared.row.Row.{Row}
use Rattle.type_rows.specs.declared.patch.PatchSection.{PatchSection}
use Rattle.type_rows.specs.declared.ends.Ends.{Ends}
use Rattle.type_rows.specs.Ends.{FitsBehind}
use Rattle.type_rows.specs.Layout.{Layout, item_count, items_of_row, places_of}
use Rattle.type_rows.specs.WordsHeld.{field_bytes, bytes_held, part_bytes, row_bytes}
use Rattle.type_rows.specs.Holds.{HoldsRows, KeepsLimits}
use Rattle.type_rows.specs.Patches.{AddsRows, FitsOrdinals, IsReadablePatch, MovesRows, patch_layout}
use Rattle.type_rows.specs.MoveFault.{OrdinalsPass}
use Rattle.type_state.specs.declared.differences.Differences.{Differences}
use Rattle.type_state.specs.Differences.{AreSpelled, present, removal, added_of, removed_of}

-- The removed ordinals rise and are live.
pub record AreRemovable (old : RowMap) (removed : List ℕ) : Type 0 where
  pub rise : IsStrictlyIncreasing removed
  pub live : All (λ ordinal. IsSome (get old ordinal)) removed

-- The added ordinals rise, have a place, and are not live.
pub record AreAddable (old : RowMap) (places : ℕ) (added : List ℕ) : Type 0 where
  pub rise : IsStrictlyIncreasing added
  pub placed : All (λ ordinal. ordinal < places) added
  pub free : All (λ ordinal. get old ordinal ≡ None) added

-- The differences are the added ordinals, each with the row that its place spells.
pub record AreAdded (shape : Shape) (patch : PatchSection) (differences : List (ℕ × Option Row)) : Type 0 where
  pub keys : keys_of differences ≡ patch.added
  pub rows : List Row
  pub are : values_of differences ≡ map present rows
  pub adds : AddsRows shape patch rows

-- No ordinal of a patch is bad beside the old rows, and these are the differences that it makes: no row under a removed ordinal, and under an added
-- one the row that its place spells.
pub record IsDifferent (shape : Shape) (patch : PatchSection) (old : RowMap) (differences : Differences) : Type 0 where
  pub of : differences.schema.now.shape ≡ shape
  pub lent : differences.patch.now ≡ patch
  pub readable : IsReadablePatch shape patch
  pub spelled : AreSpelled shape patch
  pub small : All (λ ordinal. ordinal < 2 ^ 32) patch.removed
  pub ordinals : OrdinalsPass patch old
  pub removable : AreRemovable old patch.removed
  pub addable : AreAddable old (places_of patch.max) patch.added
  pub removed : (removed_of differences) ≡ map removal patch.removed
  pub added : AreAdded shape patch (added_of differences)

-- The rows are the old ones moved by the patch, and each has a place.
pub record IsMoved (shape : Shape) (patch : PatchSection) (old new : RowMap) : Type 0 where
  pub added : List Row
  pub adds : AddsRows shape patch added
  pub ordinals : FitsOrdinals old (patch_layout patch) patch.removed patch.added
  pub moves : MovesRows old new patch.removed patch.added added
  pub placed : (ordinal : ℕ) → IsSome (get new ordinal) → ordinal < places_of patch.max

-- The rows of a layout fit it, laid out one behind the other, and end at these offsets; so many items and bytes are theirs.
pub record AreLaidOut (shape : Shape) (widths : List ℕ) (rows : List Row) (ends : List ℕ) (items bytes : ℕ) : Type 0 where
  pub held : HoldsRows shape widths [] rows
  pub reached : (field : ℕ) → slice_index ends field ≡ field_bytes field rows
  pub counted : items ≡ item_count rows
  pub long : length ends ≡ length (shape_fields shape)
  pub total : bytes ≡ min (bytes_held rows) (2 ^ 64 - 1)

-- What stands under an ordinal, if a row does, fits behind rows that end there.
abbrev pub FitsSlot : Shape → List ℕ → Option Row → Ends → Type 0
FitsSlot shape widths None ends = Unit {0}
FitsSlot shape widths (Some row) ends = FitsBehind shape widths ends.offsets.items ends.items row

-- It fits, and rows with it end there; so many bytes are its own.
pub record LaysSlot (shape : Shape) (widths : List ℕ) (slot : Option Row) (before after : Ends) (bytes : ℕ) : Type 0 where
  pub fits : FitsSlot shape widths slot before
  pub ends : (field : ℕ) → slice_index after.offsets.items field ≡ slice_index before.offsets.items field + option_map_or (part_bytes field) slot 0
  pub items : after.items ≡ before.items + option_map_or items_of_row slot 0
  pub long : length after.offsets.items ≡ length before.offsets.items
  pub own : bytes ≡ min (option_map_or row_bytes slot 0) (2 ^ 64 - 1)

-- The layout fits its rows, laid out one behind the other, and they keep the limits; of the record of an OBJECT so many bits are counted.
pub record IsHeld (shape : Shape) (own : ℕ) (layout : Layout) (rows : RowMap) : Type 0 where
  pub parts : HoldsRows shape layout.widths [] (values rows)
  pub within : KeepsLimits shape own layout rows

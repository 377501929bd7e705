-- Rows that are told by their differences from other rows.
use Rattle.std.specs.Prelude.{◌≡◌, ℕ, ◌-◌, ◌^◌, ◌<◌, List, [], ◌∷◌, Option, None, Some, IsSome, All, length, map, slice_index}
use Rattle.std.specs.Ordering.{nat_cmp}
use Rattle.std.specs.FinMap.{find}
use Rattle.std.specs.List.{range_with_len}
use Rattle.std.specs.List.Sorted.{IsStrictlyIncreasing, IsStrictlySortedBy}
use Rattle.std.specs.Map.{keys_of}
use Rattle.std.specs.Option.{option_map_or}
use Rattle.schema_model.specs.declared.schema.Shape.{Shape}
use Rattle.row_model.specs.declared.row.Row.{Row}
use Rattle.row_model.specs.Table.{RowMap}
use Rattle.type_rows.specs.declared.patch.PatchSection.{PatchSection}
use Rattle.type_rows.specs.Differing.{Difference, differ_at}
use Rattle.type_rows.specs.Layout.{places_of}
use Rattle.type_rows.specs.Loads.{Spells}
use Rattle.type_rows.specs.Patches.{IsReadablePatch, places_in}
use Rattle.type_rows.specs.Rows.{row_in}
use Rattle.type_state.specs.declared.differences.Differences.{Differences}

-- No row is to stand under the ordinal.
abbrev pub removal : ℕ → Difference
removal ordinal = (ordinal, None)

-- A row is there.
abbrev pub present : Row → Option Row
present row = Some row

-- The row of a place of a patch is to stand under the added ordinal of the place.
abbrev pub addition : Shape → PatchSection → ℕ → Difference
addition shape patch place = (slice_index patch.added place, present (row_in shape (places_in patch) place))

-- What stands under the ordinals that the patch removes: no row.
abbrev pub removed_of : Differences → List Difference
removed_of differences = map removal differences.patch.now.removed

-- What stands under the ordinals that the patch adds: the rows of its places.
abbrev pub added_of : Differences → List Difference
added_of differences = map (addition differences.schema.now.shape differences.patch.now) (range_with_len 0 (length differences.patch.now.added))

-- The rows with each of these differences.
unfoldable pub differing : RowMap → List Difference → RowMap
differing rows [] = rows
differing rows (difference ∷ differences) = differing (differ_at rows difference) differences

-- Each place of the patch spells the row that is computed of it.
pub record AreSpelled (shape : Shape) (patch : PatchSection) : Type 0 where
  pub each : (place : ℕ) → place < length patch.added → Spells shape (places_in patch) place (row_in shape (places_in patch) place)

-- The patch can be read, and its places spell rows. The ordinals of both parts of the differences rise, those that are added have a place, and none is
-- in both.
pub record AreApart (differences : Differences) : Type 0 where
  pub removed : IsStrictlySortedBy nat_cmp (keys_of (removed_of differences))
  pub added : IsStrictlySortedBy nat_cmp (keys_of (added_of differences))
  pub apart : (ordinal : ℕ) → IsSome (find nat_cmp ordinal (added_of differences)) → find nat_cmp ordinal (removed_of differences) ≡ None
  pub readable : IsReadablePatch differences.schema.now.shape differences.patch.now
  pub spelled : AreSpelled differences.schema.now.shape differences.patch.now
  pub gone_rise : IsStrictlyIncreasing differences.patch.now.removed
  pub gone_small : All (λ ordinal. ordinal < 2 ^ 32) differences.patch.now.removed
  pub come_rise : IsStrictlyIncreasing differences.patch.now.added
  pub come_placed : All (λ ordinal. ordinal < places_of differences.patch.now.max) differences.patch.now.added
  pub come_small : All (λ ordinal. ordinal < 2 ^ 32 - 1) differences.patch.now.added

-- A place of the patch is that of an added ordinal.
pub record IsAddedAt (differences : Differences) (ordinal place : ℕ) : Type 0 where
  pub inside : place < length differences.patch.now.added
  pub found : find nat_cmp ordinal (added_of differences) ≡ Some (present (row_in differences.schema.now.shape (places_in differences.patch.now) place))

-- The row that the patch adds under an ordinal, if it does.
abbrev pub coming_at : Differences → ℕ → Option Row
coming_at differences ordinal = option_map_or (λ row. row) (find nat_cmp ordinal (added_of differences)) None

-- The ordinals of some differences are below a number.
abbrev pub AreBelow : ℕ → List Difference → Type 0
AreBelow room differences = All (λ difference. difference.0 < room) differences

-- The rows with the differences of both parts.
abbrev pub rows_with : RowMap → Differences → RowMap
rows_with rows differences = differing (differing rows (removed_of differences)) (added_of differences)

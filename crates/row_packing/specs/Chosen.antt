-- What the writer of a blob chooses for a type over the rows of two states: the max ordinal, the widths, and the total of elements or buckets.
use Rattle.std.specs.Prelude.{◌≡◌, ◌<◌, ◌≤◌, ◌⊎◌, ℕ, List, [], Option, None, Some, All, flat_map, slice_get}
use Rattle.std.specs.Option.{option_map_or}
use Rattle.schema_model.specs.declared.limit.Limit.TheVariants.{Ordinals, Items, Bytes}
use Rattle.row_model.specs.declared.row.Row.{Row}
use Rattle.schema_model.specs.declared.schema.Schema.{Schema}
use Rattle.schema_model.specs.declared.schema.Shape.{Shape}
use Rattle.schema_model.specs.Limit.{number_of_limit}
use Rattle.row_model.specs.Row.{FitsShape, IsRowInRange}
use Rattle.row_model.specs.Table.{Table, IsLive}
use Rattle.row_model.specs.BothStates.{rows_of_both}
use Rattle.object_codec.specs.Widths.{live_rows, widths_for as object_widths}
use Rattle.list_codec.specs.Widths.{elements_of_row, widths_for as list_widths, total_for as list_total}
use Rattle.bucket_codec.specs.Widths.{widths_for as bucket_widths, total_for as bucket_total}
use Rattle.type_rows.specs.WordsHeld.{bytes_held}
use Rattle.row_packing.specs.declared.chosen.Chosen.{Chosen}
use Rattle.row_packing.specs.Places.{Agree}

-- The shape of a type; where there is no such type, that of a list.
abbrev pub shape_at : List Schema → ℕ → Shape
shape_at schemas type_index = option_map_or (λ schema. schema.shape) (slice_get schemas type_index) (Shape.List [])

-- A row of one of the states is under the ordinal.
abbrev pub IsLiveInEither : Table → Table → ℕ → ℕ → Type 0
IsLiveInEither old new type_index ordinal = IsLive old type_index ordinal ⊎ IsLive new type_index ordinal

-- The greatest ordinal of a row of one of the states, none where neither has a row.
abbrev pub IsGreatestOrdinal : Table → Table → ℕ → Option ℕ → Type 0
IsGreatestOrdinal old new type_index None = (ordinal : ℕ) → IsLiveInEither old new type_index ordinal → ⊥
IsGreatestOrdinal old new type_index (Some max) =
    IsLiveInEither old new type_index max × ((ordinal : ℕ) → IsLiveInEither old new type_index ordinal → ordinal ≤ max)

-- The widths for some rows, by the codec of the kind.
abbrev pub chosen_widths : Shape → List Row → List ℕ
chosen_widths (Shape.Object key fields) rows = object_widths fields rows
chosen_widths (Shape.List element) rows = list_widths (flat_map elements_of_row rows)
chosen_widths (Shape.Set element) rows = bucket_widths (Shape.Set element) rows
chosen_widths (Shape.Map key value) rows = bucket_widths (Shape.Map key value) rows

-- The total of the elements or buckets of some rows, or one more than the limit where it is more; an OBJECT has none.
abbrev pub chosen_total : Shape → List Row → ℕ
chosen_total (Shape.Object key fields) rows = 0
chosen_total (Shape.List element) rows = list_total (flat_map elements_of_row rows)
chosen_total (Shape.Set element) rows = bucket_total rows
chosen_total (Shape.Map key value) rows = bucket_total rows

-- A row is one of a type of this shape, and its numbers are in range.
abbrev pub IsRowOf : Shape → Row → Type 0
IsRowOf shape row = FitsShape shape row × IsRowInRange row

-- The limits that a cycle tries before it lays a type out: its ordinals, the elements or buckets that are written, and the bytes of each state.
pub record KeepsCounts (shape : Shape) (old new : Table) (type_index : ℕ) : Type 0 where
  pub ordinals : (ordinal : ℕ) → IsLiveInEither old new type_index ordinal → ordinal < number_of_limit Ordinals
  pub items : chosen_total shape (rows_of_both old new type_index) ≤ number_of_limit Items
  pub old_bytes : bytes_held (live_rows old type_index) ≤ number_of_limit Bytes
  pub new_bytes : bytes_held (live_rows new type_index) ≤ number_of_limit Bytes

-- The choice is that of the rows of both states, a row that both have counted once; and they are rows of the type.
pub record IsChosen (shape : Shape) (old new : Table) (type_index : ℕ) (chosen : Chosen) : Type 0 where
  pub max : IsGreatestOrdinal old new type_index chosen.max
  pub widths : chosen.widths ≡ chosen_widths shape (rows_of_both old new type_index)
  pub total : chosen.total ≡ chosen_total shape (rows_of_both old new type_index)
  pub rows : All (IsRowOf shape) (rows_of_both old new type_index)

-- The choice is one for the rows of this state and of another that agrees with it, within the limits.
pub record Suits (shape : Shape) (new : Table) (type_index : ℕ) (chosen : Chosen) : Type 0 where
  pub old : Table
  pub agree : Agree old new type_index
  pub keeps : KeepsCounts shape old new type_index
  pub is : IsChosen shape old new type_index chosen

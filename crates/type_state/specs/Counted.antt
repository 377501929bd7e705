-- How what rows add up to changes where rows come in place of others, and which of them are told to fit.
use Rattle.std.specs.Prelude.{◌≡◌, ℕ, ◌+◌, ◌*◌, ◌^◌, ◌<◌, ◌≤◌, List, None, Some, IsSome, All, length, slice_get, slice_index}
use Rattle.std.specs.FinMap.{find, get, values}
use Rattle.std.specs.Ordering.{nat_cmp}
use Rattle.bit_array.specs.Element.{words_of}
use Rattle.schema_model.specs.declared.limit.Limit.TheVariants.{Words, Bytes}
use Rattle.schema_model.specs.Limit.{number_of_limit}
use Rattle.schema_model.specs.declared.schema.Field.{Field}
use Rattle.schema_model.specs.declared.schema.Shape.{Shape}
use Rattle.row_model.specs.declared.row.Row.{Row}
use Rattle.row_model.specs.Table.{RowMap}
use Rattle.type_rows.specs.declared.totals.Totals.{Totals}
use Rattle.type_rows.specs.Ends.{FitsBehind}
use Rattle.type_rows.specs.FieldEnds.{EndFits}
use Rattle.type_rows.specs.Holds.{FitsRow}
use Rattle.type_rows.specs.Layout.{Layout, item_bits, places_counted}
use Rattle.type_rows.specs.Differing.{Difference}
use Rattle.type_rows.specs.Totals.{AreMore, AreTotals}
use Rattle.type_state.specs.declared.differences.Differences.{Differences}
use Rattle.type_state.specs.Differences.{differing, added_of, removed_of}

-- The rows have the same as some others under the ordinals of differences.
abbrev pub AgreeAt : RowMap → RowMap → List Difference → Type 0
AgreeAt rows others differences = (ordinal : ℕ) → IsSome (find nat_cmp ordinal differences) → get rows ordinal ≡ get others ordinal

-- No row stands under any of these ordinals.
abbrev pub AreFree : RowMap → List ℕ → Type 0
AreFree rows ordinals = All (λ ordinal. get rows ordinal ≡ None) ordinals

-- The differences are counted: the totals of rows that have the same as these under their ordinals become those of the differing rows.
pub record IsCounted (rows : RowMap) (differences : List Difference) (before after : Totals) : Type 0 where
  pub counted : (others : RowMap) → AreTotals (values others) before → AgreeAt others rows differences → AreTotals (values (differing others differences)) after

-- The totals are those of rows that add up to nothing.
abbrev pub AreNothing : Totals → Type 0
AreNothing totals = All (λ (ends : ℕ). ends ≡ 0) totals.ends.offsets.items × (totals.ends.items ≡ 0) × (totals.bytes ≡ 0)

-- Each part of a row fits its width, where the row ends at some offsets and behind some items.
pub record FitsSomewhere (shape : Shape) (widths : List ℕ) (row : Row) : Type 0 where
  pub ends : ℕ → ℕ
  pub items : ℕ
  pub fits : FitsRow shape widths ends items row

-- A row comes behind others: each part of it fits its width there, and with it the totals are the ones afterwards.
pub record Comes (shape : Shape) (widths : List ℕ) (row : Row) (before after : Totals) : Type 0 where
  pub fits : FitsBehind shape widths before.ends.offsets.items before.ends.items row
  pub more : AreMore before (Some row) after

-- No part has a narrower width than before.
abbrev pub IsNoNarrower : List ℕ → List ℕ → Type 0
IsNoNarrower before widths = (part : ℕ) → slice_index before part ≤ slice_index widths part

-- Each row that stands in the differences fits the widths somewhere.
abbrev pub AreFitting : Shape → List ℕ → List Difference → Type 0
AreFitting shape widths differences = (ordinal : ℕ) (row : Row) → find nat_cmp ordinal differences ≡ Some (Some row) → FitsSomewhere shape widths row

-- Each row under whose ordinal no difference is fits the widths somewhere.
abbrev pub StayFitting : Shape → List ℕ → List Difference → RowMap → Type 0
StayFitting shape widths differences rows = (ordinal : ℕ) (row : Row) → get rows ordinal ≡ Some row → find nat_cmp ordinal differences ≡ None → FitsSomewhere shape widths row

-- The rows that a move brings fit the widths somewhere.
pub record ComeFitting (shape : Shape) (widths : List ℕ) (differences : Differences) : Type 0 where
  pub removed : AreFitting shape widths (removed_of differences)
  pub added : AreFitting shape widths (added_of differences)

-- The elements of the first so many fields hold these end offsets of theirs.
abbrev pub AreOffsetsHeld : List Field → List ℕ → List ℕ → ℕ → Type 0
AreOffsetsHeld fields widths ends count = (index : ℕ) (field : Field) → index < count → slice_get fields index ≡ Some field → EndFits field.kind (slice_index widths index) (slice_index ends index)

-- The widths hold where rows end: the end offset of each field, or the items of the other kinds.
abbrev pub AreEndsHeld : Shape → List ℕ → List ℕ → ℕ → Type 0
AreEndsHeld (Shape.Object key fields) widths ends items = AreOffsetsHeld fields widths ends (length fields)
AreEndsHeld _ widths ends items = items < 2 ^ slice_index widths 0

-- A layout holds the ends of rows that add up to these, and they keep the limits.
pub record HoldsSums (shape : Shape) (own : ℕ) (layout : Layout) (sums : Totals) : Type 0 where
  pub ends : AreEndsHeld shape layout.widths sums.ends.offsets.items sums.ends.items
  pub words : places_counted shape own layout + words_of (sums.ends.items * item_bits shape layout.widths) ≤ number_of_limit Words
  pub few : sums.bytes ≤ number_of_limit Bytes

-- The rows of a type that leave, where they stand packed.
use Rattle.std.specs.Prelude.{◌≡◌, ℕ, List, Some, length, slice_get}
use Rattle.std.specs.FinMap.{get}
use Rattle.row_model.specs.declared.row.Row.{Row}
use Rattle.row_model.specs.declared.row.Value.{Value}
use Rattle.row_model.specs.Table.{RowMap}
use Rattle.object_codec.specs.Columns.{IsReadAt}
use Rattle.object_codec.specs.Stored.{values_of_row}
use Rattle.object_codec.specs.declared.column.Column.{Column}
use Rattle.column_rows.specs.Columns.{HasValueOf}
use Rattle.column_rows.specs.Items.{IsListThere, IsRunThere}
use Rattle.type_rows.specs.Layout.{items_of_row}
use Rattle.type_rows.specs.Totals.{HasParts}
use Rattle.column_rows.specs.OneType.{IsColumnIn}
use Rattle.type_state.specs.declared.leaving.Items.{Items}
use Rattle.type_state.specs.declared.leaving.Leaving.{Leaving}

-- Each column has an element at a place.
abbrev pub AreReadAt : List Column → ℕ → Type 0
AreReadAt columns place = (index : ℕ) (column : Column) → slice_get columns index ≡ Some column → IsReadAt column place

-- The columns have these values at a place, one each.
pub record HasColumns (columns : List Column) (place : ℕ) (values : List Value) : Type 0 where
  pub long : length values ≡ length columns
  pub each : (index : ℕ) (column : Column) → slice_get columns index ≡ Some column → HasValueOf column place values index

-- The items are those of a row at a place.
abbrev pub HasItems : Items → ℕ → Row → Type 0
HasItems Items.None place row = items_of_row row ≡ 0
HasItems (Items.Lists items) place row = IsListThere items place row
HasItems (Items.Runs items) place row = HasParts 0 row × IsRunThere items place row

-- The row stands at a place.
abbrev pub StandsIn : Leaving → ℕ → Row → Type 0
StandsIn leaving place row = HasColumns leaving.columns.items place (values_of_row row) × HasItems leaving.items place row

-- Each row stands under its ordinal.
abbrev pub AreStanding : RowMap → Leaving → Type 0
AreStanding rows leaving = (ordinal : ℕ) (row : Row) → get rows ordinal ≡ Some row → StandsIn leaving ordinal row

-- The columns are those of so many fields of the rows.
pub record AreColumns (rows : RowMap) (columns : List Column) (count : ℕ) : Type 0 where
  pub long : length columns ≡ count
  pub each : (index : ℕ) (column : Column) → slice_get columns index ≡ Some column → IsColumnIn rows index column

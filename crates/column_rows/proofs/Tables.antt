-- A type of a table, looked at alone.
use Rattle.std.proofs.Common.{◌≡◌, ℕ, Option, Some, None, sym, ap, ◌∙◌}
use Rattle.std.specs.Prelude.{IfSome, slice_get}
use Rattle.std.specs.FinMap.{get}
use Rattle.std.specs.Option.{option_and_then}
use Rattle.row_model.specs.Table.{RowMap, Table, row_at}
use Rattle.column_rows.specs.declared.items.PackedItems.{PackedItems}
use Rattle.column_rows.specs.Items.{AreListsOf}
use Rattle.column_rows.specs.OneType.{AreListsIn}

row_of : (table : Table) (t o : ℕ) (rows : RowMap) → slice_get table t ≡ Some rows → row_at table t o ≡ get rows o
row_of table t o rows is = ap (option_and_then (λ (rows : RowMap). get rows o)) is

-- the lists of a type are those of the table
pub lists_at : (table : Table) (t : ℕ) (rows : RowMap) (found : Option PackedItems) → slice_get table t ≡ Some rows → IfSome found (AreListsIn rows) → IfSome found (AreListsOf table t)
lists_at table t rows None is shown = shown
lists_at table t rows (Some items) is shown = λ ordinal row at. shown ordinal row (sym (row_of table t ordinal rows is) ∙ at)

-- Rows that a type had, kept as rows or as packed records.
use Rattle.std.specs.Prelude.{List}
use Rattle.row_model.specs.declared.row.Row.{Row}
use Rattle.type_state.specs.declared.old_rows.Store.{Store}

-- The rows that are kept, in either way.
abbrev pub stored_rows : Store → List Row
stored_rows (Store.Made rows) = rows
stored_rows (Store.Packed rows) = rows

-- The rows of a type in two states: those of the old one, and those of the new one under ordinals that the old one lacks.
use Rattle.std.specs.Prelude.{ℕ, List, ◌++◌, map, filter, not, is_some, nat_le, slice_get, unwrap_or}
use Rattle.std.specs.Ordering.{nat_cmp}
use Rattle.std.specs.FinMap.{entries, empty, retain_keys}
use Rattle.row_model.specs.declared.row.Row.{Row}
use Rattle.row_model.specs.Table.{RowMap, Table, row_at}

-- The rows of a type, none where the table has no such type.
abbrev pub rows_in : Table → ℕ → RowMap
rows_in table type_index = unwrap_or (slice_get table type_index) (empty {R = nat_cmp})

-- The rows of the new state under ordinals that the old one lacks.
abbrev pub rows_added : Table → Table → ℕ → RowMap
rows_added old new type_index = retain_keys (rows_in new type_index) (λ ordinal. not (is_some (row_at old type_index ordinal)))

-- The rows from an ordinal on, by rising ordinal.
unfoldable pub rows_from : ℕ → RowMap → List Row
rows_from ordinal rows = map (λ entry. entry.1) (filter (λ entry. nat_le ordinal entry.0) (entries rows))

-- The rows of both states: those of the old one, and those that the new one adds. A row that both have counts once.
abbrev pub rows_of_both : Table → Table → ℕ → List Row
rows_of_both old new type_index = rows_from 0 (rows_in old type_index) ++ rows_from 0 (rows_added old new type_index)

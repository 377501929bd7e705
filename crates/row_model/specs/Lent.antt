-- Rows to look at.
use Rattle.row_model.specs.declared.row.Row.{Row}
use Rattle.row_model.specs.declared.lent.LentRow.{LentRow}
use Rattle.row_model.specs.declared.lent.LentRow.TheVariants.{Kept, Made}

-- the row that is lent
abbrev pub lent_row : LentRow → Row
lent_row (Kept row) = row.now
lent_row (Made row) = row

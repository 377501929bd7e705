-- Rows that the widths of a type do not hold, laid out one behind the other with no place between them.
use Rattle.std.specs.Prelude.{◌≡◌, ℕ, suc, List, [], Some, slice_get, take}
use Rattle.schema_model.specs.declared.schema.Shape.{Shape}
use Rattle.row_model.specs.declared.row.Row.{Row}
use Rattle.type_rows.specs.Holds.{HoldsRow, HoldsRows}

-- The first of some rows, beside their ordinals, of which a part does not fit its width: those before it fit.
pub record FirstUnheld (shape : Shape) (widths ordinals : List ℕ) (rows : List Row) (ordinal : ℕ) : Type 0 where
  pub index : ℕ
  pub row : Row
  pub of : slice_get ordinals index ≡ Some ordinal
  pub stands : slice_get rows index ≡ Some row
  pub held : HoldsRows shape widths [] (take index rows)
  pub unheld : HoldsRow shape widths (take (suc index) rows) row → ⊥

-- Sums of the rows of a type in two states.
use Rattle.std.specs.Prelude.{ℕ}
use Rattle.schema_model.specs.declared.schema.Shape.{Shape}
use Rattle.row_model.specs.BothStates.{rows_of_both}
use Rattle.row_model.specs.Table.{Table}
use Rattle.object_codec.specs.Widths.{live_rows}
use Rattle.kept_sums.specs.Sums.{AreSumsOf, TypeSums}

-- The first sums are those of the old state, the second ones those of the new state, and the third ones those of both, a row that both have counted once.
pub record AreSumsOfStates (shape : Shape) (old new : Table) (type_index : ℕ) (first second third : TypeSums) : Type 0 where
  pub before : AreSumsOf shape (live_rows old type_index) first
  pub after : AreSumsOf shape (live_rows new type_index) second
  pub both : AreSumsOf shape (rows_of_both old new type_index) third

-- Where what is kept of a type has the row of an ordinal that left.
use Rattle.std.specs.Prelude.{◌≡◌, ◌<◌, ℕ, length, slice_get}
use Rattle.std.specs.FinMap.{find}
use Rattle.std.specs.Ordering.{nat_cmp}
use Rattle.row_model.specs.Before.{PastPart, left_rows}

-- The row of the ordinal is the one at this place among those that left.
pub record IsLeftAt (part : PastPart) (ordinal place : ℕ) : Type 0 where
  pub inside : place < length part.rows
  pub row : find nat_cmp ordinal (left_rows part) ≡ slice_get part.rows place

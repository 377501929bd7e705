-- What is kept of the rows of each type of a table, off which a writer's choice for them is read; and how it changes with a row.
use Rattle.std.specs.Prelude.{◌≡◌, ℕ, List, Some, length, set, slice_get}
use Rattle.schema_model.specs.declared.schema.Schema.{Schema}
use Rattle.row_model.specs.declared.row.Row.{Row}
use Rattle.row_model.specs.BothStates.{rows_of_both}
use Rattle.row_model.specs.Table.{Table, row_at}
use Rattle.object_codec.specs.Widths.{live_rows}
use Rattle.row_packing.specs.Chosen.{shape_at}
use Rattle.kept_sums.specs.Sums.{AddsRow, AreSumsOf, TakesRow, TypeSums}

-- For each type there are the sums of some rows of it.
pub record AreSumsBy (schemas : List Schema) (rows : ℕ → List Row) (sums : List TypeSums) : Type 0 where
  pub types : length sums ≡ length schemas
  pub each : (type_index : ℕ) (one : TypeSums) → slice_get sums type_index ≡ Some one → AreSumsOf (shape_at schemas type_index) (rows type_index) one

-- These are the sums of the rows of a table.
abbrev pub AreSums : List Schema → Table → List TypeSums → Type 0
AreSums schemas table sums = AreSumsBy schemas (live_rows table) sums

-- These are the sums of the rows of two states, a row that both have counted once.
abbrev pub AreSumsOfBoth : List Schema → Table → Table → List TypeSums → Type 0
AreSumsOfBoth schemas old new sums = AreSumsBy schemas (rows_of_both old new) sums

-- The sums of a type become others, and those of the other types stay.
pub record ChangesType (changes : TypeSums → TypeSums → Type 0) (type_index : ℕ) (before after : List TypeSums) : Type 0 where
  pub old : TypeSums
  pub new : TypeSums
  pub was : slice_get before type_index ≡ Some old
  pub changed : changes old new
  pub is : after ≡ set before type_index new

-- The row of a type under an ordinal is added to its sums.
abbrev pub AddsRowAt : List Schema → Table → ℕ → ℕ → List TypeSums → List TypeSums → Type 0
AddsRowAt schemas table t ordinal before after = (row : Row) → row_at table t ordinal ≡ Some row → ChangesType (AddsRow (shape_at schemas t) row) t before after

-- The row of a type under an ordinal is taken from its sums.
abbrev pub TakesRowAt : List Schema → Table → ℕ → ℕ → List TypeSums → List TypeSums → Type 0
TakesRowAt schemas table t ordinal before after = (row : Row) → row_at table t ordinal ≡ Some row → ChangesType (TakesRow (shape_at schemas t) row) t before after

-- A table: for each type of a model, in model order, the rows by ordinal.
use Rattle.std.specs.Prelude.{List, ℕ, Option, Some, ◌≡◌, ◌<◌, ◌+◌, ◌⊎◌, length, slice_get, option_and_then, IsSome, IsSomeAnd, All}
use Rattle.std.specs.Ordering.{nat_cmp}
use Rattle.std.specs.FinMap.{FinMap, get}
use Rattle.schema_model.specs.declared.schema.name.Name.{Name}
use Rattle.schema_model.specs.declared.schema.Schema.{Schema}
use Rattle.row_model.specs.declared.row.Row.{Row}
use Rattle.schema_model.specs.Parts.{index_of_type}
use Rattle.row_model.specs.Row.{FitsShape, IsRowInRange, references_of_row}

-- the rows of one type, by ordinal
abbrev pub RowMap : Type 0
RowMap = FinMap nat_cmp Row

-- the rows of each type, by the type's index
abbrev pub Table : Type 0
Table = List RowMap

-- the row of a type under an ordinal
abbrev pub row_at : Table → ℕ → ℕ → Option Row
row_at table type_index ordinal = option_and_then (λ rows. get rows ordinal) (slice_get table type_index)

-- the type has a row under the ordinal
abbrev pub IsLive : Table → ℕ → ℕ → Type 0
IsLive table type_index ordinal = IsSome (row_at table type_index ordinal)

-- the type of that name has a row under the ordinal
abbrev pub IsLiveByName : List Schema → Table → Name → ℕ → Type 0
IsLiveByName schemas table name ordinal = IsSomeAnd (index_of_type schemas name) (λ type_index. IsLive table type_index ordinal)

-- what holds of each row, with the schema of its type
abbrev pub EachRow : List Schema → Table → (Schema → Row → Type 0) → Type 0
EachRow schemas table P =
    (type_index ordinal : ℕ) (schema : Schema) (row : Row) → slice_get schemas type_index ≡ Some schema → row_at table type_index ordinal ≡ Some row → P schema row

-- each row that a row names is live
abbrev pub IsClosed : List Schema → Table → Type 0
IsClosed schemas table =
    EachRow schemas table (λ schema row. All (λ named. IsLiveByName schemas table named.0 named.1) (references_of_row schema.shape row))

-- one map of rows for each type; each row fits its type, and its numbers are in range
pub record IsTableOf (schemas : List Schema) (table : Table) : Type 0 where
  pub types : length table ≡ length schemas
  pub rows : EachRow schemas table (λ schema row. FitsShape schema.shape row)
  pub ranges : EachRow schemas table (λ schema row. IsRowInRange row)

-- one past the greatest live ordinal of a type, 0 where none is live
pub record IsBound (table : Table) (type_index bound : ℕ) : Type 0 where
  pub above : (ordinal : ℕ) → IsLive table type_index ordinal → ordinal < bound
  pub least : (bound ≡ 0) ⊎ ((ordinal : ℕ) × (bound ≡ ordinal + 1) × IsLive table type_index ordinal)

-- How often rows name a row, and how many rows there are.
use Rattle.std.specs.Prelude.{List, [], ℕ, ◌≡◌, ◌&&◌, Bool, IsSomeAnd, if◌then◌else◌, count_by, filter_map, is_some, nat_eq, option_and_then, slice_get, sum_by, unwrap_or, zip}
use Rattle.std.specs.Option.{option_map}
use Rattle.schema_model.specs.declared.schema.name.Name.{Name}
use Rattle.schema_model.specs.declared.schema.Schema.{Schema}
use Rattle.schema_model.specs.declared.schema.Shape.{Shape}
use Rattle.schema_model.specs.Parts.{index_of_type, shape_key}
use Rattle.row_model.specs.declared.row.Row.{Row}
use Rattle.row_model.specs.BothStates.{rows_from}
use Rattle.row_model.specs.Row.{references_of_row}
use Rattle.row_model.specs.Table.{Table, row_at}

-- what is added up over the rows of a table, of each by its schema
unfoldable pub added_up : (Schema → Row → ℕ) → List Schema → Table → ℕ
added_up of schemas table = sum_by (λ part. sum_by (of part.0) (rows_from 0 part.1)) (zip schemas table)

-- ---- how often a row is named

-- the rows of these names and ordinals, each by its type and ordinal
abbrev pub indexed : List Schema → List (Name × ℕ) → List (ℕ × ℕ)
indexed schemas references = filter_map (λ named. option_map (λ t. (t, named.1)) (index_of_type schemas named.0)) references

-- the rows that a row names, in its order: each one's type and ordinal
abbrev pub named_by : List Schema → Shape → Row → List (ℕ × ℕ)
named_by schemas shape row = indexed schemas (references_of_row shape row)

-- these are the rows that a row of a type names
abbrev pub AreNamedBy : List Schema → ℕ → Row → List (ℕ × ℕ) → Type 0
AreNamedBy schemas t row named = IsSomeAnd (slice_get schemas t) (λ schema. named ≡ named_by schemas schema.shape row)

-- the rows that the row of a type under an ordinal names, none where there is no row
abbrev pub named_at : List Schema → Table → ℕ → ℕ → List (ℕ × ℕ)
named_at schemas table t ordinal = unwrap_or (option_and_then (λ schema. option_map (λ row. named_by schemas schema.shape row) (row_at table t ordinal)) (slice_get schemas t)) []

-- whether it is this row, by its type and ordinal
abbrev pub is_row : ℕ → ℕ → ℕ × ℕ → Bool
is_row t ordinal named = nat_eq named.0 t && nat_eq named.1 ordinal

-- one where it is this row
abbrev pub one_for : ℕ → ℕ → ℕ × ℕ → ℕ
one_for t ordinal named = (if is_row t ordinal named then 1 else 0)

-- how many of these are this row
abbrev pub times_among : ℕ → ℕ → List (ℕ × ℕ) → ℕ
times_among t ordinal named = count_by (is_row t ordinal) named

-- how many places in the rows of a table name the row of a type under an ordinal
abbrev pub times_named : List Schema → Table → ℕ → ℕ → ℕ
times_named schemas table t ordinal = added_up (λ schema row. times_among t ordinal (named_by schemas schema.shape row)) schemas table

-- ---- how many rows there are

-- how many rows a table has
abbrev pub size_of : List Schema → Table → ℕ
size_of schemas table = added_up (λ schema row. 1) schemas table

-- how many of them are of types with a primary key
abbrev pub keyed_size_of : List Schema → Table → ℕ
keyed_size_of schemas table = added_up (λ schema row. if is_some (shape_key schema.shape) then 1 else 0) schemas table

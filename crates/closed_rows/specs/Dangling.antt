-- Closedness, row by row: the first row that names an ordinal that is not live.
use Rattle.std.specs.Prelude.{◌≡◌, ◌<◌, ℕ, List, Option, Some, None, Bool, slice_get, All, is_some, option_and_then}
use Rattle.std.specs.List.{list_all}
use Rattle.schema_model.specs.declared.schema.name.Name.{Name}
use Rattle.schema_model.specs.declared.schema.FieldKind.{FieldKind}
use Rattle.schema_model.specs.declared.schema.Schema.{Schema}
use Rattle.schema_model.specs.declared.schema.Shape.{Shape}
use Rattle.row_model.specs.declared.row.Row.{Row}
use Rattle.schema_model.specs.Parts.{index_of_type}
use Rattle.row_model.specs.Row.{references_of_row}
use Rattle.row_model.specs.Table.{Table, row_at, IsLiveByName, IsClosed}
use Rattle.closed_rows.specs.declared.dangling.Dangling.{Dangling}

-- whether a row, by its type's name and its ordinal, is live
abbrev pub is_live_reference : List Schema → Table → Name × ℕ → Bool
is_live_reference schemas table named = is_some (option_and_then (λ type_index. row_at table type_index named.1) (index_of_type schemas named.0))

-- whether each of these rows is live
abbrev pub are_live : List Schema → Table → List (Name × ℕ) → Bool
are_live schemas table references = list_all (is_live_reference schemas table) references

-- A value of this kind names no row.
abbrev pub IsPlain : FieldKind → Type 0
IsPlain (FieldKind.Reference name) = ⊥
IsPlain _ = Unit {0}

-- The rows of a type of this shape name no others: they are records without a REFERENCE.
abbrev pub IsPlainType : Shape → Type 0
IsPlainType (Shape.Object key fields) = All (λ field. IsPlain field.kind) fields
IsPlainType _ = ⊥

-- These rows, each by its type's name and its ordinal, are live.
abbrev pub AreLive : List Schema → Table → List (Name × ℕ) → Type 0
AreLive schemas table rows = All (λ named. IsLiveByName schemas table named.0 named.1) rows

-- A row of a type of this shape names live ordinals alone.
abbrev pub NamesLive : List Schema → Table → Shape → Row → Type 0
NamesLive schemas table shape row = AreLive schemas table (references_of_row shape row)

-- If the type has a row under the ordinal, it names live ordinals alone.
abbrev pub IsClosedAt : List Schema → Table → ℕ → ℕ → Type 0
IsClosedAt schemas table type_index ordinal = (schema : Schema) (row : Row) → slice_get schemas type_index ≡ Some schema → row_at table type_index ordinal ≡ Some row → NamesLive schemas table schema.shape row

-- What a search through the rows of one type tells: the least ordinal whose row names one that is not live, if there is one.
abbrev pub TellsType : List Schema → Table → ℕ → Option ℕ → Type 0
TellsType schemas table type_index None = (ordinal : ℕ) → IsClosedAt schemas table type_index ordinal
TellsType schemas table type_index (Some ordinal) = (IsClosedAt schemas table type_index ordinal → ⊥) × ((earlier : ℕ) → earlier < ordinal → IsClosedAt schemas table type_index earlier)

-- What a search through all rows tells: the first such row, in the order of the types and of the ordinals.
abbrev pub TellsDangling : List Schema → Table → Option Dangling → Type 0
TellsDangling schemas table None = IsClosed schemas table
TellsDangling schemas table (Some found) =
    TellsType schemas table found.type_index (Some found.ordinal) × ((type_index : ℕ) (ordinal : ℕ) → type_index < found.type_index → IsClosedAt schemas table type_index ordinal)

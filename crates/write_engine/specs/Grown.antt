-- A producer that goes on with a model that grows its own: what it holds then, and how far its types have come on the way there.
use Rattle.std.specs.Prelude.{List, ℕ, ◌≡◌, ◌<◌, ◌≤◌, ◌⊎◌, ◌++◌, Some, length, replicate, slice_get, take}
use Rattle.schema_model.specs.declared.schema.Schema.{Schema}
use Rattle.schema_model.specs.Growth.{Grows}
use Rattle.schema_model.specs.Model.{IsModel}
use Rattle.row_model.specs.declared.row.Row.{Row}
use Rattle.row_model.specs.declared.row.Value.{Value}
use Rattle.row_model.specs.Table.{Table}
use Rattle.row_model.specs.View.{view}
use Rattle.ordinal_map.specs.States.{States}
use Rattle.write_engine.specs.Cycle.{no_rows}
use Rattle.write_engine.specs.Production.{IsProducing, Production, current_of, previous_of}
use Rattle.write_engine.specs.RestoredRows.{HasRowsOf}

-- The producer has the grown model, and its previous rows are those that are seen through it. No cycle is open, and the tag and the version stay.
abbrev pub grown_to : List Schema → Production → Production
grown_to grown old = record old { schemas = grown; previous = view grown old.schemas old.previous; current = no_rows (length grown) }

-- the values and null behind them, so many in all
abbrev pub padded : ℕ → List Value → List Value
padded count values = take count (values ++ replicate count Value.Null)

-- a record with null in each further field, so many in all; any other row stays
abbrev pub padded_row : ℕ → Row → Row
padded_row count (Row.Object values) = Row.Object (padded count values)
padded_row count row = row

-- The type has the same schema in the grown model.
pub record HasStayed (own grown : List Schema) (type_index : ℕ) : Type 0 where
  pub known : type_index < length own
  pub same : slice_get grown type_index ≡ slice_get own type_index

-- The rows are those of a producer whose cycle is not open, and the other model grows its own.
pub record MayGrow (own grown : List Schema) (maps : List States) : Type 0 where
  pub producing : IsProducing own maps
  pub none : current_of maps ≡ no_rows (length own)
  pub model : IsModel own
  pub grown_model : IsModel grown
  pub grows : Grows own grown

-- the rows of the previous state, seen through the grown model
abbrev pub seen_of : List Schema → List Schema → List States → Table
seen_of own grown maps = view grown own (previous_of maps)

-- The first types of the grown model have maps of their own, which have the rows that are seen, but for those types that stay.
pub record AreFresh (own grown : List Schema) (maps fresh : List States) (count : ℕ) : Type 0 where
  pub many : length fresh ≡ count
  pub rows : (type_index : ℕ) (states : States) → slice_get fresh type_index ≡ Some states → ¬ HasStayed own grown type_index → HasRowsOf (seen_of own grown maps) type_index states

-- Of the types that stay the first ones have their old maps again, and those of the others are where they were.
pub record AreKept (own grown : List Schema) (maps left fresh : List States) (count : ℕ) : Type 0 where
  pub many : length fresh ≡ length grown
  pub rows : (type_index : ℕ) (states : States) → slice_get fresh type_index ≡ Some states → (¬ HasStayed own grown type_index) ⊎ (type_index < count) → HasRowsOf (seen_of own grown maps) type_index states
  pub all_left : length left ≡ length maps
  pub behind : (type_index : ℕ) → count ≤ type_index → slice_get left type_index ≡ slice_get maps type_index

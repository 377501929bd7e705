-- The rows of a type that left since a version, and those among which the ones are that had a key.
use Rattle.std.specs.Prelude.{◌≡◌, ◌<◌, ℕ, List, Some, Contains, slice_get}
use Rattle.schema_model.specs.declared.model.path.Path.{Path}
use Rattle.schema_model.specs.declared.schema.Schema.{Schema}
use Rattle.row_model.specs.declared.row.Row.{Row}
use Rattle.row_model.specs.declared.row.Value.{Value}
use Rattle.row_model.specs.Before.{PastPart}
use Rattle.row_model.specs.Key.{key_of}
use Rattle.row_model.specs.Table.{Table, row_at}
use Rattle.hol_history.specs.History.{PastStep}
use Rattle.hol_history.specs.Steps.{IsCountSince, part_at}

-- All of some ordinals are among others.
abbrev pub HasAll : List ℕ → List ℕ → Type 0
HasAll old among = (ordinal : ℕ) → Contains old ordinal → Contains among ordinal

-- Where a row that left in a step stands under its ordinal in a table, and has the key there, the ordinal is among these. It stands at the place of its ordinal.
abbrev pub HasLeft : PastPart → List Path → List Value → List ℕ → Type 0
HasLeft part paths key among =
    (schemas : List Schema) (table : Table) (type_index place ordinal : ℕ) (row : Row) → slice_get part.gone place ≡ Some ordinal
    → slice_get part.rows place ≡ Some row → row_at table type_index ordinal ≡ Some row
    → key_of schemas table type_index paths ordinal ≡ Some key → Contains among ordinal

-- The same of the newest steps, so many.
abbrev pub HasLeftIn : List PastStep → ℕ → ℕ → List Path → List Value → List ℕ → Type 0
HasLeftIn steps count type_index paths key among = (place : ℕ) (part : PastPart) → place < count → part_at steps place type_index ≡ Some part → HasLeft part paths key among

-- The same of the steps since a version: the newest one from it, and those behind that one.
abbrev pub HasLeftSince : List PastStep → ℕ → ℕ → List Path → List Value → List ℕ → Type 0
HasLeftSince steps version type_index paths key among = (count : ℕ) × IsCountSince steps version count × HasLeftIn steps count type_index paths key among

-- The walk indexes of a consumer: each is one that an order can ask for, none is there twice, there are few, and each has no more entries than it may.
use Rattle.std.specs.Prelude.{◌≡◌, ◌≢◌, ◌≤◌, ℕ, List, Some, All, AllPairs, length}
use Rattle.schema_model.specs.declared.limit.Limit.TheVariants.{Walks}
use Rattle.schema_model.specs.declared.model.walk_path.WalkPath.{WalkPath}
use Rattle.schema_model.specs.declared.schema.name.Name.{Name}
use Rattle.schema_model.specs.declared.schema.Schema.{Schema}
use Rattle.schema_model.specs.Limit.{number_of_limit}
use Rattle.schema_model.specs.Parts.{index_of_type}
use Rattle.schema_model.specs.WalkPath.{WalkResolves}
use Rattle.row_model.specs.Table.{Table}
use Rattle.read_engine.specs.Walks.{HasFewEntries}

-- This name and this text ask for the walk index: the name is that of its type, and the text resolves to its path.
pub record AsksForWalk (schemas : List Schema) (name : Name) (text : List ℕ) (path : WalkPath) : Type 0 where
  pub of_type : index_of_type schemas name ≡ Some path.type_index
  pub resolves : WalkResolves schemas path.type_index text path

-- Some name and text do.
abbrev pub IsWalkAsked : List Schema → WalkPath → Type 0
IsWalkAsked schemas path = (name : Name) × (text : List ℕ) × AsksForWalk schemas name text path

-- Each can be asked for, none is there twice, there are no more than can be kept, and each has no more entries in the rows than it may.
pub record AreWalks (schemas : List Schema) (table : Table) (walks : List WalkPath) : Type 0 where
  pub asked : All (IsWalkAsked schemas) walks
  pub apart : AllPairs (λ earlier later. earlier ≢ later) walks
  pub few : length walks ≤ number_of_limit Walks
  pub small : All (HasFewEntries schemas table) walks

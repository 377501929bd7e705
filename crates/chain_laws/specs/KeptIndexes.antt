-- The indexes of a consumer: each is one that an order can ask for, none is there twice, and there are few.
use Rattle.std.specs.Prelude.{◌≡◌, ◌≢◌, ◌≤◌, ℕ, List, Some, All, AllPairs, length}
use Rattle.schema_model.specs.declared.limit.Limit.TheVariants.{Indexes}
use Rattle.schema_model.specs.declared.schema.name.Name.{Name}
use Rattle.schema_model.specs.declared.schema.Schema.{Schema}
use Rattle.schema_model.specs.Limit.{number_of_limit}
use Rattle.schema_model.specs.Parts.{index_of_type}
use Rattle.read_engine.specs.Position.{Index}
use Rattle.hollow_machine.specs.KeyPaths.{AreKeyPaths, HasShape, IsObject}

-- This name and these texts ask for the index: the name is that of its type, whose rows are records, and the texts resolve to its paths.
pub record AsksFor (schemas : List Schema) (name : Name) (texts : List (List ℕ)) (index : Index) : Type 0 where
  pub of_type : index_of_type schemas name ≡ Some index.type_index
  pub records : HasShape IsObject schemas index.type_index
  pub paths : AreKeyPaths schemas index.type_index texts index.paths

-- Some name and texts do.
abbrev pub IsAsked : List Schema → Index → Type 0
IsAsked schemas index = (name : Name) × (texts : List (List ℕ)) × AsksFor schemas name texts index

-- Each can be asked for, none is there twice, and there are no more than can be kept.
pub record AreIndexes (schemas : List Schema) (indexes : List Index) : Type 0 where
  pub asked : All (IsAsked schemas) indexes
  pub apart : AllPairs (λ earlier later. earlier ≢ later) indexes
  pub few : length indexes ≤ number_of_limit Indexes

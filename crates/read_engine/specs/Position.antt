-- Where a consumer stands: the state that it has, and the rows before the last step.
use Rattle.std.specs.Prelude.{◌≡◌, ◌<◌, ◌≤◌, ℕ, ℤ, List, All, Some, length, refl, slice_get}
use Rattle.std.specs.Coded.{Coded, code_by, coded×, coded_ℕ, coded_ℤ, coded_list}
use Rattle.std.specs.FinMap.{code}
use Rattle.schema_model.specs.declared.limit.Limit.TheVariants.{Indexes, Walks}
use Rattle.schema_model.specs.declared.model.path.Path.{Path}
use Rattle.schema_model.specs.declared.model.walk_path.WalkPath.{WalkPath}
use Rattle.schema_model.specs.declared.schema.Schema.{Schema}
use Rattle.schema_model.specs.contracts.model.path.Path as path_contract
use Rattle.schema_model.specs.contracts.model.walk_path.WalkPath as walk_contract
use Rattle.schema_model.specs.contracts.schema.Schema as schema_contract
use Rattle.row_model.specs.contracts.row.Row as row_contract
use Rattle.row_model.specs.Key.{IsResolved}
use Rattle.schema_model.specs.Limit.{number_of_limit}
use Rattle.schema_model.specs.Model.{IsModel}
use Rattle.schema_model.specs.WalkPath.{WalkResolves}
use Rattle.row_model.specs.Table.{Table, IsClosed, IsTableOf}
use Rattle.type_state.specs.State.{Half, half_code}
use Rattle.type_state.specs.Views.{table_of}

-- An index that is kept: its type, and the paths of its key.
pub record Index : Type 0 where
  pub type_index : ℕ
  pub paths : List Path

-- The tag and the model of the state, the rows and the layout of each type, the rows of the state before, which after a load are the same, and
-- the indexes and the walk indexes that are kept, each of these by its path.
pub record Position : Type 0 where
  pub tag : ℤ
  pub schemas : List Schema
  pub halves : List Half
  pub before : Table
  pub indexes : List Index
  pub walks : List WalkPath

-- The rows of the state.
abbrev pub rows_now : Position → Table
rows_now position = table_of position.halves

-- Something is so of the type at an index, by its schema and its half.
abbrev pub IsOfType : Position → ℕ → (Schema → Half → Type 0) → Type 0
IsOfType position t Is = (schema : Schema) (half : Half) → slice_get position.schemas t ≡ Some schema → slice_get position.halves t ≡ Some half → Is schema half

-- The paths of an index are resolved paths of its type.
pub record IsIndexOf (schemas : List Schema) (index : Index) : Type 0 where
  pub type_there : index.type_index < length schemas
  pub resolved : All (IsResolved schemas index.type_index) index.paths

-- The path of a walk index is one to which a text resolves in the model.
pub record IsWalkOf (schemas : List Schema) (path : WalkPath) : Type 0 where
  pub type_there : path.type_index < length schemas
  pub text : List ℕ
  pub resolved : WalkResolves schemas path.type_index text path

-- What is known wherever the blobs came from: both states are closed tables of the model, and its indexes and walk indexes are few.
pub record IsPosition (position : Position) : Type 0 where
  pub model : IsModel position.schemas
  pub rows : IsTableOf position.schemas (rows_now position)
  pub closed : IsClosed position.schemas (rows_now position)
  pub rows_before : IsTableOf position.schemas position.before
  pub closed_before : IsClosed position.schemas position.before
  pub indexes : All (IsIndexOf position.schemas) position.indexes
  pub few : length position.indexes ≤ number_of_limit Indexes
  pub walks : All (IsWalkOf position.schemas) position.walks
  pub few_walks : length position.walks ≤ number_of_limit Walks

abbrev pub index_code : Coded Index
index_code = code_by (ℕ × List Path) (coded× coded_ℕ (coded_list (path_contract.the_row).coded)) (λ i. (i.type_index, i.paths)) (λ p. record { type_index = p.0; paths = p.1 }) (λ _. refl)

abbrev pub position_code : Coded Position
position_code =
    code_by (ℤ × (List Schema × (List Half × (Table × (List Index × List WalkPath)))))
    (coded× coded_ℤ (coded× (coded_list (schema_contract.the_row).coded) (coded× (coded_list half_code) (coded× (coded_list (code coded_ℕ (row_contract.the_row).coded)) (coded× (coded_list index_code) (coded_list (walk_contract.the_row).coded))))))
    (λ p. (p.tag, (p.schemas, (p.halves, (p.before, (p.indexes, p.walks)))))) (λ p. record { tag = p.0; schemas = p.1.0; halves = p.1.1.0; before = p.1.1.1.0; indexes = p.1.1.1.1.0; walks = p.1.1.1.1.1 }) (λ _. refl)

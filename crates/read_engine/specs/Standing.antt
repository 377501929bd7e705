-- What a consumer keeps: a tag where it has a state, the states of the model's types, what the last step changed of each, the indexes and the walk indexes.
use Rattle.std.specs.Prelude.{◌≡◌, ℤ, List, [], Option, None, Some, All, map}
use Rattle.std.specs.List.{AllZip}
use Rattle.std.specs.Option.{option_map}
use Rattle.schema_model.specs.declared.schema.Schema.{Schema}
use Rattle.type_state.specs.State.{State}
use Rattle.type_state.specs.Views.{table_of}
use Rattle.key_index.specs.Indexed.{Indexed}
use Rattle.hol_paths.specs.Walked.{Walked}
use Rattle.state_moves.specs.Halves.{current_halves}
use Rattle.row_model.specs.Before.{FitsPast, PastPart, table_before}
use Rattle.read_engine.specs.Kept.{IsKept, IsWalkKept, index_kept, paths_of}
use Rattle.read_engine.specs.Position.{Position, IsPosition}

-- the position of a consumer that has a state
abbrev pub position_of : ℤ → List Schema → List State → List PastPart → List Indexed → List Walked → Position
position_of tag schemas states past kept walked = record {
  tag = tag;
  schemas = schemas;
  halves = current_halves states;
  before = table_before (table_of (current_halves states)) past;
  indexes = map index_kept kept;
  walks = paths_of walked;
}

-- The states are those of the model's types, what is kept fits their current rows, both tables are closed tables of the model, and the indexes
-- and walk indexes are those of the current rows.
pub record IsStanding (tag : ℤ) (schemas : List Schema) (states : List State) (past : List PastPart) (kept : List Indexed) (walked : List Walked) : Type 0 where
  pub named : map (λ state. state.schema) states ≡ schemas
  pub fits : AllZip FitsPast (table_of (current_halves states)) past
  pub position : IsPosition (position_of tag schemas states past kept walked)
  pub indexes : All (IsKept schemas (table_of (current_halves states))) kept
  pub walks : All (IsWalkKept schemas (table_of (current_halves states))) walked

-- Where a consumer stands that keeps this: nowhere without a tag.
abbrev pub stands_at : Option ℤ → List Schema → List State → List PastPart → List Indexed → List Walked → Option Position
stands_at tag schemas states past kept walked = option_map (λ at. position_of at schemas states past kept walked) tag

-- Nothing is kept.
pub record KeepsNothing (schemas : List Schema) (states : List State) (past : List PastPart) (kept : List Indexed) (walked : List Walked) : Type 0 where
  pub no_types : schemas ≡ []
  pub no_states : states ≡ []
  pub no_past : past ≡ []
  pub no_indexes : kept ≡ []
  pub no_walks : walked ≡ []

-- With a tag this is kept of a state, and without one nothing is.
abbrev pub HasParts : Option ℤ → List Schema → List State → List PastPart → List Indexed → List Walked → Type 0
HasParts None schemas states past kept walked = KeepsNothing schemas states past kept walked
HasParts (Some tag) schemas states past kept walked = IsStanding tag schemas states past kept walked

-- What the rows under some ordinals reach, and what they name: one level of a walk.
use Rattle.std.specs.Prelude.{◌≢◌, ◌↔◌, ℕ, List, [], Option, Some, None, AllPairs, Contains}
use Rattle.std.specs.List.{flat_map}
use Rattle.std.specs.Option.{option_to_list}
use Rattle.schema_model.specs.declared.model.walk_path.WalkPart.{WalkPart}
use Rattle.schema_model.specs.declared.model.walk_path.WalkPart.TheVariants.{Field as FieldPart}
use Rattle.schema_model.specs.declared.schema.Schema.{Schema}
use Rattle.row_model.specs.declared.row.Row.{Row}
use Rattle.row_model.specs.declared.row.Value.{Value}
use Rattle.row_model.specs.Key.{unless_null, value_in}
use Rattle.row_model.specs.Reach.{Reach, named_by}
use Rattle.row_model.specs.Row.{Rises}
use Rattle.row_model.specs.Table.{Table, row_at}

-- These are the values that the row under an ordinal reaches, each once.
pub record AreReached (schemas : List Schema) (table : Table) (type_index : ℕ) (parts : List WalkPart) (ordinal : ℕ) (values : List Value) : Type 0 where
  pub once : AllPairs (λ earlier later. earlier ≢ later) values
  pub are : (value : Value) → Contains values value ↔ Reach schemas table type_index parts ordinal value

-- The row under one of some ordinals reaches the value.
abbrev pub ReachFrom : List Schema → Table → ℕ → List WalkPart → List ℕ → Value → Type 0
ReachFrom schemas table t parts ordinals value = (ordinal : ℕ) × Contains ordinals ordinal × Reach schemas table t parts ordinal value

-- These are the values that the rows under some ordinals reach, each once.
pub record AreReachedFrom (schemas : List Schema) (table : Table) (type_index : ℕ) (parts : List WalkPart) (ordinals : List ℕ) (values : List Value) : Type 0 where
  pub once : AllPairs (λ earlier later. earlier ≢ later) values
  pub are : (value : Value) → Contains values value ↔ ReachFrom schemas table type_index parts ordinals value

-- ---- one level

-- the ordinals that a row names by a part, if there is a row
abbrev pub named_in : WalkPart → Option Row → List ℕ
named_in part None = []
named_in part (Some row) = named_by part row

-- the ordinals that the row under an ordinal names by a part
abbrev pub named_at : Table → ℕ → WalkPart → ℕ → List ℕ
named_at table t part ordinal = named_in part (row_at table t ordinal)

-- the value that a row has at a part that is a field, where it is not null
abbrev pub values_in : WalkPart → Option Row → List Value
values_in (FieldPart i) row = option_to_list (unless_null (value_in row i))
values_in part row = []

-- the value that the row under an ordinal has at a part that is a field, where it is not null
abbrev pub values_by : Table → ℕ → WalkPart → ℕ → List Value
values_by table t part ordinal = values_in part (row_at table t ordinal)

-- The same numbers, each once and rising.
pub record AreRisingOf (numbers rising : List ℕ) : Type 0 where
  pub rises : Rises rising
  pub same : (number : ℕ) → Contains rising number ↔ Contains numbers number

-- The same values, each once.
pub record AreOnceOf (values once : List Value) : Type 0 where
  pub apart : AllPairs (λ earlier later. earlier ≢ later) once
  pub same : (value : Value) → Contains once value ↔ Contains values value

-- These are the ordinals that the rows under some ordinals name by a part, rising.
abbrev pub AreNamed : Table → ℕ → WalkPart → List ℕ → List ℕ → Type 0
AreNamed table t part level named = AreRisingOf (flat_map (named_at table t part) level) named

-- a part that is no field
abbrev pub IsNoField : WalkPart → Type 0
IsNoField (FieldPart i) = ⊥
IsNoField part = Unit {0}

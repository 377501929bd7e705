-- What a row reaches along the parts of a walk path: values, of which it may reach many.
use Rattle.std.specs.Prelude.{◌≡◌, ◌≢◌, ◌↔◌, ℕ, List, [], ◌∷◌, Option, Some, AllPairs, Contains, map, option_and_then, slice_get}
use Rattle.std.specs.Option.{option_to_list}
use Rattle.schema_model.specs.WalkPath.{part_kind}
use Rattle.schema_model.specs.declared.model.walk_path.WalkPart.{WalkPart}
use Rattle.schema_model.specs.declared.model.walk_path.WalkPart.TheVariants.{Field as FieldPart, Element, MapKey, MapValue}
use Rattle.schema_model.specs.declared.schema.Schema.{Schema}
use Rattle.row_model.specs.declared.row.Row.{Row}
use Rattle.row_model.specs.declared.row.Value.{Value}
use Rattle.row_model.specs.Key.{ordinal_in, target_of, unless_null, value_in}
use Rattle.row_model.specs.Row.{Rises}
use Rattle.row_model.specs.Table.{Table, IsLive, row_at}

-- the ordinals that a row names by a part, in its order
abbrev pub named_by : WalkPart → Row → List ℕ
named_by (FieldPart i) (Row.Object values) = option_to_list (ordinal_in (slice_get values i))
named_by Element (Row.List ordinals) = ordinals
named_by Element (Row.Set ordinals) = ordinals
named_by MapKey (Row.Map pairs) = map (λ pair. pair.0) pairs
named_by MapValue (Row.Map pairs) = map (λ pair. pair.1) pairs
named_by part row = []

-- the type of the rows that a part of the type at an index names
abbrev pub type_by : List Schema → ℕ → WalkPart → Option ℕ
type_by schemas t part = option_and_then (λ schema. option_and_then (λ kind. target_of schemas kind) (part_kind schema.shape part)) (slice_get schemas t)

-- The row under an ordinal reaches a value along these parts: the last one is a field that has it, and is not null; each one before names a row that
-- reaches it along the rest.
abbrev pub Reach : List Schema → Table → ℕ → List WalkPart → ℕ → Value → Type 0
Reach schemas table type_index [] ordinal value = ⊥
Reach schemas table type_index (FieldPart field ∷ []) ordinal value = unless_null (value_in (row_at table type_index ordinal) field) ≡ Some value
Reach schemas table type_index (part ∷ []) ordinal value = ⊥
Reach schemas table type_index (part ∷ next ∷ rest) ordinal value =
    (target : ℕ) × (row : Row) × (named : ℕ) × (type_by schemas type_index part ≡ Some target) × (row_at table type_index ordinal ≡ Some row) × Contains (named_by part row) named
    × Reach schemas table target (next ∷ rest) named value

-- These are the live ordinals of a type whose rows reach the value, rising.
pub record AreWalkMatches (schemas : List Schema) (table : Table) (type_index : ℕ) (parts : List WalkPart) (value : Value) (ordinals : List ℕ) : Type 0 where
  pub rising : Rises ordinals
  pub are : (ordinal : ℕ) → Contains ordinals ordinal ↔ (IsLive table type_index ordinal × Reach schemas table type_index parts ordinal value)

-- These are the live ordinals of a type whose rows reach a value, rising.
pub record AreWalked (schemas : List Schema) (table : Table) (type_index : ℕ) (parts : List WalkPart) (ordinals : List ℕ) : Type 0 where
  pub rising : Rises ordinals
  pub are : (ordinal : ℕ) → Contains ordinals ordinal ↔ (IsLive table type_index ordinal × (value : Value) × Reach schemas table type_index parts ordinal value)

-- These are the entries of an index along the parts: the pairs of a live ordinal and a value that its row reaches, each once.
pub record AreEntries (schemas : List Schema) (table : Table) (type_index : ℕ) (parts : List WalkPart) (entries : List (ℕ × Value)) : Type 0 where
  pub once : AllPairs (λ earlier later. earlier ≢ later) entries
  pub are : (ordinal : ℕ) (value : Value) → Contains entries (ordinal, value) ↔ (IsLive table type_index ordinal × Reach schemas table type_index parts ordinal value)

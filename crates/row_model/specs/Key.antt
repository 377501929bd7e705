-- Keys of rows: the values at the ends of key paths, and the rows that have a key.
use Rattle.std.specs.Prelude.{◌≡◌, ◌↔◌, ℕ, List, [], ◌∷◌, Option, Some, None, IsSome, Contains, slice_get, option_and_then}
use Rattle.std.specs.Option.{option_map}
use Rattle.schema_model.specs.declared.model.path.Path.{Path}
use Rattle.schema_model.specs.declared.schema.FieldKind.{FieldKind}
use Rattle.schema_model.specs.declared.schema.Schema.{Schema}
use Rattle.row_model.specs.declared.row.Row.{Row}
use Rattle.row_model.specs.declared.row.Value.{Value}
use Rattle.schema_model.specs.Parts.{fields_of, index_of_type, referenced}
use Rattle.schema_model.specs.Path.{Resolves}
use Rattle.row_model.specs.Row.{Rises}
use Rattle.row_model.specs.Table.{Table, IsLive, row_at}

-- The path is one to which a text resolves, from the type at an index.
abbrev pub IsResolved : List Schema → ℕ → Path → Type 0
IsResolved schemas t path = (text : List ℕ) × Resolves schemas t text path

-- the kind of a field of the type at an index
abbrev pub kind_in : List Schema → ℕ → ℕ → Option FieldKind
kind_in schemas t field = option_and_then (λ schema. option_map (λ f. f.kind) (slice_get (fields_of schema) field)) (slice_get schemas t)

-- the type to which a REFERENCE leads
abbrev pub target_of : List Schema → FieldKind → Option ℕ
target_of schemas kind = option_and_then (λ name. index_of_type schemas name) (referenced kind)

-- the type to which a field of the type at an index leads
abbrev pub type_behind : List Schema → ℕ → ℕ → Option ℕ
type_behind schemas t field = option_and_then (λ kind. target_of schemas kind) (kind_in schemas t field)

-- the kind of the field at which fields end
abbrev pub kind_along : List Schema → ℕ → List ℕ → Option FieldKind
kind_along schemas t [] = None
kind_along schemas t (field ∷ []) = kind_in schemas t field
kind_along schemas t (field ∷ next ∷ rest) = option_and_then (λ u. kind_along schemas u (next ∷ rest)) (type_behind schemas t field)

-- the value of a field of a record
abbrev pub value_in : Option Row → ℕ → Option Value
value_in (Some (Row.Object values)) field = slice_get values field
value_in _ field = None

-- the ordinal that a value names
abbrev pub ordinal_in : Option Value → Option ℕ
ordinal_in (Some (Value.Ref ordinal)) = Some ordinal
ordinal_in _ = None

-- a value that is not null
abbrev pub unless_null : Option Value → Option Value
unless_null (Some Value.Null) = None
unless_null value = value

-- The value to which fields lead from the row under an ordinal; none where a null stands on the way or at its end.
abbrev pub value_along : List Schema → Table → ℕ → ℕ → List ℕ → Option Value
value_along schemas table type_index ordinal [] = None
value_along schemas table type_index ordinal (field ∷ []) = unless_null (value_in (row_at table type_index ordinal) field)
value_along schemas table type_index ordinal (field ∷ next ∷ rest) =
    option_and_then (λ target. option_and_then (λ named. value_along schemas table target named (next ∷ rest)) (ordinal_in (value_in (row_at table type_index ordinal) field)))
    (type_behind schemas type_index field)

-- a first thing before others, where all are there
abbrev pub with_first : {A : Type 0} → Option A → Option (List A) → Option (List A)
with_first (Some first) (Some rest) = Some (first ∷ rest)
with_first _ _ = None

-- The key of the row under an ordinal: the values at the ends of the paths; none where a null stands on one of them.
abbrev pub key_of : List Schema → Table → ℕ → List Path → ℕ → Option (List Value)
key_of schemas table t [] ordinal = Some []
key_of schemas table t (path ∷ paths) ordinal = with_first (value_along schemas table t ordinal path.fields) (key_of schemas table t paths ordinal)

-- These are the live ordinals of a type whose rows have the key, rising.
pub record AreMatches (schemas : List Schema) (table : Table) (type_index : ℕ) (paths : List Path) (key : List Value) (ordinals : List ℕ) : Type 0 where
  pub rising : Rises ordinals
  pub are : (ordinal : ℕ) → Contains ordinals ordinal ↔ (IsLive table type_index ordinal × (key_of schemas table type_index paths ordinal ≡ Some key))

-- These are the live ordinals of a type whose rows have a key, rising.
pub record AreKeyed (schemas : List Schema) (table : Table) (type_index : ℕ) (paths : List Path) (ordinals : List ℕ) : Type 0 where
  pub rising : Rises ordinals
  pub are : (ordinal : ℕ) → Contains ordinals ordinal ↔ (IsLive table type_index ordinal × IsSome (key_of schemas table type_index paths ordinal))

-- The rules that a list of schemas keeps to be a model, in the order in which they are tried, and the rule that a list breaks first.
use Rattle.std.specs.Prelude.{◌≡◌, ℕ, zero, suc, ◌<◌, ◌≤◌, ◌⊎◌, List, [], Option, Some, None, map, length, take, slice_get, slice_index_or, Any, Contains, SomeIndex}
use Rattle.std.specs.List.{filter_map}
use Rattle.hol_varint.specs.JavaUtf.{java_bytes}
use Rattle.hol_varint.specs.TextUnits.{text_units}
use Rattle.schema_model.specs.Parts.{fields_of, field_names, shape_key, named_types, texts_of, type_names, index_of_type}
use Rattle.schema_model.specs.Path.{path_names, Leads}
use Rattle.schema_model.specs.declared.schema.Schema.{Schema}
use Rattle.schema_model.specs.declared.model.rule.Rule.{Rule}
use Rattle.schema_model.specs.declared.model.rule.Rule.TheVariants.{TooMany, LongName, DuplicateName, FloatField, UnknownType, CyclicModel, TooDeep, BadPath}

-- The name at an index stands earlier in the list too.
abbrev pub StandsEarlier : List (List ℕ) → ℕ → Type 0
StandsEarlier names i = Contains (take i names) (slice_index_or names i [])

-- the types that a type names, by their indexes; a name of no type is passed over
abbrev pub named_indexes : List Schema → Schema → List ℕ
named_indexes schemas schema = filter_map (index_of_type schemas) (named_types schema)

-- the types that each type names, by their indexes
abbrev pub type_graph : List Schema → List (List ℕ)
type_graph schemas = map (named_indexes schemas) schemas

-- From the type at an index a chain of this many references can be followed.
unfoldable pub HasChain : List (List ℕ) → ℕ → ℕ → Type 0
HasChain rows zero t = t < length rows
HasChain rows (suc n) t = Any (HasChain rows n) (slice_index_or rows t [])

-- A key path of the type at an index leads nowhere.
abbrev pub IsBadPath : List Schema → ℕ → List ℕ → Type 0
IsBadPath schemas t text = (fields : List ℕ) → ¬ Leads schemas t (path_names text) fields

-- A primary key without a path, or with one that leads nowhere.
abbrev pub IsBadKey : List Schema → ℕ → Option (List (List ℕ)) → Type 0
IsBadKey schemas t None = ⊥
IsBadKey schemas t (Some paths) = (paths ≡ []) ⊎ Any (IsBadPath schemas t) paths

-- A name or a path that has more bytes of Java UTF than two bytes of length can say.
abbrev pub IsLongText : List ℕ → Type 0
IsLongText text = 65535 < length (java_bytes (text_units text))

-- The type at an index, which has this schema, breaks a rule:
-- it is past the 512th, or has more than 1,024 fields;
-- a text of its schema is too long to be spelled;
-- its name stands earlier, or a field's name does within it;
-- (a field of these schemas is never FLOAT or DOUBLE);
-- it names a type that is not there;
-- its references lead into a cycle, so that chains of every length begin at it;
-- it stands at the top of a chain of more than 32 types;
-- it has a primary key without a path, or with one that does not resolve.
abbrev pub Breaks : List Schema → Rule → ℕ → Schema → Type 0
Breaks schemas TooMany t s = (512 ≤ t) ⊎ (1024 < length (fields_of s))
Breaks schemas LongName t s = Any IsLongText (texts_of s)
Breaks schemas DuplicateName t s = StandsEarlier (type_names schemas) t ⊎ SomeIndex (field_names (fields_of s)) (StandsEarlier (field_names (fields_of s)))
Breaks schemas FloatField t s = ⊥
Breaks schemas UnknownType t s = Any (λ name. index_of_type schemas name ≡ None) (named_types s)
Breaks schemas CyclicModel t s = (n : ℕ) → HasChain (type_graph schemas) n t
Breaks schemas TooDeep t s = HasChain (type_graph schemas) 32 t
Breaks schemas BadPath t s = IsBadKey schemas t (shape_key s.shape)

-- The list has a type at this index, and it breaks the rule.
abbrev pub BreaksAt : List Schema → Rule → ℕ → Type 0
BreaksAt schemas rule t = (s : Schema) × (slice_get schemas t ≡ Some s) × Breaks schemas rule t s

-- This is the first type that breaks the rule.
pub record IsFirstBreaking (schemas : List Schema) (rule : Rule) (type_index : ℕ) : Type 0 where
  pub broken : BreaksAt schemas rule type_index
  pub least : (index : ℕ) → index < type_index → ¬ BreaksAt schemas rule index

-- No type breaks the rule.
abbrev pub IsKept : List Schema → Rule → Type 0
IsKept schemas rule = (t : ℕ) → ¬ BreaksAt schemas rule t

-- the place of a rule in the order in which they are tried
abbrev pub rule_place : Rule → ℕ
rule_place TooMany = 0
rule_place LongName = 1
rule_place DuplicateName = 2
rule_place FloatField = 3
rule_place UnknownType = 4
rule_place CyclicModel = 5
rule_place TooDeep = 6
rule_place BadPath = 7

-- The schemas are a model: no type breaks a rule.
abbrev pub IsModel : List Schema → Type 0
IsModel schemas = (rule : Rule) → IsKept schemas rule

-- This is the first rule that some type breaks, and the first type that breaks it.
pub record IsFirstBroken (schemas : List Schema) (rule : Rule) (type_index : ℕ) : Type 0 where
  pub earlier : (before : Rule) → rule_place before < rule_place rule → IsKept schemas before
  pub broken : BreaksAt schemas rule type_index
  pub least : (index : ℕ) → index < type_index → ¬ BreaksAt schemas rule index

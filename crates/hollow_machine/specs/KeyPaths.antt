-- The paths of a key that an order asks for: those that it gives, or those of the primary key.
use Rattle.std.specs.Prelude.{◌≡◌, ◌⊎◌, ℕ, List, [], ◌∷◌, ◌++◌, Option, Some, None, IsSomeAnd, slice_get}
use Rattle.std.specs.List.{AllZip}
use Rattle.serde_json.specs.Data.{Data, string, array, Items, no_items, item}
use Rattle.schema_model.specs.declared.model.path.Path.{Path}
use Rattle.schema_model.specs.declared.schema.name.Name.{Name}
use Rattle.schema_model.specs.declared.schema.Schema.{Schema}
use Rattle.schema_model.specs.declared.schema.Shape.{Shape}
use Rattle.schema_model.specs.Parts.{shape_key}
use Rattle.schema_model.specs.Path.{Resolves}
use Rattle.hol_answers.specs.declared.refusal.Refusal.{Refusal}
use Rattle.hol_answers.specs.declared.refusal.Refusal.TheVariants.{BadPath, WrongKind}

-- The shape is that of records.
abbrev pub IsObject : Shape → Type 0
IsObject (Shape.Object key fields) = Unit {0}
IsObject _ = ⊥

-- The shape is that of sets.
abbrev pub IsSet : Shape → Type 0
IsSet (Shape.Set element) = Unit {0}
IsSet _ = ⊥

-- The shape is that of maps.
abbrev pub IsMap : Shape → Type 0
IsMap (Shape.Map key value) = Unit {0}
IsMap _ = ⊥

-- The type at an index has such a shape.
abbrev pub HasShape : (Shape → Type 0) → List Schema → ℕ → Type 0
HasShape Is schemas t = IsSomeAnd (slice_get schemas t) (λ schema. Is schema.shape)

-- the text that a value is, if it is one
abbrev pub text_in : Data → List (List ℕ)
text_in (string text) = text ∷ []
text_in json = []

-- the texts of an array of texts
abbrev pub texts_in : Items → List (List ℕ)
texts_in no_items = []
texts_in (item json rest) = text_in json ++ texts_in rest

abbrev pub texts_of_array : Data → List (List ℕ)
texts_of_array (array items) = texts_in items
texts_of_array _ = []

-- The texts of the paths of a key: those that are given, and where none is those of the primary key, if there is one.
abbrev pub key_texts : Shape → List (List ℕ) → Option (List (List ℕ))
key_texts shape [] = shape_key shape
key_texts shape (text ∷ texts) = Some (text ∷ texts)

-- These are the texts of the paths of a key of the type at an index, or there is none.
abbrev pub HasKeyTexts : List Schema → ℕ → List (List ℕ) → Option (List (List ℕ)) → Type 0
HasKeyTexts schemas t texts asked = IsSomeAnd (slice_get schemas t) (λ schema. key_texts schema.shape texts ≡ asked)

-- These are the paths of the key: each text resolves to its path.
abbrev pub AreKeyPaths : List Schema → ℕ → List (List ℕ) → List Path → Type 0
AreKeyPaths schemas type_index texts paths =
    (asked : List (List ℕ)) × HasKeyTexts schemas type_index texts (Some asked) × AllZip (λ text path. Resolves schemas type_index text path) asked paths

-- The first of some texts that resolves to no path.
abbrev pub IsFirstLost : List Schema → ℕ → List (List ℕ) → List ℕ → Type 0
IsFirstLost schemas type_index [] lost = ⊥
IsFirstLost schemas type_index (text ∷ texts) lost =
    ((lost ≡ text) × ((path : Path) → ¬ Resolves schemas type_index text path)) ⊎ (((path : Path) × Resolves schemas type_index text path) × IsFirstLost schemas type_index texts lost)

-- The text that does not lead to a key: the first one that does not resolve, or an empty one where there is no primary key to ask for.
abbrev pub IsBadPath : List Schema → ℕ → List (List ℕ) → List ℕ → Type 0
IsBadPath schemas type_index texts lost =
    (HasKeyTexts schemas type_index texts None × (lost ≡ [])) ⊎ ((asked : List (List ℕ)) × HasKeyTexts schemas type_index texts (Some asked) × IsFirstLost schemas type_index asked lost)

-- Why a type at an index, which has this name, has no such key: its rows are no records; or a text does not lead to a key.
abbrev pub PathsRefusal : List Schema → ℕ → Name → List (List ℕ) → Refusal → Type 0
PathsRefusal schemas type_index name texts (WrongKind other) = (other ≡ name) × ¬ HasShape IsObject schemas type_index
PathsRefusal schemas type_index name texts (BadPath lost) = HasShape IsObject schemas type_index × IsBadPath schemas type_index texts lost
PathsRefusal schemas type_index name texts _ = ⊥

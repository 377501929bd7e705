-- The fields that a key path goes through.
use Rattle.std.specs.Prelude.{◌≡◌, ℕ, ◌==◌, List, [], ◌∷◌, Some, None, slice_get}
use Rattle.std.specs.List.{slice_split}
use Rattle.schema_model.specs.Parts.{fields_of, referenced, index_of_type}
use Rattle.schema_model.specs.declared.model.path.Path.{Path}
use Rattle.schema_model.specs.declared.schema.Field.{Field}
use Rattle.schema_model.specs.declared.schema.FieldKind.{FieldKind}
use Rattle.schema_model.specs.declared.schema.Schema.{Schema}

-- the names of a path's text, which is cut at each '.'
abbrev pub path_names : List ℕ → List (List ℕ)
path_names text = slice_split (λ b. b == 46) text

-- The type at an index is an OBJECT that has this field at this place.
abbrev pub HasField : List Schema → ℕ → ℕ → Field → Type 0
HasField schemas t i field = (s : Schema) × (slice_get schemas t ≡ Some s) × (slice_get (fields_of s) i ≡ Some field)

-- The type at an index is an OBJECT that has this field and no other.
abbrev pub HasOnlyField : List Schema → ℕ → Field → Type 0
HasOnlyField schemas t field = (s : Schema) × (slice_get schemas t ≡ Some s) × (fields_of s ≡ field ∷ [])

-- A field of this kind refers to the type at an index.
abbrev pub RefersTo : List Schema → FieldKind → ℕ → Type 0
RefersTo schemas kind t = (name : List ℕ) × (referenced kind ≡ Some name) × (index_of_type schemas name ≡ Some t)

-- Where its names are used up, a path ends at a field that is no REFERENCE, or goes on through the only field of the referenced OBJECT.
abbrev pub GoesOn : List Schema → FieldKind → List ℕ → Type 0
GoesOn schemas kind [] = referenced kind ≡ None
GoesOn schemas kind (place ∷ more) =
    (target : ℕ) × (field : Field) × RefersTo schemas kind target × HasOnlyField schemas target field × (place ≡ 0) × GoesOn schemas field.kind more

-- From the type at an index these names lead through these fields, each by its place in its type, to a value.
abbrev pub Leads : List Schema → ℕ → List (List ℕ) → List ℕ → Type 0
Leads schemas type_index [] fields = ⊥
Leads schemas type_index (name ∷ names) [] = ⊥
Leads schemas type_index (name ∷ []) (place ∷ more) = (field : Field) × HasField schemas type_index place field × (field.name ≡ name) × GoesOn schemas field.kind more
Leads schemas type_index (name ∷ next ∷ names) (place ∷ more) =
    (field : Field) × (target : ℕ) × HasField schemas type_index place field × (field.name ≡ name) × RefersTo schemas field.kind target × Leads schemas target (next ∷ names) more

-- The path resolves a text: it begins at the type, and goes through the fields to which the text's names lead.
abbrev pub Resolves : List Schema → ℕ → List ℕ → Path → Type 0
Resolves schemas t text path = (path.type_index ≡ t) × Leads schemas t (path_names text) path.fields

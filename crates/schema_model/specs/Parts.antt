-- The parts of a schema that rules and paths speak of: its fields, the types that it names, its key paths, and all its texts.
use Rattle.std.specs.Prelude.{◌≢◌, ℕ, AllPairs, List, [], ◌∷◌, ◌++◌, Option, Some, None, map}
use Rattle.std.specs.List.{filter_map, flat_map, position_from}
use Rattle.std.specs.Option.{option_to_list, unwrap_or}
use Rattle.std.specs.Str.{bytes_eq}
use Rattle.schema_model.specs.declared.schema.Field.{Field}
use Rattle.schema_model.specs.declared.schema.FieldKind.{FieldKind}
use Rattle.schema_model.specs.declared.schema.FieldKind.TheVariants.{Reference, Int, Long, Boolean, Text, Bytes}
use Rattle.schema_model.specs.declared.schema.Schema.{Schema}
use Rattle.schema_model.specs.declared.schema.Shape.{Shape}
use Rattle.schema_model.specs.declared.schema.Shape.TheVariants.{Object, Set, List as ListShape, Map}

-- the fields of an OBJECT, in order; the other shapes have none
abbrev pub shape_fields : Shape → List Field
shape_fields (Object key fields) = fields
shape_fields (Set element) = []
shape_fields (ListShape element) = []
shape_fields (Map key value) = []

abbrev pub fields_of : Schema → List Field
fields_of schema = shape_fields schema.shape

-- No two of these fields have one name.
abbrev pub AreApart : List Field → Type 0
AreApart fields = AllPairs (λ field other. field.name ≢ other.name) fields

-- the names of the fields
abbrev pub field_names : List Field → List (List ℕ)
field_names fields = map (λ f. f.name) fields

-- the key paths, where the shape is an OBJECT with a primary key
abbrev pub shape_key : Shape → Option (List (List ℕ))
shape_key (Object key fields) = key
shape_key (Set element) = None
shape_key (ListShape element) = None
shape_key (Map key value) = None

-- the type that a field refers to
abbrev pub referenced : FieldKind → Option (List ℕ)
referenced (Reference name) = Some name
referenced Int = None
referenced Long = None
referenced Boolean = None
referenced Text = None
referenced Bytes = None

-- the names of the types that the fields refer to, in order
abbrev pub referenced_names : List Field → List (List ℕ)
referenced_names fields = filter_map (λ f. referenced f.kind) fields

-- the names of the types that a shape names, in order
abbrev pub shape_names : Shape → List (List ℕ)
shape_names (Object key fields) = referenced_names fields
shape_names (Set element) = element ∷ []
shape_names (ListShape element) = element ∷ []
shape_names (Map key value) = key ∷ value ∷ []

abbrev pub named_types : Schema → List (List ℕ)
named_types schema = shape_names schema.shape

-- the texts of a field: its name, and that of the type that it refers to
abbrev pub field_texts : Field → List (List ℕ)
field_texts field = field.name ∷ option_to_list (referenced field.kind)

-- the texts of a shape: its key paths and those of its fields, or the types that it names
abbrev pub shape_texts : Shape → List (List ℕ)
shape_texts (Object key fields) = unwrap_or key [] ++ flat_map field_texts fields
shape_texts (Set element) = element ∷ []
shape_texts (ListShape element) = element ∷ []
shape_texts (Map key value) = key ∷ value ∷ []

-- all texts of a schema
abbrev pub texts_of : Schema → List (List ℕ)
texts_of schema = schema.name ∷ shape_texts schema.shape

-- the names of all types, in order
abbrev pub type_names : List Schema → List (List ℕ)
type_names schemas = map (λ s. s.name) schemas

-- the first index at which a name stands
abbrev pub name_index : List (List ℕ) → List ℕ → Option ℕ
name_index names name = position_from (λ n. bytes_eq n name) 0 names

-- the index of the type of this name
abbrev pub index_of_type : List Schema → List ℕ → Option ℕ
index_of_type schemas name = name_index (type_names schemas) name

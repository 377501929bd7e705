-- What a type of a list of schemas asks for, by its index.
use Rattle.std.specs.Prelude.{List, ℕ, Option, None, Some, slice_get, option_and_then, option_map}
use Rattle.schema_model.specs.declared.schema.Field.{Field}
use Rattle.schema_model.specs.declared.schema.FieldKind.{FieldKind}
use Rattle.schema_model.specs.declared.schema.Shape.{Shape}
use Rattle.schema_model.specs.declared.schema.Schema.{Schema}
use Rattle.schema_model.specs.Parts.{index_of_type}

-- the fields of an OBJECT
abbrev pub object_fields : Shape → Option (List Field)
object_fields (Shape.Object key fields) = Some fields
object_fields _ = None

-- the type of the elements of a LIST
abbrev pub list_element : List Schema → Shape → Option ℕ
list_element schemas (Shape.List element) = index_of_type schemas element
list_element schemas _ = None

-- the type of the elements of a SET
abbrev pub set_element : List Schema → Shape → Option ℕ
set_element schemas (Shape.Set element) = index_of_type schemas element
set_element schemas _ = None

-- the types of the keys and of the values of a MAP
abbrev pub map_types : List Schema → Shape → Option (ℕ × ℕ)
map_types schemas (Shape.Map key value) = option_and_then (λ k. option_map (λ v. (k, v)) (index_of_type schemas value)) (index_of_type schemas key)
map_types schemas _ = None

-- the type that a REFERENCE refers to
abbrev pub referred : List Schema → FieldKind → Option ℕ
referred schemas (FieldKind.Reference name) = index_of_type schemas name
referred schemas _ = None

-- the shape of the type at an index
abbrev pub shape_at : List Schema → ℕ → Option Shape
shape_at schemas t = option_map (λ schema. schema.shape) (slice_get schemas t)

-- The parts that a walk path goes through: fields of records, elements of lists and sets, keys and values of maps.
use Rattle.std.specs.Prelude.{◌≡◌, ℕ, List, [], ◌∷◌, Option, Some, None, codes, map, option_map, slice_get}
use Rattle.schema_model.specs.Path.{GoesOn, RefersTo, path_names}
use Rattle.schema_model.specs.declared.model.walk_path.WalkPart.{WalkPart}
use Rattle.schema_model.specs.declared.model.walk_path.WalkPart.TheVariants.{Field as FieldPart, Element, MapKey, MapValue}
use Rattle.schema_model.specs.declared.model.walk_path.WalkPath.{WalkPath}
use Rattle.schema_model.specs.declared.schema.FieldKind.{FieldKind}
use Rattle.schema_model.specs.declared.schema.FieldKind.TheVariants.{Reference}
use Rattle.schema_model.specs.declared.schema.Schema.{Schema}
use Rattle.schema_model.specs.declared.schema.Shape.{Shape}
use Rattle.schema_model.specs.declared.schema.Shape.TheVariants.{Object, Set, List as ListShape, Map}

-- the name of a part in the text of a path: that of the field, and of the other parts a word; none where a type of this shape has no such part
abbrev pub part_name : Shape → WalkPart → Option (List ℕ)
part_name (Object key fields) (FieldPart i) = option_map (λ field. field.name) (slice_get fields i)
part_name (Set element) Element = Some (codes "element")
part_name (ListShape element) Element = Some (codes "element")
part_name (Map key value) MapKey = Some (codes "key")
part_name (Map key value) MapValue = Some (codes "value")
part_name shape part = None

-- what stands at a part of a row of this shape; elements, keys and values are references
abbrev pub part_kind : Shape → WalkPart → Option FieldKind
part_kind (Object key fields) (FieldPart i) = option_map (λ field. field.kind) (slice_get fields i)
part_kind (Set element) Element = Some (Reference element)
part_kind (ListShape element) Element = Some (Reference element)
part_kind (Map key value) MapKey = Some (Reference key)
part_kind (Map key value) MapValue = Some (Reference value)
part_kind shape part = None

-- The type at an index has the part of this name, and this stands there.
pub record HasPart (schemas : List Schema) (type_index : ℕ) (name : List ℕ) (part : WalkPart) (kind : FieldKind) : Type 0 where
  pub schema : Schema
  pub at : slice_get schemas type_index ≡ Some schema
  pub named : part_name schema.shape part ≡ Some name
  pub holds : part_kind schema.shape part ≡ Some kind

-- Where its names are used up, a walk path ends at what is no reference, or goes on through the only field of the referenced OBJECT, as a key path does.
abbrev pub WalksOn : List Schema → FieldKind → List WalkPart → Type 0
WalksOn schemas kind parts = (fields : List ℕ) × (parts ≡ map FieldPart fields) × GoesOn schemas kind fields

-- From the type at an index these names lead through these parts to a value.
abbrev pub LeadsAlong : List Schema → ℕ → List (List ℕ) → List WalkPart → Type 0
LeadsAlong schemas type_index [] parts = ⊥
LeadsAlong schemas type_index (name ∷ names) [] = ⊥
LeadsAlong schemas type_index (name ∷ []) (part ∷ more) = (kind : FieldKind) × HasPart schemas type_index name part kind × WalksOn schemas kind more
LeadsAlong schemas type_index (name ∷ next ∷ names) (part ∷ more) =
    (kind : FieldKind) × (target : ℕ) × HasPart schemas type_index name part kind × RefersTo schemas kind target × LeadsAlong schemas target (next ∷ names) more

-- The walk path resolves a text, which is cut at each '.': it begins at the type, and goes through the parts to which the text's names lead.
abbrev pub WalkResolves : List Schema → ℕ → List ℕ → WalkPath → Type 0
WalkResolves schemas t text path = (path.type_index ≡ t) × LeadsAlong schemas t (path_names text) path.parts

-- When a model grows another one, and when two schemas of one name agree.
use Rattle.std.specs.Prelude.{◌≡◌, ◌<◌, ◌++◌, ℕ, List, Some, All, IsSomeAnd, slice_get}
use Rattle.schema_model.specs.declared.schema.Field.{Field}
use Rattle.schema_model.specs.declared.schema.Schema.{Schema}
use Rattle.schema_model.specs.declared.schema.Shape.{Shape}
use Rattle.schema_model.specs.declared.schema.Shape.TheVariants.{Object}

-- The later fields are the earlier ones, and perhaps more behind them.
abbrev pub AreInFront : List Field → List Field → Type 0
AreInFront fields grown = (more : List Field) × (grown ≡ fields ++ more)

-- The later shape is the earlier one, but that an OBJECT type may have more fields behind those that it had. Its primary key stays.
abbrev pub GrowsShape : Shape → Shape → Type 0
GrowsShape (Object key fields) (Object grown_key grown) = (grown_key ≡ key) × AreInFront fields grown
GrowsShape shape grown = grown ≡ shape

-- The later type has the same name, and a shape that grows the earlier one.
pub record GrowsType (schema grown : Schema) : Type 0 where
  pub named : grown.name ≡ schema.name
  pub shape : GrowsShape schema.shape grown.shape

-- The type of a model at this index is in another model at the same one, where it may have grown.
abbrev pub GrowsAt : List Schema → List Schema → ℕ → Type 0
GrowsAt schemas grown type_index = (schema : Schema) → slice_get schemas type_index ≡ Some schema → IsSomeAnd (slice_get grown type_index) (GrowsType schema)

-- A model grows another one: so are all of its types. It may have more types behind them.
abbrev pub Grows : List Schema → List Schema → Type 0
Grows schemas grown = (type_index : ℕ) → GrowsAt schemas grown type_index

-- This is the first type of a model that another one does not have, as it was or grown.
pub record IsNotGrown (schemas grown : List Schema) (type_index : ℕ) : Type 0 where
  pub not : ¬ GrowsAt schemas grown type_index
  pub first : (earlier : ℕ) → earlier < type_index → GrowsAt schemas grown earlier

-- If the fields have one name, they are of one kind.
abbrev pub IsOneKind : Field → Field → Type 0
IsOneKind field other = field.name ≡ other.name → field.kind ≡ other.kind

-- Fields of one name are of one kind.
abbrev pub KindsAgree : List Field → List Field → Type 0
KindsAgree fields others = All (λ field. All (IsOneKind field) others) fields

-- The shapes are the same, but that OBJECT types with one primary key, or both without one, may have other fields: those that have one name in both are of
-- one kind.
abbrev pub ShapesAgree : Shape → Shape → Type 0
ShapesAgree (Object key fields) (Object other_key others) = (key ≡ other_key) × KindsAgree fields others
ShapesAgree shape other = shape ≡ other

-- Two schemas of one name agree.
abbrev pub Agree : Schema → Schema → Type 0
Agree schema other = ShapesAgree schema.shape other.shape

-- The schemas of two models that have one name agree.
abbrev pub ModelsAgree : List Schema → List Schema → Type 0
ModelsAgree schemas others =
    (type_index other_index : ℕ) (schema other : Schema) → slice_get schemas type_index ≡ Some schema → slice_get others other_index ≡ Some other → schema.name ≡ other.name → Agree schema other

-- Schemas in JSON: the list of schemas that a value stands for, and which values are such lists at all.
-- An OBJECT is {"kind":"OBJECT","name":N,"fields":[F]}, with a member "key" where it has a primary key, the array of its paths;
-- a field F is {"name":N,"type":T}, with a member "to" where it is a REFERENCE; a LIST or a SET names its "element",
-- and a MAP its "key" and its "value". There are no other members.
use Rattle.std.specs.Prelude.{◌≡◌, ◌⊎◌, ℕ, suc, List, [], ◌∷◌, Option, Some, None, IsSomeAnd, codes}
use Rattle.serde_json.specs.Data.{Data, string, array, object, Items, no_items, item, Members, no_members, member}
use Rattle.serde_json.specs.Find.{get}
use Rattle.schema_model.specs.declared.schema.name.Name.{Name}
use Rattle.schema_model.specs.declared.schema.Field.{Field}
use Rattle.schema_model.specs.declared.schema.FieldKind.{FieldKind}
use Rattle.schema_model.specs.declared.schema.Schema.{Schema}
use Rattle.schema_model.specs.declared.schema.Shape.{Shape}
use Rattle.schema_model.specs.Schema.{kind_name}
use Rattle.closed_rows.specs.Dangling.{IsPlain}

-- how many members there are
abbrev pub count_members : Members → ℕ
count_members no_members = 0
count_members (member name value members) = suc (count_members members)

-- how many members an object has; the other values have none
abbrev pub member_count : Data → ℕ
member_count (object members) = count_members members
member_count _ = 0

-- The value has a member of this name, and it is this text.
abbrev pub HasText : Data → List ℕ → List ℕ → Type 0
HasText value name text = get name value ≡ Some (string text)

-- Each item stands for the one at its place.
abbrev pub ItemsAre : {A : Type 0} → (Data → A → Type 0) → Items → List A → Type 0
ItemsAre R no_items [] = Unit {0}
ItemsAre R (item value items) (one ∷ others) = R value one × ItemsAre R items others
ItemsAre R _ _ = ⊥

-- The value is an array, and each item stands for the one at its place.
abbrev pub IsArrayOf : {A : Type 0} → (Data → A → Type 0) → Data → List A → Type 0
IsArrayOf R (array items) things = ItemsAre R items things
IsArrayOf R _ things = ⊥

abbrev pub IsText : Data → Name → Type 0
IsText value text = value ≡ string text

-- the text names the kind of a field
abbrev pub IsKindName : FieldKind → List ℕ → Type 0
IsKindName kind text = text ≡ kind_name kind

-- The text names a type of fields that no model has.
abbrev pub IsFloatName : List ℕ → Type 0
IsFloatName text = (text ≡ codes "FLOAT") ⊎ (text ≡ codes "DOUBLE")

-- The text names the kind of a field, or FLOAT or DOUBLE. These are taken as BOOLEAN, since like a BOOLEAN they refer to no type.
abbrev pub IsKindOrFloat : FieldKind → List ℕ → Type 0
IsKindOrFloat kind text = (text ≡ kind_name kind) ⊎ ((kind ≡ FieldKind.Boolean) × IsFloatName text)

-- A REFERENCE has the type that it refers to as a third member, and the other fields have two.
abbrev pub HasTarget : Data → FieldKind → Type 0
HasTarget value (FieldKind.Reference to) = HasText value (codes "to") to × (member_count value ≡ 3)
HasTarget value _ = member_count value ≡ 2

-- The value is the JSON of a field, given which texts name its kind.
pub record IsField (Named : FieldKind → List ℕ → Type 0) (value : Data) (field : Field) : Type 0 where
  pub name : HasText value (codes "name") field.name
  pub kind : (text : List ℕ) × HasText value (codes "type") text × Named field.kind text
  pub target : HasTarget value field.kind

-- the name of a schema's kind
abbrev pub shape_name : Shape → List ℕ
shape_name (Shape.Object key fields) = codes "OBJECT"
shape_name (Shape.Set element) = codes "SET"
shape_name (Shape.List element) = codes "LIST"
shape_name (Shape.Map key element) = codes "MAP"

-- An OBJECT with a primary key has the paths as a fourth member.
abbrev pub HasKey : Data → Option (List Name) → Type 0
HasKey value None = (get (codes "key") value ≡ None) × (member_count value ≡ 3)
HasKey value (Some paths) = IsSomeAnd (get (codes "key") value) (λ found. IsArrayOf IsText found paths) × (member_count value ≡ 4)

-- The value has what the kind of a schema asks for, and no more than this, the name and the kind.
abbrev pub HasParts : (FieldKind → List ℕ → Type 0) → Data → Shape → Type 0
HasParts Named value (Shape.Object key fields) = IsSomeAnd (get (codes "fields") value) (λ found. IsArrayOf (IsField Named) found fields) × HasKey value key
HasParts Named value (Shape.Set element) = HasText value (codes "element") element × (member_count value ≡ 3)
HasParts Named value (Shape.List element) = HasText value (codes "element") element × (member_count value ≡ 3)
HasParts Named value (Shape.Map key element) = HasText value (codes "key") key × HasText value (codes "value") element × (member_count value ≡ 4)

-- The value is the JSON of a schema.
pub record IsSchema (Named : FieldKind → List ℕ → Type 0) (value : Data) (schema : Schema) : Type 0 where
  pub name : HasText value (codes "name") schema.name
  pub kind : HasText value (codes "kind") (shape_name schema.shape)
  pub parts : HasParts Named value schema.shape

-- The value stands for these schemas.
abbrev pub StandsFor : Data → List Schema → Type 0
StandsFor value schemas = IsArrayOf (IsSchema IsKindName) value schemas

-- The value stands for these schemas, but that a FLOAT or a DOUBLE is taken as a BOOLEAN.
abbrev pub StandsForWithFloats : Data → List Schema → Type 0
StandsForWithFloats value schemas = IsArrayOf (IsSchema IsKindOrFloat) value schemas

-- The value is a list of schemas in JSON, FLOAT and DOUBLE included.
abbrev pub AreSchemas : Data → Type 0
AreSchemas value = (schemas : List Schema) × StandsForWithFloats value schemas

-- What a look for a member that is a text tells.
abbrev pub TellsText : Data → List ℕ → Option (List ℕ) → Type 0
TellsText value name None = (text : List ℕ) → HasText value name text → ⊥
TellsText value name (Some text) = HasText value name text

-- What a look for a kind without a reference tells.
abbrev pub TellsKind : List ℕ → Option FieldKind → Type 0
TellsKind text None = (kind : FieldKind) → IsPlain kind → IsKindOrFloat kind text → ⊥
TellsKind text (Some kind) = IsPlain kind × IsKindOrFloat kind text

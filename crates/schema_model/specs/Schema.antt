-- The schema of a type as the bytes of a blob: a kind, the name, and what the kind asks for. All texts are Java UTF.
use Rattle.std.specs.Prelude.{List, [], ◌∷◌, ◌++◌, ℕ, ◌/◌, ◌%◌, ◌^◌, ◌<◌, ◌≤◌, Option, All, IfSome, codes, flat_map, length}
use Rattle.std.specs.Option.{option_map_or}
use Rattle.hol_varint.specs.JavaUtf.{java_bytes, utf_bytes}
use Rattle.hol_varint.specs.TextUnits.{text_units}
use Rattle.hol_varint.specs.Varint.{varint_bytes}
use Rattle.schema_model.specs.declared.schema.name.Name.{Name}
use Rattle.schema_model.specs.declared.schema.FieldKind.{FieldKind}
use Rattle.schema_model.specs.declared.schema.Field.{Field}
use Rattle.schema_model.specs.declared.schema.Shape.{Shape}
use Rattle.schema_model.specs.declared.schema.Schema.{Schema}
use Rattle.schema_model.specs.Parts.{shape_fields, shape_key}

-- a name's Java UTF text
abbrev pub name_bytes : Name → List ℕ
name_bytes name = utf_bytes (text_units name)

-- the name of a field's type
abbrev pub kind_name : FieldKind → List ℕ
kind_name (FieldKind.Reference name) = codes "REFERENCE"
kind_name FieldKind.Int = codes "INT"
kind_name FieldKind.Long = codes "LONG"
kind_name FieldKind.Boolean = codes "BOOLEAN"
kind_name FieldKind.Text = codes "STRING"
kind_name FieldKind.Bytes = codes "BYTES"

-- the type that a REFERENCE refers to
abbrev pub target_bytes : FieldKind → List ℕ
target_bytes (FieldKind.Reference name) = name_bytes name
target_bytes _ = []

-- a field: its name, its type's name, and for a REFERENCE the type that it refers to
abbrev pub field_bytes : Field → List ℕ
field_bytes field = name_bytes field.name ++ utf_bytes (kind_name field.kind) ++ target_bytes field.kind

-- the paths of a primary key, their number first
abbrev pub paths_bytes : List Name → List ℕ
paths_bytes paths = varint_bytes (length paths) ++ flat_map name_bytes paths

-- the fields, their number first, in two bytes
abbrev pub fields_bytes : List Field → List ℕ
fields_bytes fields = length fields / 256 ∷ length fields % 256 ∷ flat_map field_bytes fields

-- the number of the kind: an OBJECT with a primary key has its own
abbrev pub kind_number : Shape → ℕ
kind_number (Shape.Object key fields) = option_map_or (λ paths. 6) key 0
kind_number (Shape.Set element) = 1
kind_number (Shape.List element) = 2
kind_number (Shape.Map key value) = 3

-- what follows the name
abbrev pub shape_bytes : Shape → List ℕ
shape_bytes (Shape.Object key fields) = option_map_or paths_bytes key [] ++ fields_bytes fields
shape_bytes (Shape.Set element) = name_bytes element
shape_bytes (Shape.List element) = name_bytes element
shape_bytes (Shape.Map key value) = name_bytes key ++ name_bytes value

-- the one spelling of a schema
abbrev pub schema_bytes : Schema → List ℕ
schema_bytes schema = kind_number schema.shape ∷ name_bytes schema.name ++ shape_bytes schema.shape

-- each name of a field's kind is such a one
abbrev pub EachNameOfKind : (Name → Type 0) → FieldKind → Type 0
EachNameOfKind P (FieldKind.Reference name) = P name
EachNameOfKind P _ = Unit {0}

pub record EachNameOfField (P : Name → Type 0) (field : Field) : Type 0 where
  pub name : P field.name
  pub kind : EachNameOfKind P field.kind

pub record EachNameOfObject (P : Name → Type 0) (key : Option (List Name)) (fields : List Field) : Type 0 where
  pub paths : IfSome key (All P)
  pub parts : All (EachNameOfField P) fields

abbrev pub EachNameOfShape : (Name → Type 0) → Shape → Type 0
EachNameOfShape P (Shape.Object key fields) = EachNameOfObject P key fields
EachNameOfShape P (Shape.Set element) = P element
EachNameOfShape P (Shape.List element) = P element
EachNameOfShape P (Shape.Map key value) = P key × P value

-- each name and key path of a schema is such a one
pub record EachName (P : Name → Type 0) (schema : Schema) : Type 0 where
  pub name : P schema.name
  pub shape : EachNameOfShape P schema.shape

-- a name's Java UTF text has at most 65,535 bytes
abbrev pub IsShortName : Name → Type 0
IsShortName name = length (java_bytes (text_units name)) < 2 ^ 16

-- the numbers of a shape fit the bytes that spell them
pub record HasFewParts (shape : Shape) : Type 0 where
  pub fields : length (shape_fields shape) ≤ 1024
  pub paths : IfSome (shape_key shape) (λ paths. length paths < 2 ^ 32)

-- the schema can be spelled: its names and paths are short, its fields at most 1,024, its paths fewer than 2^32
pub record IsSpellable (schema : Schema) : Type 0 where
  pub short : EachName IsShortName schema
  pub few : HasFewParts schema.shape

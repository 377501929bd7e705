-- The bytes of a schema: its kind, its name, and what its kind calls for.
use Rattle.std.specs.Prelude.{◌≡◌, ℕ, List, Some, None}
use Rattle.std.specs.Int.{w8, w16}
use Rattle.schema_model.specs.declared.schema.FieldKind.{FieldKind}
use Rattle.schema_model.specs.declared.schema.FieldKind.TheVariants.{Reference, Int, Long, Boolean, Text, Bytes}
use Rattle.schema_model.specs.declared.schema.Field.{Field}
use Rattle.schema_model.specs.declared.schema.Shape.{Shape}
use Rattle.schema_model.specs.declared.schema.Shape.TheVariants as shape
use Rattle.schema_model.specs.declared.schema.Schema.{Schema}
use Rattle.blob_grammar.specs.declared.kind.SchemaKind.{SchemaKind}
use Rattle.blob_grammar.specs.declared.kind.SchemaKind.TheVariants as kind
use Rattle.blob_grammar.specs.declared.kind.FieldType.{FieldType}
use Rattle.blob_grammar.specs.declared.kind.FieldType.TheVariants as type_
use Rattle.blob_grammar.specs.Form.{Form, ◌>>=◌, nothing, judged, at_most, made, both, counted}
use Rattle.blob_grammar.specs.Words.{kind_byte, IsRefusedKind, type_text, IsRefusedType}
use Rattle.blob_grammar.proofs.Judges.{judge_kind, judge_type}
use Rattle.blob_frame.specs.Item.{fixed, vint, name}

-- The byte of a schema's kind.
unfoldable pub schema_kind : Form SchemaKind
schema_kind = judged (fixed w8) (λ byte k. byte ≡ kind_byte k) IsRefusedKind judge_kind

-- The name of a field's type.
unfoldable pub field_type : Form FieldType
field_type = judged name (λ text t. text ≡ type_text t) IsRefusedType judge_type

-- What a field holds: behind REFERENCE stands the name of the type that it refers to.
unfoldable pub field_kind_of : FieldType → Form FieldKind
field_kind_of type_.Reference = made (λ to. Reference to) name
field_kind_of type_.Int = nothing Int
field_kind_of type_.Long = nothing Long
field_kind_of type_.Boolean = nothing Boolean
field_kind_of type_.Text = nothing Text
field_kind_of type_.Bytes = nothing Bytes

-- A field: its name, its type's name, and what that calls for.
unfoldable pub field : Form Field
field = do
  field_name ← name
  type_name ← field_type
  field_kind ← field_kind_of type_name
  nothing (record { name = field_name; kind = field_kind })

-- The fields of a type: their number in 2 bytes, and each of them.
unfoldable pub fields : Form (List Field)
fields = counted (at_most (fixed w16) 1024) field

-- The key paths of a type: their number, and each of them.
unfoldable pub key_paths : Form (List (List ℕ))
key_paths = counted vint name

-- What a kind calls for behind the type's name.
unfoldable pub shape_of : SchemaKind → Form Shape
shape_of kind.Object = made (λ all. shape.Object None all) fields
shape_of kind.KeyedObject = made (λ p. shape.Object (Some p.0) p.1) (both key_paths fields)
shape_of kind.Set = made (λ element. shape.Set element) name
shape_of kind.List = made (λ element. shape.List element) name
shape_of kind.Map = made (λ p. shape.Map p.0 p.1) (both name name)

-- A schema.
unfoldable pub schema : Form Schema
schema = do
  of ← schema_kind
  schema_name ← name
  schema_shape ← shape_of of
  nothing (record { name = schema_name; shape = schema_shape })

-- A list of schemas: their number, which is 512 at most, and each of them.
unfoldable pub schemas : Form (List Schema)
schemas = counted (at_most vint 512) schema

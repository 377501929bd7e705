-- The JSON of a record with all that it refers to: what a tree prints as, by its type.
use Rattle.std.specs.Prelude.{◌≡◌, ℕ, zero, suc, List, Option, None, Some, length, slice_get, zip}
use Rattle.std.specs.List.{AllZip}
use Rattle.serde_json.specs.Data.{Data, null, array, object as object_data, no_items, item}
use Rattle.serde_json.specs.View.{items_of}
use Rattle.schema_model.specs.declared.schema.name.Name.{Name}
use Rattle.schema_model.specs.declared.schema.Field.{Field}
use Rattle.schema_model.specs.declared.schema.FieldKind.{FieldKind}
use Rattle.schema_model.specs.declared.schema.Schema.{Schema}
use Rattle.schema_model.specs.declared.schema.Shape.{Shape}
use Rattle.row_model.specs.declared.row.Value.{Value}
use Rattle.schema_model.specs.Parts.{field_names, index_of_type}
use Rattle.row_model.specs.PlainTree.{PlainTree, leaf, object, list, set, map, list_of_trees, list_of_pairs}
use Rattle.json_rows.specs.StoredRow.{IsValueData, members_of_fields}

-- What a REFERENCE prints as, given what each record prints as by its type's name: null, or the record that it refers to.
abbrev pub PrintsReference : (Name → PlainTree → Data → Type 0) → Name → PlainTree → Data → Type 0
PrintsReference Follow name (leaf Value.Null) printed = printed ≡ null
PrintsReference Follow name tree printed = Follow name tree printed

-- What a field's value prints as.
abbrev pub PrintsField : (Name → PlainTree → Data → Type 0) → FieldKind → PlainTree → Data → Type 0
PrintsField Follow (FieldKind.Reference name) tree printed = PrintsReference Follow name tree printed
PrintsField Follow kind (leaf value) printed = IsValueData value printed
PrintsField Follow kind _ printed = ⊥

-- The values of a record print so, field by field.
pub record PrintsFields (Follow : Name → PlainTree → Data → Type 0) (fields : List Field) (trees : List PlainTree) (parts : List Data) : Type 0 where
  pub each : length trees ≡ length fields
  pub printed : AllZip (λ (valued : Field × PlainTree) part. PrintsField Follow valued.0.kind valued.1 part) (zip fields trees) parts

-- A key and its value print as an array of both.
abbrev pub PrintsPair : (Name → PlainTree → Data → Type 0) → Name → Name → PlainTree × PlainTree → Data → Type 0
PrintsPair Follow key value pair printed =
    (first second : Data) × Follow key pair.0 first × Follow value pair.1 second × (printed ≡ array (item first (item second no_items)))

-- What the record of a type of this shape prints as: an OBJECT as an object with each field under its name, members in byte order; a LIST or a
-- SET as the array of its elements, and a MAP as the array of its keys and values, each in the order that the tree has.
abbrev pub PrintsShape : (Name → PlainTree → Data → Type 0) → Shape → PlainTree → Data → Type 0
PrintsShape Follow (Shape.Object key fields) (object trees) printed =
    (parts : List Data) × PrintsFields Follow fields (list_of_trees trees) parts × (printed ≡ object_data (members_of_fields (zip (field_names fields) parts)))
PrintsShape Follow (Shape.List element) (list trees) printed =
    (parts : List Data) × AllZip (Follow element) (list_of_trees trees) parts × (printed ≡ array (items_of parts))
PrintsShape Follow (Shape.Set element) (set trees) printed =
    (parts : List Data) × AllZip (Follow element) (list_of_trees trees) parts × (printed ≡ array (items_of parts))
PrintsShape Follow (Shape.Map key value) (map pairs) printed =
    (parts : List Data) × AllZip (PrintsPair Follow key value) (list_of_pairs pairs) parts × (printed ≡ array (items_of parts))
PrintsShape Follow _ _ printed = ⊥

-- The same of the type at an index, where there is the type.
abbrev pub PrintsTyped : (Name → PlainTree → Data → Type 0) → Option Schema → PlainTree → Data → Type 0
PrintsTyped Follow None tree printed = ⊥
PrintsTyped Follow (Some schema) tree printed = PrintsShape Follow schema.shape tree printed

abbrev pub PrintsAt : (ℕ → PlainTree → Data → Type 0) → Option ℕ → PlainTree → Data → Type 0
PrintsAt Prints None tree printed = ⊥
PrintsAt Prints (Some type_index) tree printed = Prints type_index tree printed

-- What the record of a type prints as that is no deeper than this many types.
abbrev pub PrintsWithin : List Schema → ℕ → ℕ → PlainTree → Data → Type 0
PrintsWithin schemas zero type_index tree printed = ⊥
PrintsWithin schemas (suc depth) type_index tree printed =
    PrintsTyped (λ name part. PrintsAt (PrintsWithin schemas depth) (index_of_type schemas name) part) (slice_get schemas type_index) tree printed

-- What the record of a type of a model prints as, of which none is more than 32 types deep.
abbrev pub PrintsTree : List Schema → ℕ → PlainTree → Data → Type 0
PrintsTree schemas t tree printed = PrintsWithin schemas 32 t tree printed

-- The schemas of a model whose names are texts are spelled by bytes.
use Rattle.std.proofs.Common.{◌≡◌, ◌<◌, ◌≤◌, ◌/◌, ◌%◌, ◌&&◌, ℕ, suc, List, [], ◌∷◌, ◌++◌, length, Bool, true, false, T, ltb, ltb→lt, get_or, Option, None, Some, IfSome, inl, inr, refl, sym, subst, arith}
use Rattle.std.specs.Prelude.{All, Any, codes, flat_map, option_to_list, slice_get}
use Rattle.std.specs.List.{AllByRecursion}
use Rattle.std.specs.Str.{IsAscii, IsUtf8}
use Rattle.std.proofs.lemmas.Bool.{cases_lt}
use Rattle.std.proofs.lemmas.List.Elements.{All-from_recursion, All-head, All-tail}
use Rattle.std.proofs.lemmas.Option.{slice_get-get_or}
use Rattle.std.proofs.lemmas.Str.Ascii.{IsAscii-from_all}
use Rattle.hol_varint.specs.JavaUtf.{java_bytes, utf_bytes}
use Rattle.hol_varint.specs.TextUnits.{text_units}
use Rattle.hol_varint.specs.Varint.{varint_bytes}
use Rattle.hol_varint.proofs.Characters.{ascii_are, ascii_units}
use Rattle.hol_varint.proofs.JavaUnits.{java_size}
use Rattle.blob_grammar.specs.Decided.{AreBytes}
use Rattle.schema_model.specs.declared.model.rule.Rule.{Rule}
use Rattle.schema_model.specs.declared.schema.Field.{Field}
use Rattle.schema_model.specs.declared.schema.FieldKind.{FieldKind}
use Rattle.schema_model.specs.declared.schema.Schema.{Schema}
use Rattle.schema_model.specs.declared.schema.Shape.{Shape}
use Rattle.schema_model.specs.declared.schema.name.Name.{Name}
use Rattle.schema_model.specs.Model.{IsLongText, IsModel}
use Rattle.schema_model.specs.Parts.{field_texts, fields_of, referenced, shape_fields, shape_texts, texts_of}
use Rattle.schema_model.specs.Schema.{EachName, EachNameOfField, EachNameOfKind, EachNameOfShape, IsShortName, field_bytes, fields_bytes, kind_name, kind_number, name_bytes, paths_bytes, shape_bytes, target_bytes}
use Rattle.byte_laws.specs.Bytes.{IsByteSchema}
use Rattle.byte_laws.proofs.Numbers.{byte_then, bytes_of_each, no_bytes, one_behind, text_are, utf_are, varint_are}

-- The name is spelled by bytes.
abbrev IsByteName : Name → Type 0
IsByteName name = AreBytes (name_bytes name)

-- ---- each text of a schema

module _ (P : Name → Type 0) where
  fronts : (xs ys : List Name) → AllByRecursion P (xs ++ ys) → AllByRecursion P xs × AllByRecursion P ys
  fronts [] ys h = (tt, h)
  fronts (x ∷ xs) ys h = let rest = fronts xs ys h.1 in ((h.0, rest.0), rest.1)

  of_kind : (kind : FieldKind) → AllByRecursion P (option_to_list (referenced kind)) → EachNameOfKind P kind
  of_kind (FieldKind.Reference name) h = h.0
  of_kind _ h = tt

  of_fields : (fields : List Field) → AllByRecursion P (flat_map field_texts fields) → AllByRecursion (EachNameOfField P) fields
  of_fields [] h = tt
  of_fields (field ∷ fields) h =
      let parts = fronts (field_texts field) (flat_map field_texts fields) h in
      (record { name = parts.0.0; kind = of_kind field.kind parts.0.1 }, of_fields fields parts.1)

  of_shape : (shape : Shape) → AllByRecursion P (shape_texts shape) → EachNameOfShape P shape
  of_shape (Shape.Object None fields) h = record { paths = tt; parts = All-from_recursion (EachNameOfField P) fields (of_fields fields h) }
  of_shape (Shape.Object (Some paths) fields) h =
      let parts = fronts paths (flat_map field_texts fields) h in
      record { paths = All-from_recursion P paths parts.0; parts = All-from_recursion (EachNameOfField P) fields (of_fields fields parts.1) }
  of_shape (Shape.Set element) h = h.0
  of_shape (Shape.List element) h = h.0
  of_shape (Shape.Map key value) h = (h.0, h.1.0)

  -- what holds of each text of a schema holds of each of its names
  of_texts : (schema : Schema) → AllByRecursion P (texts_of schema) → EachName P schema
  of_texts schema h = record { name = h.0; shape = of_shape schema.shape h.1 }

-- ---- names that are short texts

short_of : (name : Name) → ¬ IsLongText name → IsShortName name
short_of name never = elim (cases_lt 65535 (length (java_bytes (text_units name)))) [ inl long ↦ absurd (never long) | inr within ↦ omega (arith, within) ]

each_short : (texts : List Name) → ¬ Any IsLongText texts → AllByRecursion IsShortName texts
each_short [] never = tt
each_short (text ∷ texts) never =
    (short_of text (λ long. never (0, text, omega arith, refl, long)), each_short texts (λ (k, x, lt, is, long). never (suc k, x, omega arith, is, long)))

-- The name is a short text.
abbrev IsShortText : Name → Type 0
IsShortText name = IsUtf8 name × IsShortName name

name_are : (name : Name) → IsUtf8 name → IsShortName name → IsByteName name
name_are name utf8 short = text_are name utf8 short

-- ---- kinds

abbrev all_small : List ℕ → Bool
all_small [] = true
all_small (byte ∷ bytes) = ltb byte 128 && all_small bytes

and_first : (a b : Bool) → a && b ≡ true → a ≡ true
and_first true b is = refl
and_first false b is = absurd cc

and_rest : (a b : Bool) → a && b ≡ true → b ≡ true
and_rest true b is = is
and_rest false b is = absurd cc

small_ascii : (text : List ℕ) → all_small text ≡ true → AllByRecursion (λ byte. byte < 128) text
small_ascii [] is = tt
small_ascii (byte ∷ bytes) is = (ltb→lt byte 128 (subst T (sym (and_first (ltb byte 128) (all_small bytes) is)) tt), small_ascii bytes (and_rest (ltb byte 128) (all_small bytes) is))

ascii_of : (text : List ℕ) → all_small text ≡ true → IsAscii text
ascii_of text small = IsAscii-from_all text (All-from_recursion (λ byte. byte < 128) text (small_ascii text small))

-- a text of so few letters
word_are : (text : List ℕ) → all_small text ≡ true → length text < 1000 → AreBytes (utf_bytes text)
word_are text small few = utf_are text (ascii_are text (ascii_of text small)) (omega (arith, few, java_size text))

-- and as a name
pub plain_name : (text : List ℕ) → all_small text ≡ true → length text < 1000 → AreBytes (name_bytes text)
plain_name text small few = subst (λ (units : List ℕ). AreBytes (utf_bytes units)) (sym (ascii_units text (ascii_of text small))) (word_are text small few)

kind_are : (kind : FieldKind) → AreBytes (utf_bytes (kind_name kind))
kind_are (FieldKind.Reference name) = word_are (codes "REFERENCE") refl (omega arith)
kind_are FieldKind.Int = word_are (codes "INT") refl (omega arith)
kind_are FieldKind.Long = word_are (codes "LONG") refl (omega arith)
kind_are FieldKind.Boolean = word_are (codes "BOOLEAN") refl (omega arith)
kind_are FieldKind.Text = word_are (codes "STRING") refl (omega arith)
kind_are FieldKind.Bytes = word_are (codes "BYTES") refl (omega arith)

-- ---- schemas whose names are spelled by bytes

target_are : (kind : FieldKind) → EachNameOfKind IsByteName kind → AreBytes (target_bytes kind)
target_are (FieldKind.Reference name) names = names
target_are FieldKind.Int names = no_bytes
target_are FieldKind.Long names = no_bytes
target_are FieldKind.Boolean names = no_bytes
target_are FieldKind.Text names = no_bytes
target_are FieldKind.Bytes names = no_bytes

pub field_are : (field : Field) → EachNameOfField IsByteName field → AreBytes (field_bytes field)
field_are field names =
    one_behind (name_bytes field.name ++ utf_bytes (kind_name field.kind)) (target_bytes field.kind)
    (one_behind (name_bytes field.name) (utf_bytes (kind_name field.kind)) names.name (kind_are field.kind)) (target_are field.kind names.kind)

pub each_field : (fields : List Field) → All (EachNameOfField IsByteName) fields → AreBytes (flat_map field_bytes fields)
each_field [] names = no_bytes
each_field (field ∷ fields) names =
    one_behind (field_bytes field) (flat_map field_bytes fields) (field_are field (All-head (EachNameOfField IsByteName) field fields names)) (each_field fields (All-tail (EachNameOfField IsByteName) field fields names))

fields_are : (fields : List Field) → length fields ≤ 1024 → All (EachNameOfField IsByteName) fields → AreBytes (fields_bytes fields)
fields_are fields few names =
    let many = length fields in
    byte_then (many / 256) (many % 256 ∷ flat_map field_bytes fields) (omega (arith, few)) (byte_then (many % 256) (flat_map field_bytes fields) (omega arith) (each_field fields names))

paths_are : (paths : List Name) → All IsByteName paths → AreBytes (paths_bytes paths)
paths_are paths names = one_behind (varint_bytes (length paths)) (flat_map name_bytes paths) (varint_are (length paths)) (bytes_of_each name_bytes paths names)

shape_are : (shape : Shape) → length (shape_fields shape) ≤ 1024 → EachNameOfShape IsByteName shape → AreBytes (shape_bytes shape)
shape_are (Shape.Object None fields) few names = fields_are fields few names.parts
shape_are (Shape.Object (Some paths) fields) few names = one_behind (paths_bytes paths) (fields_bytes fields) (paths_are paths names.paths) (fields_are fields few names.parts)
shape_are (Shape.Set element) few names = names
shape_are (Shape.List element) few names = names
shape_are (Shape.Map key value) few names = one_behind (name_bytes key) (name_bytes value) names.0 names.1

kind_small : (shape : Shape) → kind_number shape < 256
kind_small (Shape.Object None fields) = omega arith
kind_small (Shape.Object (Some paths) fields) = omega arith
kind_small (Shape.Set element) = omega arith
kind_small (Shape.List element) = omega arith
kind_small (Shape.Map key value) = omega arith

pub schema_are : (schema : Schema) → length (fields_of schema) ≤ 1024 → EachName IsByteName schema → IsByteSchema schema
schema_are schema few names = byte_then (kind_number schema.shape) (name_bytes schema.name ++ shape_bytes schema.shape) (kind_small schema.shape) (one_behind (name_bytes schema.name) (shape_bytes schema.shape) names.name (shape_are schema.shape few names.shape))

-- ---- names that are texts, and short ones

kind_both : (kind : FieldKind) → EachNameOfKind IsUtf8 kind → EachNameOfKind IsShortName kind → EachNameOfKind IsByteName kind
kind_both (FieldKind.Reference name) text short = name_are name text short
kind_both FieldKind.Int text short = tt
kind_both FieldKind.Long text short = tt
kind_both FieldKind.Boolean text short = tt
kind_both FieldKind.Text text short = tt
kind_both FieldKind.Bytes text short = tt

-- what holds of each, by two facts
each_both : {A : Type 0} (P Q R : A → Type 0) → ((x : A) → P x → Q x → R x) → (xs : List A) → All P xs → All Q xs → All R xs
each_both P Q R both xs first second k d below = both _ (first k d below) (second k d below)

field_both : (field : Field) → EachNameOfField IsUtf8 field → EachNameOfField IsShortName field → EachNameOfField IsByteName field
field_both field text short = record { name = name_are field.name text.name short.name; kind = kind_both field.kind text.kind short.kind }

paths_both : (key : Option (List Name)) → IfSome key (All IsUtf8) → IfSome key (All IsShortName) → IfSome key (All IsByteName)
paths_both None text short = tt
paths_both (Some paths) text short = each_both IsUtf8 IsShortName IsByteName name_are paths text short

shape_both : (shape : Shape) → EachNameOfShape IsUtf8 shape → EachNameOfShape IsShortName shape → EachNameOfShape IsByteName shape
shape_both (Shape.Object key fields) text short = record {
  paths = paths_both key text.paths short.paths;
  parts = each_both (EachNameOfField IsUtf8) (EachNameOfField IsShortName) (EachNameOfField IsByteName) field_both fields text.parts short.parts;
}
shape_both (Shape.Set element) text short = name_are element text short
shape_both (Shape.List element) text short = name_are element text short
shape_both (Shape.Map key value) text short = (name_are key text.0 short.0, name_are value text.1 short.1)

-- a type of a model whose names are texts
type_are : (schemas : List Schema) → IsModel schemas → (t : ℕ) (schema : Schema) → slice_get schemas t ≡ Some schema → EachName IsUtf8 schema → IsByteSchema schema
type_are schemas model t schema there texts =
    let short = of_texts IsShortName schema (each_short (texts_of schema) (λ long. model Rule.LongName t (schema, there, long))) in
    let few : length (fields_of schema) ≤ 1024 = elim (cases_lt 1024 (length (fields_of schema))) [ inl many ↦ absurd (model Rule.TooMany t (schema, there, inr many)) | inr within ↦ within ] in
    schema_are schema few (record { name = name_are schema.name texts.name short.name; shape = shape_both schema.shape texts.shape short.shape })

-- the types of a model whose names are texts
pub model_are : (schemas : List Schema) → IsModel schemas → All (EachName IsUtf8) schemas → All IsByteSchema schemas
model_are schemas model texts k d below = type_are schemas model k _ (there schemas k d below) (texts k d below)
  where
    there : (schemas : List Schema) (k : ℕ) (d : Schema) → k < length schemas → slice_get schemas k ≡ Some (get_or schemas k d)
    there schemas k d below = slice_get-get_or schemas k d below

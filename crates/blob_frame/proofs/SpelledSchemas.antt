-- The bytes that are written of a schema and of a header are read as them.
use Rattle.std.proofs.Common.{◌≡◌, ◌≤◌, ◌<◌, ◌+◌, ◌/◌, ◌%◌, ◌^◌, ℕ, ℤ, zero, suc, true, ltb, List, [], ◌∷◌, ◌++◌, length, Option, Some, None, refl, ◌∙◌, sym, ap, arith, append_assoc, append-nil}
use Rattle.std.specs.List.{flat_map, All, list_all}
use Rattle.std.specs.Char.Escape.{encode_utf16}
use Rattle.std.specs.Option.{IfSome}
use Rattle.std.specs.Int.{w8, w16, w32, w64, to_be_bytes, cast_unsigned}
use Rattle.std.specs.Prelude.{FitsSigned}
use Rattle.std.specs.Str.{IsUtf8, IsAscii}
use Rattle.std.proofs.lemmas.List.Elements.{All-nil}
use Rattle.std.proofs.lemmas.Bool.{ltb-true, and_parts}
use Rattle.std.proofs.lemmas.Int.{ints, to_z-of_z}
use Rattle.std.proofs.lemmas.Nat.{from_be_bytes-to_be_bytes_4, from_be_bytes-to_be_bytes_8}
use Rattle.std.proofs.lemmas.Str.{IsUtf8-from_ascii, encodes-IsAscii, chars_from_encodes}
use Rattle.hol_varint.specs.Varint.{varint_bytes}
use Rattle.hol_varint.specs.Varint as varints
use Rattle.hol_varint.proofs.OneUnit.{one_unit}
use Rattle.hol_varint.proofs.JavaUnits.{java_size}
use Rattle.hol_varint.specs.JavaUtf.{java_bytes, utf_bytes}
use Rattle.hol_varint.specs.TextUnits.{text_units}
use Rattle.schema_model.specs.declared.schema.FieldKind.{FieldKind}
use Rattle.schema_model.specs.declared.schema.FieldKind.TheVariants as field_kind
use Rattle.schema_model.specs.declared.schema.Field.{Field}
use Rattle.schema_model.specs.declared.schema.Shape.{Shape}
use Rattle.schema_model.specs.declared.schema.Shape.TheVariants as shape
use Rattle.schema_model.specs.declared.schema.Schema.{Schema}
use Rattle.schema_model.specs.Schema.{name_bytes, kind_name, target_bytes, field_bytes, paths_bytes, fields_bytes, kind_number, shape_bytes, schema_bytes, EachName, EachNameOfKind, EachNameOfField, EachNameOfShape, IsShortName, HasFewParts, IsSpellable}
use Rattle.blob_grammar.specs.declared.kind.SchemaKind.{SchemaKind}
use Rattle.blob_grammar.specs.declared.kind.SchemaKind.TheVariants as kind
use Rattle.blob_grammar.specs.declared.kind.FieldType.{FieldType}
use Rattle.blob_grammar.specs.declared.kind.FieldType.TheVariants as type_
use Rattle.blob_grammar.specs.Words.{kind_byte, type_text}
use Rattle.blob_grammar.specs.Form.{Form, at_most, envelope, behind_number}
use Rattle.blob_frame.specs.Item.{fixed, signed, name}
use Rattle.blob_frame.specs.Header.{format_number, format, listed_schemas, schema_envelope, header_tags, header}
use Rattle.blob_frame.specs.Written.{schema_list_bytes, header_bytes}
use Rattle.blob_frame.specs.SchemaForm.{schema_kind, field_type, field_kind_of, field, fields, key_paths, shape_of, schema, schemas}
use Rattle.blob_frame.proofs.Spelling.{Spells, spells_same, spells_then, spells_last, spells_made, spells_both, spells_judged, spells_counted, spells_fixed, spells_varint, spells_name, spells_nothing, spells_skipped_none}

-- A name that is a text and is short.
abbrev IsWritable : List ℕ → Type 0
IsWritable text = IsUtf8 text × IsShortName text

writable_name : (text : List ℕ) → IsWritable text → Spells name text (name_bytes text)
writable_name text p = spells_name text p.0 p.1

-- the type of a field's kind
type_of_kind : FieldKind → FieldType
type_of_kind (field_kind.Reference to) = type_.Reference
type_of_kind field_kind.Int = type_.Int
type_of_kind field_kind.Long = type_.Long
type_of_kind field_kind.Boolean = type_.Boolean
type_of_kind field_kind.Text = type_.Text
type_of_kind field_kind.Bytes = type_.Bytes

kind_text : (k : FieldKind) → kind_name k ≡ type_text (type_of_kind k)
unfolding type_of_kind
kind_text (field_kind.Reference to) = refl
kind_text field_kind.Int = refl
kind_text field_kind.Long = refl
kind_text field_kind.Boolean = refl
kind_text field_kind.Text = refl
kind_text field_kind.Bytes = refl

alone : (cs : List ℕ) → IsAscii cs → flat_map encode_utf16 cs ≡ cs
alone [] all = refl
alone (c ∷ cs) all = ap (λ (xs : List ℕ). xs ++ flat_map encode_utf16 cs) (one_unit c (omega (arith, all 0))) ∙ ap (λ (xs : List ℕ). c ∷ xs) (alone cs (λ i. all (suc i)))

-- a text of ASCII has its bytes as units
ascii_units : (text : List ℕ) → IsAscii text → text_units text ≡ text
ascii_units text all =
    ap (λ (cs : List ℕ). flat_map encode_utf16 cs) (sym (chars_from_encodes text text (IsUtf8-from_ascii text all) (encodes-IsAscii text all))) ∙ alone text all

ascii_by_test : (text : List ℕ) → list_all (λ b. ltb b 128) text ≡ true → IsAscii text
ascii_by_test [] test i = omega arith
ascii_by_test (b ∷ text) test zero = ltb-true b 128 (and_parts _ _ test).0
ascii_by_test (b ∷ text) test (suc i) = ascii_by_test text (and_parts _ _ test).1 i

-- the name of a field's type, in its one spelling
type_spelled : (t : FieldType) → Spells name (type_text t) (utf_bytes (type_text t))
type_spelled t = spells_same (spells_name (type_text t) (IsUtf8-from_ascii (type_text t) (ascii t)) (short t (text_units (type_text t)) (ascii_units (type_text t) (ascii t))))
    (ap utf_bytes (ascii_units (type_text t) (ascii t)))
  where
    ascii : (t : FieldType) → IsAscii (type_text t)
    ascii type_.Reference = ascii_by_test (type_text type_.Reference) refl
    ascii type_.Int = ascii_by_test (type_text type_.Int) refl
    ascii type_.Long = ascii_by_test (type_text type_.Long) refl
    ascii type_.Boolean = ascii_by_test (type_text type_.Boolean) refl
    ascii type_.Text = ascii_by_test (type_text type_.Text) refl
    ascii type_.Bytes = ascii_by_test (type_text type_.Bytes) refl

    few : (t : FieldType) → length (type_text t) ≤ 9
    few type_.Reference = omega arith
    few type_.Int = omega arith
    few type_.Long = omega arith
    few type_.Boolean = omega arith
    few type_.Text = omega arith
    few type_.Bytes = omega arith

    short : (t : FieldType) (us : List ℕ) → us ≡ type_text t → length (java_bytes us) < 2 ^ 16
    short t us is = omega (arith, java_size us, few t, ap (λ (xs : List ℕ). length xs) is)

spells_type : (k : FieldKind) → Spells field_type (type_of_kind k) (utf_bytes (kind_name k))
unfolding field_type
spells_type k = spells_judged _ _ _ (spells_same (type_spelled (type_of_kind k)) (ap utf_bytes (sym (kind_text k)))) refl

spells_field_kind : (k : FieldKind) → EachNameOfKind IsWritable k → Spells (field_kind_of (type_of_kind k)) k (target_bytes k)
unfolding field_kind_of type_of_kind
spells_field_kind (field_kind.Reference to) p = spells_made _ (writable_name to p)
spells_field_kind field_kind.Int p = spells_nothing _
spells_field_kind field_kind.Long p = spells_nothing _
spells_field_kind field_kind.Boolean p = spells_nothing _
spells_field_kind field_kind.Text p = spells_nothing _
spells_field_kind field_kind.Bytes p = spells_nothing _

spells_field : (f : Field) → EachNameOfField IsWritable f → Spells field f (field_bytes f)
unfolding field
spells_field f p = spells_same
    (spells_then _ (writable_name f.name p.name) (spells_then _ (spells_type f.kind) (spells_last (λ k. record { name = f.name; kind = k }) (spells_field_kind f.kind p.kind))))
    (sym (append_assoc (name_bytes f.name) (utf_bytes (kind_name f.kind)) (target_bytes f.kind)))

two_bytes : (n : ℕ) → n ≤ 1024 → Spells (fixed w16) n (n / 256 ∷ n % 256 ∷ [])
two_bytes n few = spells_fixed w16 (n / 256 ∷ n % 256 ∷ []) refl (omega arith)

spells_fields : (fs : List Field) → length fs ≤ 1024 → All (EachNameOfField IsWritable) fs → Spells fields fs (fields_bytes fs)
unfolding fields at_most
spells_fields fs few all = spells_counted (EachNameOfField IsWritable) field_bytes spells_field fs all (spells_judged _ _ _ (two_bytes (length fs) few) (refl, few))

spells_paths : (paths : List (List ℕ)) → length paths < 2 ^ 32 → All IsWritable paths → Spells key_paths paths (paths_bytes paths)
unfolding key_paths
spells_paths paths few all = spells_counted IsWritable name_bytes writable_name paths all (spells_varint (2 ^ 32) (length paths) few)

-- the kind of a schema's shape
kind_of_shape : Shape → SchemaKind
kind_of_shape (shape.Object None _) = kind.Object
kind_of_shape (shape.Object (Some _) _) = kind.KeyedObject
kind_of_shape (shape.Set element) = kind.Set
kind_of_shape (shape.List element) = kind.List
kind_of_shape (shape.Map key value) = kind.Map

kind_spelled : (s : Shape) → (kind_number s ≡ kind_byte (kind_of_shape s)) × (kind_number s < 256)
unfolding kind_of_shape
kind_spelled (shape.Object None _) = (refl, omega arith)
kind_spelled (shape.Object (Some _) _) = (refl, omega arith)
kind_spelled (shape.Set element) = (refl, omega arith)
kind_spelled (shape.List element) = (refl, omega arith)
kind_spelled (shape.Map key value) = (refl, omega arith)

spells_kind : (s : Shape) → Spells schema_kind (kind_of_shape s) (kind_number s ∷ [])
unfolding schema_kind
spells_kind s = spells_judged _ _ _ (spells_fixed w8 (kind_number s ∷ []) refl (omega (arith, (kind_spelled s).1))) (kind_spelled s).0

spells_shape : (s : Shape) → EachNameOfShape IsWritable s → HasFewParts s → Spells (shape_of (kind_of_shape s)) s (shape_bytes s)
unfolding shape_of kind_of_shape
spells_shape (shape.Object None fs) p few = spells_made _ (spells_fields fs few.fields p.parts)
spells_shape (shape.Object (Some paths) fs) p few = spells_made _ (spells_both (spells_paths paths few.paths p.paths) (spells_fields fs few.fields p.parts))
spells_shape (shape.Set element) p few = spells_made _ (writable_name element p)
spells_shape (shape.List element) p few = spells_made _ (writable_name element p)
spells_shape (shape.Map key value) p few = spells_made _ (spells_both (writable_name key p.0) (writable_name value p.1))

-- The schema can be written, and its names are texts.
pub record IsWritten (s : Schema) : Type 0 where
  pub spellable : IsSpellable s
  pub texts : EachName IsUtf8 s

both_of_kind : (k : FieldKind) → EachNameOfKind IsUtf8 k → EachNameOfKind IsShortName k → EachNameOfKind IsWritable k
both_of_kind (field_kind.Reference to) p q = (p, q)
both_of_kind field_kind.Int p q = tt
both_of_kind field_kind.Long p q = tt
both_of_kind field_kind.Boolean p q = tt
both_of_kind field_kind.Text p q = tt
both_of_kind field_kind.Bytes p q = tt

both_of_field : (f : Field) → EachNameOfField IsUtf8 f → EachNameOfField IsShortName f → EachNameOfField IsWritable f
both_of_field f p q = record { name = (p.name, q.name); kind = both_of_kind f.kind p.kind q.kind }

both_of_key : (key : Option (List (List ℕ))) → IfSome key (All IsUtf8) → IfSome key (All IsShortName) → IfSome key (All IsWritable)
both_of_key None p q = tt
both_of_key (Some paths) p q = λ k d within. (p k d within, q k d within)

both_of_shape : (s : Shape) → EachNameOfShape IsUtf8 s → EachNameOfShape IsShortName s → EachNameOfShape IsWritable s
both_of_shape (shape.Object key fs) p q = record {
  paths = both_of_key key p.paths q.paths;
  parts = λ k d within. both_of_field _ (p.parts k d within) (q.parts k d within);
}
both_of_shape (shape.Set element) p q = (p, q)
both_of_shape (shape.List element) p q = (p, q)
both_of_shape (shape.Map key value) p q = ((p.0, q.0), (p.1, q.1))

-- the bytes of a schema are read as it
pub spells_schema : (s : Schema) → IsWritten s → Spells schema s (schema_bytes s)
unfolding schema
spells_schema s p = spells_same
    (spells_then _ (spells_kind s.shape) (spells_then _ (writable_name s.name (p.texts.name, p.spellable.short.name))
    (spells_last (λ sh. record { name = s.name; shape = sh }) (spells_shape s.shape (both_of_shape s.shape p.texts.shape p.spellable.short.shape) p.spellable.few))))
    refl

-- the bytes of a list of schemas are read as it
pub spells_schemas : (listed : List Schema) → length listed ≤ 512 → All IsWritten listed → Spells schemas listed (schema_list_bytes listed)
unfolding schemas at_most
spells_schemas listed few all = spells_counted IsWritten schema_bytes spells_schema listed all (spells_judged _ _ _ (spells_varint (2 ^ 32) (length listed) (omega (arith, few))) (refl, few))

no_bytes : varint_bytes 0 ≡ 0 ∷ []
unfolding varint_bytes varints.high_bytes
no_bytes = refl

spells_listed : (listed : List Schema) → length listed ≤ 512 → All IsWritten listed → Spells listed_schemas listed (schema_list_bytes listed ++ 0 ∷ [])
unfolding listed_schemas
spells_listed listed few all = spells_same
    (spells_then _ (spells_schemas listed few all) (spells_then _ (spells_varint (2 ^ 32) 0 (omega arith)) (spells_last (λ u. listed) spells_skipped_none)))
    (ap (λ (xs : List ℕ). schema_list_bytes listed ++ xs) (append-nil (varint_bytes 0) ∙ no_bytes))

spells_behind : {V : Type 0} {form : Form V} (w : V) {v : V} {xs : List ℕ} (n : ℕ) → 0 < n → Spells form v xs → Spells (behind_number w form n) v xs
unfolding behind_number
spells_behind w zero some p = absurd (omega (arith, some))
spells_behind w (suc n) some p = p

spells_envelope : (listed : List Schema) → length listed ≤ 512 → All IsWritten listed → length (schema_list_bytes listed) ≤ 2 ^ 28 →
    Spells schema_envelope listed (varint_bytes (length (schema_list_bytes listed) + 1) ++ (schema_list_bytes listed ++ 0 ∷ []))
unfolding schema_envelope envelope
spells_envelope listed few all short =
    spells_then _ (spells_varint (2 ^ 32) (length (schema_list_bytes listed) + 1) (omega (arith, short)))
    (spells_behind [] (length (schema_list_bytes listed) + 1) (omega arith) (spells_listed listed few all))

spells_tags : Spells header_tags [] (0 ∷ 0 ∷ [])
unfolding header_tags
spells_tags = spells_counted (λ p. ⊥) (λ p. []) (λ p none. absurd none) [] (All-nil (λ p. ⊥)) (two_bytes 0 (omega arith))

four_bytes : (n : ℕ) → length (to_be_bytes w32 n) ≡ 4
four_bytes n = refl

eight_bytes : (n : ℕ) → length (to_be_bytes w64 n) ≡ 8
eight_bytes n = refl

spells_format : Spells format tt (to_be_bytes w32 format_number)
unfolding format
spells_format = spells_judged _ _ _ (spells_fixed w32 (to_be_bytes w32 1030) (four_bytes 1030) (sym (from_be_bytes-to_be_bytes_4 1030 (omega arith)))) refl

bits_below : (z : ℤ) → FitsSigned w64 z → cast_unsigned w64 z < 2 ^ 64
bits_below z fits = omega (arith, ints)

spells_signed : (z : ℤ) → FitsSigned w64 z → Spells signed z (to_be_bytes w64 (cast_unsigned w64 z))
unfolding signed
spells_signed z fits = spells_judged _ _ _
    (spells_fixed w64 (to_be_bytes w64 (cast_unsigned w64 z)) (eight_bytes (cast_unsigned w64 z)) (sym (from_be_bytes-to_be_bytes_8 (cast_unsigned w64 z) (bits_below z fits))))
    (sym (to_z-of_z w64 z fits))

-- the bytes of a header are read as it
pub spells_header : (origin destination : ℤ) (listed : List Schema) → FitsSigned w64 origin → FitsSigned w64 destination → length listed ≤ 512 → All IsWritten listed →
    length (schema_list_bytes listed) ≤ 2 ^ 28 → Spells header (record { origin = origin; destination = destination; schemas = listed; tags = [] }) (header_bytes origin destination listed)
unfolding header
spells_header origin destination listed from to few all short = spells_same
    (spells_then _ spells_format (spells_then _ (spells_signed origin from) (spells_then _ (spells_signed destination to)
    (spells_then _ (spells_envelope listed few all short)
    (spells_last (λ pairs. record { origin = origin; destination = destination; schemas = listed; tags = pairs }) spells_tags)))))
    (ap (λ (xs : List ℕ). to_be_bytes w32 format_number ++ (to_be_bytes w64 (cast_unsigned w64 origin) ++ (to_be_bytes w64 (cast_unsigned w64 destination) ++ xs)))
    (rest (varint_bytes (length (schema_list_bytes listed) + 1)) (schema_list_bytes listed)))
  where
    rest : (number list : List ℕ) → (number ++ (list ++ 0 ∷ [])) ++ 0 ∷ 0 ∷ [] ≡ number ++ (list ++ 0 ∷ 0 ∷ 0 ∷ [])
    rest number list = append_assoc number (list ++ 0 ∷ []) (0 ∷ 0 ∷ []) ∙ ap (λ (xs : List ℕ). number ++ xs) (append_assoc list (0 ∷ []) (0 ∷ 0 ∷ []))

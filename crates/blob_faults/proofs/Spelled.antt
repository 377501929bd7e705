-- Two rules of models that schemas which stand in a blob cannot break: a type has no more than 1,024 fields, and no text of it is longer than its
-- two bytes of length can say.
use Rattle.std.proofs.Common.{◌≡◌, ◌≤◌, ◌<◌, ◌^◌, ◌∙◌, ℕ, zero, suc, List, [], ◌∷◌, Some, length, sym, ap, subst, arith, inl, inr, slice_get, flat_map, All, map, option_to_list}
use Rattle.std.proofs.lemmas.List.{length-map}
use Rattle.std.proofs.lemmas.List.Elements.{All-append, All-cons, All-get_or, All-head, All-map, All-nil, All-tail}
use Rattle.std.proofs.lemmas.Option.{get_or_from_slice_get, slice_get_within}
use Rattle.hol_varint.specs.JavaUtf.{java_bytes}
use Rattle.schema_model.specs.declared.model.rule.Rule.TheVariants.{TooMany, LongName}
use Rattle.schema_model.specs.declared.schema.Field.{Field}
use Rattle.schema_model.specs.declared.schema.FieldKind.{FieldKind}
use Rattle.schema_model.specs.declared.schema.Schema.{Schema}
use Rattle.schema_model.specs.declared.schema.Shape.{Shape}
use Rattle.schema_model.specs.Model.{IsKept}
use Rattle.schema_model.specs.Parts.{field_texts, fields_of, referenced, shape_fields, shape_texts, texts_of}
use Rattle.schema_model.specs.Schema.{IsShortName}
use Rattle.blob_grammar.specs.declared.kind.FieldType.{FieldType}
use Rattle.blob_grammar.specs.declared.kind.FieldType.TheVariants as type_
use Rattle.blob_grammar.specs.declared.kind.SchemaKind.{SchemaKind}
use Rattle.blob_grammar.specs.declared.kind.SchemaKind.TheVariants as kind
use Rattle.blob_grammar.specs.Form.{Form, ◌>>=◌, at_most, both, counted, judged, made, nothing, repeated}
use Rattle.blob_frame.specs.Item.{name, units}
use Rattle.blob_frame.specs.SchemaForm.{field, field_kind_of, fields, key_paths, schema, shape_of}

-- A schema has no more fields than a model may have, and each text of it is short enough for its two bytes of length.
pub record IsSpelled (of_type : Schema) : Type 0 where
  pub few : length (fields_of of_type) ≤ 1024
  pub short : All IsShortName (texts_of of_type)

-- ---- forms

-- of so many that stand one behind the other there are so many, and each has what each that stands has
pub repeated_all : {A : Type 0} (a : Form A) (P : A → Type 0) → ((bytes : List ℕ) (at : ℕ) (x : A) (next : ℕ) → a.Stands bytes at x next → P x) →
    (n : ℕ) (bytes : List ℕ) (at : ℕ) (xs : List A) (next : ℕ) → (repeated n a).Stands bytes at xs next → (length xs ≡ n) × All P xs
unfolding repeated ◌>>=◌ nothing
repeated_all {A} a P each zero bytes at xs next stands = (ap length stands.0, subst (λ (ys : List A). All P ys) (sym stands.0) (All-nil P))
repeated_all {A} a P each (suc n) bytes at xs next (x, mid, one, (ys, end, more, is)) =
    let rest = repeated_all a P each n bytes mid ys end more in
    (ap length is.0 ∙ ap suc rest.0, subst (λ (zs : List A). All P zs) (sym is.0) (All-cons P x ys (each bytes at x mid one) rest.1))

-- each of those that stand behind their number has what each that stands has
pub counted_all : {A : Type 0} (number : Form ℕ) (a : Form A) (P : A → Type 0) → ((bytes : List ℕ) (at : ℕ) (x : A) (next : ℕ) → a.Stands bytes at x next → P x) →
    (bytes : List ℕ) (at : ℕ) (xs : List A) (next : ℕ) → (counted number a).Stands bytes at xs next → All P xs
unfolding counted ◌>>=◌
counted_all number a P each bytes at xs next (n, mid, found, stands) = (repeated_all a P each n bytes mid xs next stands).1

-- where the number is at most so many, there are no more of them
pub counted_few : {A : Type 0} (number : Form ℕ) (most : ℕ) (a : Form A) (bytes : List ℕ) (at : ℕ) (xs : List A) (next : ℕ) →
    (counted (at_most number most) a).Stands bytes at xs next → length xs ≤ most
unfolding counted at_most judged ◌>>=◌
counted_few {A} number most a bytes at xs next (n, mid, (m, found, (is, few)), stands) =
    let long = (repeated_all a (λ (x : A). Unit) (λ bytes at x next stands. tt) n bytes mid xs next stands).0 in omega (arith, long, is, few)

-- ---- texts

-- a name that stands is short
name_short : (bytes : List ℕ) (at : ℕ) (text : List ℕ) (next : ℕ) → name.Stands bytes at text next → IsShortName text
unfolding name judged units
name_short bytes at text next (us, stands, is) = subst (λ (vs : List ℕ). length (java_bytes vs) < 2 ^ 16) (sym is.same) stands.fits

-- each text of all items is short where each text of each item is
texts_short : {A : Type 0} (texts : A → List (List ℕ)) (xs : List A) → All (λ x. All IsShortName (texts x)) xs → All IsShortName (flat_map texts xs)
texts_short texts [] all = All-nil IsShortName
texts_short {A} texts (x ∷ xs) all =
    let Short : A → Type 0 = λ x. All IsShortName (texts x) in
    All-append IsShortName (texts x) (flat_map texts xs) (All-head Short x xs all) (texts_short texts xs (All-tail Short x xs all))

-- what a field refers to is short
kind_short : (of : FieldType) (bytes : List ℕ) (at : ℕ) (found : FieldKind) (next : ℕ) → (field_kind_of of).Stands bytes at found next →
    All IsShortName (option_to_list (referenced found))
unfolding field_kind_of made nothing ◌>>=◌
kind_short type_.Reference bytes at found next (to, mid, stands, is) =
    subst (λ (k : FieldKind). All IsShortName (option_to_list (referenced k))) (sym is.0) (All-cons IsShortName to [] (name_short bytes at to mid stands) (All-nil IsShortName))
kind_short type_.Int bytes at found next is = subst (λ (k : FieldKind). All IsShortName (option_to_list (referenced k))) (sym is.0) (All-nil IsShortName)
kind_short type_.Long bytes at found next is = subst (λ (k : FieldKind). All IsShortName (option_to_list (referenced k))) (sym is.0) (All-nil IsShortName)
kind_short type_.Boolean bytes at found next is = subst (λ (k : FieldKind). All IsShortName (option_to_list (referenced k))) (sym is.0) (All-nil IsShortName)
kind_short type_.Text bytes at found next is = subst (λ (k : FieldKind). All IsShortName (option_to_list (referenced k))) (sym is.0) (All-nil IsShortName)
kind_short type_.Bytes bytes at found next is = subst (λ (k : FieldKind). All IsShortName (option_to_list (referenced k))) (sym is.0) (All-nil IsShortName)

-- the texts of a field that stands are short
field_short : (bytes : List ℕ) (at : ℕ) (found : Field) (next : ℕ) → field.Stands bytes at found next → All IsShortName (field_texts found)
unfolding field nothing ◌>>=◌
field_short bytes at found next (text, mid, named, (of, behind, typed, (k, end, holds, is))) =
    subst (λ (f : Field). All IsShortName (field_texts f)) (sym is.0)
    (All-cons IsShortName text (option_to_list (referenced k)) (name_short bytes at text mid named) (kind_short of bytes behind k end holds))

-- ---- shapes

-- The same of a shape.
record ShapeIsSpelled (of_type : Shape) : Type 0 where
  few : length (shape_fields of_type) ≤ 1024
  short : All IsShortName (shape_texts of_type)

fields_few : (bytes : List ℕ) (at : ℕ) (found : List Field) (next : ℕ) → fields.Stands bytes at found next → length found ≤ 1024
unfolding fields
fields_few bytes at found next stands = counted_few _ 1024 field bytes at found next stands

fields_short : (bytes : List ℕ) (at : ℕ) (found : List Field) (next : ℕ) → fields.Stands bytes at found next → All IsShortName (flat_map field_texts found)
unfolding fields
fields_short bytes at found next stands = texts_short field_texts found (counted_all _ field (λ (f : Field). All IsShortName (field_texts f)) field_short bytes at found next stands)

paths_short : (bytes : List ℕ) (at : ℕ) (paths : List (List ℕ)) (next : ℕ) → key_paths.Stands bytes at paths next → All IsShortName paths
unfolding key_paths
paths_short bytes at paths next stands = counted_all _ name IsShortName name_short bytes at paths next stands

-- a shape that stands has few fields and short texts
shape_spelled : (of : SchemaKind) (bytes : List ℕ) (at : ℕ) (found : Shape) (next : ℕ) → (shape_of of).Stands bytes at found next → ShapeIsSpelled found
unfolding shape_of made both nothing ◌>>=◌
shape_spelled kind.Object bytes at found next (all, mid, stands, is) =
    subst ShapeIsSpelled (sym is.0) (record { few = fields_few bytes at all mid stands; short = fields_short bytes at all mid stands })
shape_spelled kind.KeyedObject bytes at found next (pair, mid, (paths, behind, keys, (all, end, stands, are)), is) =
    subst ShapeIsSpelled (sym (is.0 ∙ ap (λ (p : List (List ℕ) × List Field). Shape.Object (Some p.0) p.1) are.0)) (record {
      few = fields_few bytes behind all end stands;
      short = All-append IsShortName paths (flat_map field_texts all) (paths_short bytes at paths behind keys) (fields_short bytes behind all end stands);
    })
shape_spelled kind.Set bytes at found next (element, mid, stands, is) =
    subst ShapeIsSpelled (sym is.0) (record { few = omega arith; short = All-cons IsShortName element [] (name_short bytes at element mid stands) (All-nil IsShortName) })
shape_spelled kind.List bytes at found next (element, mid, stands, is) =
    subst ShapeIsSpelled (sym is.0) (record { few = omega arith; short = All-cons IsShortName element [] (name_short bytes at element mid stands) (All-nil IsShortName) })
shape_spelled kind.Map bytes at found next (pair, mid, (key, behind, first, (value, end, second, are)), is) =
    subst ShapeIsSpelled (sym (is.0 ∙ ap (λ (p : List ℕ × List ℕ). Shape.Map p.0 p.1) are.0)) (record {
      few = omega arith;
      short = All-cons IsShortName key (value ∷ []) (name_short bytes at key behind first) (All-cons IsShortName value [] (name_short bytes behind value end second) (All-nil IsShortName));
    })

-- ---- schemas

-- a schema that stands has few fields and short texts
pub schema_spelled : (bytes : List ℕ) (at : ℕ) (s : Schema) (next : ℕ) → schema.Stands bytes at s next → IsSpelled s
unfolding schema nothing ◌>>=◌
schema_spelled bytes at s next (of, behind, kinds, (text, mid, named, (shape, end, stands, is))) =
    let found = shape_spelled of bytes mid shape end stands in
    subst IsSpelled (sym is.0) (record { few = found.few; short = All-cons IsShortName text (shape_texts shape) (name_short bytes behind text mid named) found.short })

-- what holds of each schema holds of the one at an index
at_index : {A : Type 0} (P : A → Type 0) (xs : List A) (t : ℕ) (x : A) → All P xs → slice_get xs t ≡ Some x → P x
at_index {A} P xs t x all at = subst P (get_or_from_slice_get xs t x x at) (All-get_or P xs t x (slice_get_within xs t x at) all)

-- few schemas with few fields each are not too many
pub kept_sizes : (schemas : List Schema) → length schemas ≤ 512 → All IsSpelled schemas → IsKept schemas TooMany
kept_sizes schemas few all t (s, at, inl past) = absurd (omega (arith, few, past, slice_get_within schemas t s at))
kept_sizes schemas few all t (s, at, inr many) = absurd (let fit = (at_index IsSpelled schemas t s all at).few in omega (arith, fit, many))

-- no text of them is too long
pub kept_lengths : (schemas : List Schema) → All IsSpelled schemas → IsKept schemas LongName
kept_lengths schemas all t (s, at, (k, text, inside, is, long)) =
    let short : IsShortName text = subst IsShortName is (All-get_or IsShortName (texts_of s) k text inside (at_index IsSpelled schemas t s all at).short) in
    absurd (omega (arith, short, long))

-- the schemas of types that stand behind their number, which is 512 at most, are few, and each is spelled where that of each type is
pub counted_spelled : {A : Type 0} (number : Form ℕ) (a : Form A) (schema_of : A → Schema) →
    ((bytes : List ℕ) (at : ℕ) (x : A) (next : ℕ) → a.Stands bytes at x next → IsSpelled (schema_of x)) →
    (bytes : List ℕ) (at : ℕ) (xs : List A) (next : ℕ) → (counted (at_most number 512) a).Stands bytes at xs next →
    (length (map schema_of xs) ≤ 512) × All IsSpelled (map schema_of xs)
counted_spelled number a schema_of each bytes at xs next stands =
    let few = counted_few number 512 a bytes at xs next stands in
    (omega (arith, few, length-map xs schema_of), All-map IsSpelled schema_of xs (counted_all (at_most number 512) a (λ x. IsSpelled (schema_of x)) each bytes at xs next stands))

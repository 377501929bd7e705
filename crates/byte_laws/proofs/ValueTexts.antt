-- Each text in a value of JSON is UTF-8, so the names of schemas that it stands for are texts.
use Rattle.std.proofs.Common.{◌≡◌, ℕ, List, [], ◌∷◌, Option, Some, None, Vec, BTreeMap, String, Global, string_bytes, nat_cmp, refl, sym, ap, subst, ◌∙◌, Ordering, Less, Equal, Greater}
use Rattle.std.specs.Prelude.{All, IsUtf8, IfSome, IsSomeAnd, codes}
use Rattle.std.specs.Cmp.Lexicographic.{slice_cmp}
use Rattle.std.specs.Ordering.{match_ordering}
use Rattle.std.proofs.lemmas.List.Elements.{All-cons, All-nil}
use Rattle.std.proofs.lemmas.Str.{IsUtf8-string_bytes}
use Rattle.serde_json.specs.Data.{Data, string, array, object, Items}
use Rattle.serde_json.specs.Find.{get, get_member}
use Rattle.serde_json.specs.View.{view, view_step, items_view, members_view}
use Rattle.serde_json.specs.declared.value.Value.{Value, Null, Bool, Number, String as Text, Array', Object', out-Value, map-Value, fold_out-Value}
use Rattle.serde_json.specs.declared.value.Value.TheOpen.{Value-F}
use Rattle.serde_json.specs.declared.value.Value.TheVariants.{outs-Null, outs-Bool, outs-Number, outs-String, outs-Array', outs-Object'}
use Rattle.schema_model.specs.declared.schema.Field.{Field}
use Rattle.schema_model.specs.declared.schema.FieldKind.{FieldKind}
use Rattle.schema_model.specs.declared.schema.Schema.{Schema}
use Rattle.schema_model.specs.declared.schema.Shape.{Shape}
use Rattle.schema_model.specs.declared.schema.name.Name.{Name}
use Rattle.schema_model.specs.Schema.{EachName, EachNameOfField, EachNameOfKind, EachNameOfShape}
use Rattle.json_values.specs.SchemaJson.{HasKey, HasParts, HasTarget, HasText, IsArrayOf, IsField, IsKindName, IsSchema, IsText, ItemsAre, StandsFor}

-- a text is UTF-8, and what an array or an object holds are values
abbrev IsShown : Data → Type 0
IsShown (string text) = IsUtf8 text
IsShown (array items) = (values : List Value) × (items ≡ items_view values)
IsShown (object members) = (entries : List (String Global × Value)) × (members ≡ members_view entries)
IsShown _ = Unit {0}

by_layer : (value : Value) (layer : Value-F Value) → out-Value value ≡ layer → IsShown (view_step (map-Value Value Data view layer)) → IsShown (view value)
by_layer value layer is of_layer = subst IsShown (sym (fold_out-Value Data view_step value ∙ ap (λ x. view_step (map-Value Value Data view x)) is)) of_layer

array_shown : (value : Value) (values : Vec Value Global) → out-Value value ≡ Value-F.Array values → IsShown (view value)
array_shown value values is = by_layer value (Value-F.Array values) is (values.items, refl)

object_shown : (value : Value) (held_members : BTreeMap (String Global) Value) → out-Value value ≡ Value-F.Object held_members → IsShown (view value)
object_shown value held_members is = by_layer value (Value-F.Object held_members) is (held_members.entries, refl)

shown : (value : Value) → IsShown (view value)
shown Null = by_layer Null _ outs-Null tt
shown (Bool b) = by_layer (Bool b) _ (outs-Bool b) tt
shown (Number n) = by_layer (Number n) _ (outs-Number n) tt
shown (Text s) = by_layer (Text s) _ (outs-String s) (IsUtf8-string_bytes s)
shown (Array' shape subs) = array_shown _ _ (outs-Array' shape subs)
shown (Object' shape subs) = object_shown _ _ (outs-Object' shape subs)

text_shown : (value : Value) (text : List ℕ) → view value ≡ string text → IsUtf8 text
text_shown value text is = subst IsShown is (shown value)

-- ---- what a value holds

by_order : (o : Ordering) (here d : Data) (rest : Option Data) (Found : Type 0) → (here ≡ d → Found) → (rest ≡ Some d → Found) → match_ordering o rest (Some here) rest ≡ Some d → Found
by_order Less here d rest Found now later is = later is
by_order Equal here d rest Found now later is = now cc
by_order Greater here d rest Found now later is = later is

among : (name : List ℕ) (entries : List (String Global × Value)) (d : Data) → get_member name (members_view entries) ≡ Some d → (value : Value) × (view value ≡ d)
among name [] d is = absurd cc
among name (entry ∷ entries) d is =
    by_order (slice_cmp nat_cmp name (string_bytes entry.0)) (view entry.1) d (get_member name (members_view entries)) ((value : Value) × (view value ≡ d))
    (λ same. (entry.1, same)) (λ later. among name entries d later) is

in_members : (shape : Data) (name : List ℕ) (d : Data) → IsShown shape → get name shape ≡ Some d → (value : Value) × (view value ≡ d)
in_members (object held_members) name d (entries, same) is = among name entries d (ap (get_member name) (sym same) ∙ is)
in_members _ name d shown is = absurd cc

held : (value : Value) (name : List ℕ) (d : Data) → get name (view value) ≡ Some d → (inner : Value) × (view inner ≡ d)
held value name d is = in_members (view value) name d (shown value) is

has_text : (value : Value) (name text : List ℕ) → HasText (view value) name text → IsUtf8 text
has_text value name text has = let (inner, is) = held value name (string text) has in text_shown inner text is

module _ {A : Type 0} (R : Data → A → Type 0) (P : A → Type 0) (each : (value : Value) (x : A) → R (view value) x → P x) where
  all_items : (values : List Value) (xs : List A) → ItemsAre R (items_view values) xs → All P xs
  all_items [] [] are = All-nil P
  all_items [] (x ∷ xs) are = absurd are
  all_items (value ∷ values) [] are = absurd are
  all_items (value ∷ values) (x ∷ xs) are = All-cons P x xs (each value x are.0) (all_items values xs are.1)

  of_array : (d : Data) (xs : List A) → IsShown d → IsArrayOf R d xs → All P xs
  of_array (array items) xs (values, same) are = all_items values xs (subst (λ (is : Items). ItemsAre R is xs) same are)
  of_array _ xs shown are = absurd are

  all_held : (value : Value) (xs : List A) → IsArrayOf R (view value) xs → All P xs
  all_held value xs are = of_array (view value) xs (shown value) are

  all_under : (value : Value) (name : List ℕ) (xs : List A) (found : Option Data) → get name (view value) ≡ found → IsSomeAnd found (λ d. IsArrayOf R d xs) → All P xs
  all_under value name xs None is are = absurd are
  all_under value name xs (Some d) is are =
      let (inner, same) = held value name d is in
      all_held inner xs (subst (λ (x : Data). IsArrayOf R x xs) (sym same) are)

-- ---- the names of schemas

kind_texts : (value : Value) (kind : FieldKind) → HasTarget (view value) kind → EachNameOfKind IsUtf8 kind
kind_texts value (FieldKind.Reference to) has = has_text value (codes "to") to has.0
kind_texts value _ has = tt

field_texts : (value : Value) (field : Field) → IsField IsKindName (view value) field → EachNameOfField IsUtf8 field
field_texts value field is = record { name = has_text value (codes "name") field.name is.name; kind = kind_texts value field.kind is.target }

path_texts : (value : Value) (path : Name) → IsText (view value) path → IsUtf8 path
path_texts value path is = text_shown value path is

key_texts : (value : Value) (key : Option (List Name)) → HasKey (view value) key → IfSome key (All IsUtf8)
key_texts value None has = tt
key_texts value (Some paths) has = all_under IsText IsUtf8 path_texts value (codes "key") paths (get (codes "key") (view value)) refl has.0

shape_texts : (value : Value) (shape : Shape) → HasParts IsKindName (view value) shape → EachNameOfShape IsUtf8 shape
shape_texts value (Shape.Object key fields) has = record {
  paths = key_texts value key has.1;
  parts = all_under (IsField IsKindName) (EachNameOfField IsUtf8) field_texts value (codes "fields") fields (get (codes "fields") (view value)) refl has.0;
}
shape_texts value (Shape.Set element) has = has_text value (codes "element") element has.0
shape_texts value (Shape.List element) has = has_text value (codes "element") element has.0
shape_texts value (Shape.Map key element) has = (has_text value (codes "key") key has.0, has_text value (codes "value") element has.1)

schema_texts : (value : Value) (schema : Schema) → IsSchema IsKindName (view value) schema → EachName IsUtf8 schema
schema_texts value schema is = record { name = has_text value (codes "name") schema.name is.name; shape = shape_texts value schema.shape is.parts }

pub named_texts : (value : Value) (schemas : List Schema) → StandsFor (view value) schemas → All (EachName IsUtf8) schemas
named_texts value schemas stands = all_held (IsSchema IsKindName) (EachName IsUtf8) schema_texts value schemas stands

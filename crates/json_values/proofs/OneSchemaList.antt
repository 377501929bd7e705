-- A value stands for one list of schemas at most.
use Rattle.std.proofs.Common.{◌≡◌, ℕ, List, [], ◌∷◌, Option, Some, None, Result, Ok, Err, codes, refl, sym, ◌∙◌, ap, subst, inl, inr, ◌⊎◌, arith, suc, zero}
use Rattle.std.specs.Prelude.{IsSomeAnd, if◌then◌else◌, option_and_then}
use Rattle.std.specs.Str.{bytes_eq}
use Rattle.std.proofs.lemmas.Bool.{cases_order}
use Rattle.hol_varint.specs.Yields.{Yields}
use Rattle.serde_json.specs.Data.{Data, null, boolean, number, string, array, object, Items, no_items, item}
use Rattle.serde_json.specs.Find.{at, get_item}
use Rattle.closed_rows.specs.Dangling.{IsPlain}
use Rattle.schema_model.specs.Schema.{kind_name}
use Rattle.schema_model.specs.Model.{rule_place}
use Rattle.schema_model.specs.declared.schema.name.Name.{Name}
use Rattle.schema_model.specs.declared.schema.Field.{Field}
use Rattle.schema_model.specs.declared.schema.FieldKind.{FieldKind}
use Rattle.schema_model.specs.declared.schema.Schema.{Schema}
use Rattle.schema_model.specs.declared.schema.Shape.{Shape}
use Rattle.schema_model.specs.declared.model.rule.Rule.{Rule}
use Rattle.json_values.specs.declared.fault.SchemasFault.{SchemasFault}
use Rattle.json_values.specs.SchemaJson.{AreSchemas, HasKey, HasParts, HasTarget, HasText, IsArrayOf, IsField, IsKindName, IsKindOrFloat, IsSchema, IsText, ItemsAre, StandsFor, StandsForWithFloats, shape_name}
use Rattle.json_values.specs.SchemasFrom.{HasFloat, HasFloatAt, BreaksWithFloats, IsFirstWithFloats, IsFloatField, IsFreeSchemas, IsRefused, TellsSchemas}
use Rattle.json_values.proofs.SchemaShapes.{differ, same_text, reference_kind}

-- the plain kind of a name; FLOAT and DOUBLE go with BOOLEAN
abbrev kind_of_name : List ℕ → FieldKind
kind_of_name text =
    if bytes_eq text (codes "INT") then FieldKind.Int
    else if bytes_eq text (codes "LONG") then FieldKind.Long
    else if bytes_eq text (codes "STRING") then FieldKind.Text
    else if bytes_eq text (codes "BYTES") then FieldKind.Bytes
    else FieldKind.Boolean

plain_named : (text : List ℕ) (kind : FieldKind) → IsPlain kind → IsKindOrFloat kind text → kind ≡ kind_of_name text
plain_named text (FieldKind.Reference to) plain named = absurd plain
plain_named text FieldKind.Int plain (inl e) = subst (λ t. FieldKind.Int ≡ kind_of_name t) (sym e) refl
plain_named text FieldKind.Long plain (inl e) = subst (λ t. FieldKind.Long ≡ kind_of_name t) (sym e) refl
plain_named text FieldKind.Boolean plain (inl e) = subst (λ t. FieldKind.Boolean ≡ kind_of_name t) (sym e) refl
plain_named text FieldKind.Text plain (inl e) = subst (λ t. FieldKind.Text ≡ kind_of_name t) (sym e) refl
plain_named text FieldKind.Bytes plain (inl e) = subst (λ t. FieldKind.Bytes ≡ kind_of_name t) (sym e) refl
plain_named text kind plain (inr (e, inl float)) = e ∙ subst (λ t. FieldKind.Boolean ≡ kind_of_name t) (sym float) refl
plain_named text kind plain (inr (e, inr float)) = e ∙ subst (λ t. FieldKind.Boolean ≡ kind_of_name t) (sym float) refl

plain_once : (text : List ℕ) (kind other : FieldKind) → IsPlain kind → IsPlain other → IsKindOrFloat kind text → IsKindOrFloat other text → kind ≡ other
plain_once text kind other plain plain' named named' = plain_named text kind plain named ∙ sym (plain_named text other plain' named')

-- a plain kind is no REFERENCE
not_both : (text : List ℕ) (to : Name) (kind : FieldKind) → IsKindOrFloat (FieldKind.Reference to) text → IsPlain kind → IsKindOrFloat kind text → ⊥
not_both text to kind (inl e) plain named = reference_kind text kind e named plain
not_both text to kind (inr (e, float)) plain named = cc

kind_once : (value : Data) (text : List ℕ) (kind other : FieldKind) → IsKindOrFloat kind text → HasTarget value kind → IsKindOrFloat other text → HasTarget value other → kind ≡ other
kind_once value text (FieldKind.Reference a) (FieldKind.Reference b) n t n' t' = ap FieldKind.Reference (same_text value (codes "to") t.0 t'.0)
kind_once value text (FieldKind.Reference a) other n t n' t' = absurd (not_both text a other n tt n')
kind_once value text kind (FieldKind.Reference b) n t n' t' = absurd (not_both text b kind n' tt n)
kind_once value text kind other n t n' t' = plain_once text kind other tt tt n n'

field_once : (value : Data) (field other : Field) → IsField IsKindOrFloat value field → IsField IsKindOrFloat value other → field ≡ other
field_once value field other is is' =
    let name : field.name ≡ other.name = same_text value (codes "name") is.name is'.name in
    let text : is.kind.0 ≡ is'.kind.0 = same_text value (codes "type") is.kind.1 is'.kind.1 in
    let kind : field.kind ≡ other.kind =
    kind_once value is'.kind.0 field.kind other.kind (subst (IsKindOrFloat field.kind) text is.kind.2) is.target is'.kind.2 is'.target in
    λ i. record { name = name i; kind = kind i }

-- where an item stands for one thing at most, items stand for one list
items_once : {A : Type 0} (R : Data → A → Type 0) → ((value : Data) (x y : A) → R value x → R value y → x ≡ y)
    → (items : Items) (xs ys : List A) → ItemsAre R items xs → ItemsAre R items ys → xs ≡ ys
items_once R once no_items [] [] are are' = refl
items_once R once no_items (x ∷ xs) ys are are' = absurd are
items_once R once no_items [] (y ∷ ys) are are' = absurd are'
items_once R once (item d items) [] ys are are' = absurd are
items_once R once (item d items) (x ∷ xs) [] are are' = absurd are'
items_once R once (item d items) (x ∷ xs) (y ∷ ys) are are' =
    let first = once d x y are.0 are'.0 in let rest = items_once R once items xs ys are.1 are'.1 in λ i. first i ∷ rest i

array_once : {A : Type 0} (R : Data → A → Type 0) → ((value : Data) (x y : A) → R value x → R value y → x ≡ y)
    → (value : Data) (xs ys : List A) → IsArrayOf R value xs → IsArrayOf R value ys → xs ≡ ys
array_once R once null xs ys are are' = absurd are
array_once R once (boolean b) xs ys are are' = absurd are
array_once R once (number n) xs ys are are' = absurd are
array_once R once (string text) xs ys are are' = absurd are
array_once R once (array items) xs ys are are' = items_once R once items xs ys are are'
array_once R once (object _) xs ys are are' = absurd are

found_once : {A : Type 0} (R : Data → A → Type 0) → ((value : Data) (x y : A) → R value x → R value y → x ≡ y)
    → (found : Option Data) (xs ys : List A) → IsSomeAnd found (λ d. IsArrayOf R d xs) → IsSomeAnd found (λ d. IsArrayOf R d ys) → xs ≡ ys
found_once R once None xs ys are are' = absurd are
found_once R once (Some d) xs ys are are' = array_once R once d xs ys are are'

text_once : (value : Data) (a b : Name) → IsText value a → IsText value b → a ≡ b
text_once value a b is is' = let e : string a ≡ string b = sym is ∙ is' in cc

key_once : (value : Data) (key other : Option (List Name)) → HasKey value key → HasKey value other → key ≡ other
key_once value None None has has' = refl
key_once value None (Some paths) has has' = absurd (subst (λ o. IsSomeAnd o (λ d. IsArrayOf IsText d paths)) has.0 has'.0)
key_once value (Some paths) None has has' = absurd (subst (λ o. IsSomeAnd o (λ d. IsArrayOf IsText d paths)) has'.0 has.0)
key_once value (Some paths) (Some others) has has' = ap Some (found_once IsText text_once _ paths others has.0 has'.0)

shape_once : (value : Data) (shape other : Shape) → shape_name shape ≡ shape_name other → HasParts IsKindOrFloat value shape → HasParts IsKindOrFloat value other → shape ≡ other
shape_once value (Shape.Object key fields) (Shape.Object key' fields') e has has' =
    let keys = key_once value key key' has.1 has'.1 in
    let same = found_once (IsField IsKindOrFloat) field_once _ fields fields' has.0 has'.0 in λ i. Shape.Object (keys i) (same i)
shape_once value (Shape.Set a) (Shape.Set b) e has has' = ap Shape.Set (same_text value (codes "element") has.0 has'.0)
shape_once value (Shape.List a) (Shape.List b) e has has' = ap Shape.List (same_text value (codes "element") has.0 has'.0)
shape_once value (Shape.Map key a) (Shape.Map key' b) e has has' =
    let keys = same_text value (codes "key") has.0 has'.0 in let same = same_text value (codes "value") has.1 has'.1 in λ i. Shape.Map (keys i) (same i)
shape_once value shape other e has has' = absurd (differ e refl refl)

schema_once : (value : Data) (schema other : Schema) → IsSchema IsKindOrFloat value schema → IsSchema IsKindOrFloat value other → schema ≡ other
schema_once value schema other is is' =
    let name : schema.name ≡ other.name = same_text value (codes "name") is.name is'.name in
    let shape : schema.shape ≡ other.shape = shape_once value schema.shape other.shape (same_text value (codes "kind") is.kind is'.kind) is.parts is'.parts in
    λ i. record { name = name i; shape = shape i }

schemas_once : (value : Data) (schemas others : List Schema) → StandsForWithFloats value schemas → StandsForWithFloats value others → schemas ≡ others
schemas_once value schemas others are are' = array_once (IsSchema IsKindOrFloat) schema_once value schemas others are are'

-- what stands for something in a narrow sense, does so in a wide one
items_wider : {A : Type 0} (R S : Data → A → Type 0) → ((value : Data) (x : A) → R value x → S value x) → (items : Items) (xs : List A) → ItemsAre R items xs → ItemsAre S items xs
items_wider R S wider no_items [] are = tt
items_wider R S wider no_items (x ∷ xs) are = absurd are
items_wider R S wider (item d items) [] are = absurd are
items_wider R S wider (item d items) (x ∷ xs) are = (wider d x are.0, items_wider R S wider items xs are.1)

array_wider : {A : Type 0} (R S : Data → A → Type 0) → ((value : Data) (x : A) → R value x → S value x) → (value : Data) (xs : List A) → IsArrayOf R value xs → IsArrayOf S value xs
array_wider R S wider null xs are = absurd are
array_wider R S wider (boolean b) xs are = absurd are
array_wider R S wider (number n) xs are = absurd are
array_wider R S wider (string text) xs are = absurd are
array_wider R S wider (array items) xs are = items_wider R S wider items xs are
array_wider R S wider (object _) xs are = absurd are

field_wider : (value : Data) (field : Field) → IsField IsKindName value field → IsField IsKindOrFloat value field
field_wider value field is = record { name = is.name; kind = (is.kind.0, is.kind.1, inl is.kind.2); target = is.target }

found_wider : (found : Option Data) (fields : List Field) → IsSomeAnd found (λ d. IsArrayOf (IsField IsKindName) d fields) → IsSomeAnd found (λ d. IsArrayOf (IsField IsKindOrFloat) d fields)
found_wider None fields are = absurd are
found_wider (Some d) fields are = array_wider (IsField IsKindName) (IsField IsKindOrFloat) field_wider d fields are

parts_wider : (value : Data) (shape : Shape) → HasParts IsKindName value shape → HasParts IsKindOrFloat value shape
parts_wider value (Shape.Object key fields) has = (found_wider _ fields has.0, has.1)
parts_wider value (Shape.Set element) has = has
parts_wider value (Shape.List element) has = has
parts_wider value (Shape.Map key element) has = has

schema_wider : (value : Data) (schema : Schema) → IsSchema IsKindName value schema → IsSchema IsKindOrFloat value schema
schema_wider value schema is = record { name = is.name; kind = is.kind; parts = parts_wider value schema.shape is.parts }

schemas_wider : (value : Data) (schemas : List Schema) → StandsFor value schemas → StandsForWithFloats value schemas
schemas_wider value schemas are = array_wider (IsSchema IsKindName) (IsSchema IsKindOrFloat) schema_wider value schemas are

-- a value stands for one list of schemas
pub one_list : (value : Data) (schemas others : List Schema) → StandsFor value schemas → StandsFor value others → schemas ≡ others
one_list value schemas others are are' = schemas_once value schemas others (schemas_wider value schemas are) (schemas_wider value others are')

-- a field of a model is no FLOAT or DOUBLE
not_float : (value : Data) (field : Field) → IsField IsKindName value field → IsFloatField value → ⊥
not_float value field is (text, has, float) = named field.kind (sym (same_text value (codes "type") is.kind.1 has) ∙ is.kind.2) float
  where
    named : (kind : FieldKind) → text ≡ kind_name kind → (text ≡ codes "FLOAT") ⊎ (text ≡ codes "DOUBLE") → ⊥
    named (FieldKind.Reference to) e (inl f) = differ e f refl
    named (FieldKind.Reference to) e (inr f) = differ e f refl
    named FieldKind.Int e (inl f) = differ e f refl
    named FieldKind.Int e (inr f) = differ e f refl
    named FieldKind.Long e (inl f) = differ e f refl
    named FieldKind.Long e (inr f) = differ e f refl
    named FieldKind.Boolean e (inl f) = differ e f refl
    named FieldKind.Boolean e (inr f) = differ e f refl
    named FieldKind.Text e (inl f) = differ e f refl
    named FieldKind.Text e (inr f) = differ e f refl
    named FieldKind.Bytes e (inl f) = differ e f refl
    named FieldKind.Bytes e (inr f) = differ e f refl

fields_not_float : (items : Items) (fields : List Field) → ItemsAre (IsField IsKindName) items fields → (k : ℕ) → IsSomeAnd (get_item k items) IsFloatField → ⊥
fields_not_float no_items fields are k some = some
fields_not_float (item d items) [] are k some = are
fields_not_float (item d items) (f ∷ fields) are zero some = not_float d f are.0 some
fields_not_float (item d items) (f ∷ fields) are (suc k) some = fields_not_float items fields are.1 k some

found_not_float : (found : Option Data) (fields : List Field) → IsSomeAnd found (λ d. IsArrayOf (IsField IsKindName) d fields)
    → (k : ℕ) → IsSomeAnd (option_and_then (at k) found) IsFloatField → ⊥
found_not_float None fields are k some = are
found_not_float (Some null) fields are k some = are
found_not_float (Some (boolean b)) fields are k some = are
found_not_float (Some (number n)) fields are k some = are
found_not_float (Some (string text)) fields are k some = are
found_not_float (Some (array items)) fields are k some = fields_not_float items fields are k some
found_not_float (Some (object _)) fields are k some = are

schema_not_float : (value : Data) (schema : Schema) → IsSchema IsKindName value schema → HasFloat value → ⊥
schema_not_float value schema is float = by_shape schema.shape is.kind is.parts
  where
    by_shape : (shape : Shape) → HasText value (codes "kind") (shape_name shape) → HasParts IsKindName value shape → ⊥
    by_shape (Shape.Object key fields) kind has = found_not_float _ fields has.0 float.1.0 float.1.1
    by_shape (Shape.Set element) kind has = differ (same_text value (codes "kind") kind float.0) refl refl
    by_shape (Shape.List element) kind has = differ (same_text value (codes "kind") kind float.0) refl refl
    by_shape (Shape.Map key element) kind has = differ (same_text value (codes "kind") kind float.0) refl refl

schemas_not_float : (items : Items) (schemas : List Schema) → ItemsAre (IsSchema IsKindName) items schemas → (t : ℕ) → IsSomeAnd (get_item t items) HasFloat → ⊥
schemas_not_float no_items schemas are t some = some
schemas_not_float (item d items) [] are t some = are
schemas_not_float (item d items) (s ∷ schemas) are zero some = schema_not_float d s are.0 some
schemas_not_float (item d items) (s ∷ schemas) are (suc t) some = schemas_not_float items schemas are.1 t some

-- a list that stands for schemas has no FLOAT or DOUBLE
none_has_float : (value : Data) (schemas : List Schema) → StandsFor value schemas → (t : ℕ) → HasFloatAt value t → ⊥
none_has_float null schemas are t some = are
none_has_float (boolean b) schemas are t some = are
none_has_float (number n) schemas are t some = are
none_has_float (string text) schemas are t some = are
none_has_float (array items) schemas are t some = schemas_not_float items schemas are t some
none_has_float (object _) schemas are t some = are

-- a rule has its place alone
rule_at_place : (rule other : Rule) → rule_place rule ≡ rule_place other → rule ≡ other
rule_at_place Rule.TooMany Rule.TooMany e = refl
rule_at_place Rule.LongName Rule.LongName e = refl
rule_at_place Rule.DuplicateName Rule.DuplicateName e = refl
rule_at_place Rule.FloatField Rule.FloatField e = refl
rule_at_place Rule.UnknownType Rule.UnknownType e = refl
rule_at_place Rule.CyclicModel Rule.CyclicModel e = refl
rule_at_place Rule.TooDeep Rule.TooDeep e = refl
rule_at_place Rule.BadPath Rule.BadPath e = refl
rule_at_place rule other e = absurd (omega (arith, e))

-- one rule is broken first, and by one type
first_once : (value : Data) (schemas : List Schema) (rule other : Rule) (t u : ℕ) → IsFirstWithFloats value schemas rule t → IsFirstWithFloats value schemas other u
    → (rule ≡ other) × (t ≡ u)
first_once value schemas rule other t u is is' = elim (cases_order (rule_place rule) (rule_place other)) [
  | inl same ↦ by_place (rule_at_place rule other same)
  | inr (inl before) ↦ absurd (is'.earlier rule before t is.broken)
  | inr (inr behind) ↦ absurd (is.earlier other behind u is'.broken)
]
  where
    by_place : rule ≡ other → (rule ≡ other) × (t ≡ u)
    by_place same =
        let there : BreaksWithFloats value schemas other t = subst (λ r. BreaksWithFloats value schemas r t) same is.broken in
        let here : BreaksWithFloats value schemas rule u = subst (λ r. BreaksWithFloats value schemas r u) (sym same) is'.broken in
        elim (cases_order t u) [
          | inl e ↦ (same, e)
          | inr (inl below) ↦ absurd (is'.least t below there)
          | inr (inr above) ↦ absurd (is.least u above here)
        ]

refused_once : (value : Data) (rule other : Rule) (t u : ℕ) → IsRefused value rule t → IsRefused value other u → (rule ≡ other) × (t ≡ u)
refused_once value rule other t u (schemas, are, some, is) (others, are', some', is') =
    let same = schemas_once value schemas others are are' in
    first_once value others rule other t u (subst (λ s. IsFirstWithFloats value s rule t) same is) is'

-- `Shape` comes exactly where there is no list of schemas
pub shape_exactly : (value : Data) (result : Result (List Schema) SchemasFault) → TellsSchemas value result → Yields IsFreeSchemas result (Err SchemasFault.Shape) (AreSchemas value → ⊥)
shape_exactly value (Ok schemas) tells = (λ e. absurd cc, λ none. absurd (none (schemas, schemas_wider value schemas tells)))
shape_exactly value (Err SchemasFault.Shape) tells = (λ e. tells, λ none. inl refl)
shape_exactly value (Err (SchemasFault.Rule rule t)) tells = (λ e. absurd cc, λ none. absurd (none (tells.0, tells.1)))
shape_exactly value (Err SchemasFault.Memory) tells = (λ e. absurd cc, λ none. inr tt)

-- the schemas come exactly where the value stands for them
pub made_exactly : (value : Data) (result : Result (List Schema) SchemasFault) → TellsSchemas value result → (schemas : List Schema)
    → Yields IsFreeSchemas result (Ok schemas) (StandsFor value schemas)
made_exactly value (Ok found) tells schemas = (
  λ e. let same : found ≡ schemas = cc in subst (StandsFor value) same tells,
  λ stands. inl (ap Ok (schemas_once value found schemas (schemas_wider value found tells) (schemas_wider value schemas stands))),
)
made_exactly value (Err SchemasFault.Shape) tells schemas = (λ e. absurd cc, λ stands. absurd (tells (schemas, schemas_wider value schemas stands)))
made_exactly value (Err (SchemasFault.Rule rule t)) tells schemas = (λ e. absurd cc, λ stands. absurd (none_has_float value schemas stands tells.2.0 tells.2.1))
made_exactly value (Err SchemasFault.Memory) tells schemas = (λ e. absurd cc, λ stands. inr tt)

-- a rule is named exactly where a list with a FLOAT or a DOUBLE breaks it first
pub rule_exactly : (value : Data) (result : Result (List Schema) SchemasFault) → TellsSchemas value result → (rule : Rule) (t : ℕ)
    → Yields IsFreeSchemas result (Err (SchemasFault.Rule rule t)) (IsRefused value rule t)
rule_exactly value (Ok schemas) tells rule t = (λ e. absurd cc, λ is. absurd (none_has_float value schemas tells is.2.0 is.2.1))
rule_exactly value (Err SchemasFault.Shape) tells rule t = (λ e. absurd cc, λ is. absurd (tells (is.0, is.1)))
rule_exactly value (Err (SchemasFault.Rule found u)) tells rule t = (
  λ e. let same : found ≡ rule = cc in let at : u ≡ t = cc in subst (λ r. IsRefused value r t) same (subst (λ v. IsRefused value found v) at tells),
  λ is. let (same, at) = refused_once value found rule u t tells is in inl (λ i. Err (SchemasFault.Rule (same i) (at i))),
)
rule_exactly value (Err SchemasFault.Memory) tells rule t = (λ e. absurd cc, λ is. inr tt)

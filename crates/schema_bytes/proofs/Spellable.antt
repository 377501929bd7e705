-- The schemas of a model can be spelled.
use Rattle.std.proofs.Common.{◌≡◌, ℕ, ◌<◌, ◌≤◌, ◌^◌, zero, suc, List, [], ◌∷◌, ◌++◌, None, Some, length, All, Any, IfSome, flat_map, option_to_list, slice_get, refl, arith, inl, inr}
use Rattle.std.specs.List.{AllByRecursion}
use Rattle.std.proofs.lemmas.Bool.{cases_lt}
use Rattle.hol_varint.specs.JavaUtf.{java_bytes}
use Rattle.hol_varint.specs.TextUnits.{text_units}
use Rattle.schema_model.specs.declared.schema.name.Name.{Name}
use Rattle.schema_model.specs.declared.model.rule.Rule.{Rule}
use Rattle.schema_model.specs.declared.schema.FieldKind.{FieldKind}
use Rattle.schema_model.specs.declared.schema.Field.{Field}
use Rattle.schema_model.specs.declared.schema.Shape.{Shape}
use Rattle.schema_model.specs.declared.schema.Schema.{Schema}
use Rattle.schema_model.specs.Parts.{field_texts, shape_texts, texts_of, referenced, fields_of, shape_key}
use Rattle.schema_model.specs.Model.{IsLongText, IsModel}
use Rattle.schema_model.specs.Schema.{IsShortName, EachNameOfKind, EachNameOfField, EachNameOfShape, IsSpellable}

at_most : (m n : ℕ) → ¬ (m < n) → n ≤ m
at_most m n never = elim (cases_lt m n) [ inl over ↦ absurd (never over) | inr within ↦ within ]

short_of : (name : Name) → ¬ IsLongText name → IsShortName name
short_of name never = let within = at_most 65535 (length (java_bytes (text_units name))) never in omega arith

each_short : (texts : List Name) → ¬ Any IsLongText texts → AllByRecursion IsShortName texts
each_short [] never = tt
each_short (text ∷ texts) never =
    (short_of text (λ long. never (0, text, omega arith, refl, long)), each_short texts (λ (k, x, lt, is, long). never (suc k, x, omega arith, is, long)))

fronts : (xs ys : List Name) → AllByRecursion IsShortName (xs ++ ys) → AllByRecursion IsShortName xs × AllByRecursion IsShortName ys
fronts [] ys h = (tt, h)
fronts (x ∷ xs) ys h = let rest = fronts xs ys h.1 in ((h.0, rest.0), rest.1)

all_of : {A : Type 0} (P : A → Type 0) (xs : List A) → AllByRecursion P xs → All P xs
all_of P [] h k d lt = absurd (omega arith)
all_of P (x ∷ xs) h zero d lt = h.0
all_of P (x ∷ xs) h (suc k) d lt = all_of P xs h.1 k d (omega arith)

kind_short : (kind : FieldKind) → AllByRecursion IsShortName (option_to_list (referenced kind)) → EachNameOfKind IsShortName kind
kind_short (FieldKind.Reference name) h = h.0
kind_short _ h = tt

fields_short : (fields : List Field) → AllByRecursion IsShortName (flat_map field_texts fields) → AllByRecursion (EachNameOfField IsShortName) fields
fields_short [] h = tt
fields_short (field ∷ fields) h =
    let parts = fronts (field_texts field) (flat_map field_texts fields) h in
    (record { name = parts.0.0; kind = kind_short field.kind parts.0.1 }, fields_short fields parts.1)

shape_short : (shape : Shape) → AllByRecursion IsShortName (shape_texts shape) → EachNameOfShape IsShortName shape
shape_short (Shape.Object None fields) h = record { paths = tt; parts = all_of (EachNameOfField IsShortName) fields (fields_short fields h) }
shape_short (Shape.Object (Some paths) fields) h =
    let parts = fronts paths (flat_map field_texts fields) h in
    record { paths = all_of IsShortName paths parts.0; parts = all_of (EachNameOfField IsShortName) fields (fields_short fields parts.1) }
shape_short (Shape.Set element) h = h.0
shape_short (Shape.List element) h = h.0
shape_short (Shape.Map key value) h = (h.0, h.1.0)

pub model_is_spellable : (schemas : List Schema) (t : ℕ) (schema : Schema) → IsModel schemas → slice_get schemas t ≡ Some schema → IfSome (shape_key schema.shape) (λ paths. length paths < 2 ^ 32) → IsSpellable schema
model_is_spellable schemas t schema model there paths =
    let short = each_short (texts_of schema) (λ long. model Rule.LongName t (schema, there, long)) in
    record {
      short = record { name = short.0; shape = shape_short schema.shape short.1 };
      few = record { fields = at_most 1024 (length (fields_of schema)) (λ over. model Rule.TooMany t (schema, there, inr over)); paths = paths };
    }
